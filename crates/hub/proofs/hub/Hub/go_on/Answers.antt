use Rattle.std.proofs.Common.{◌≡◌, rules, subst, sym, false, true, Bool, Option, Some, ℤ, to_z, of_z, w64}
use Rattle.std.proofs.lemmas.Bool.{false≢true}
use Rattle.std.proofs.lemmas.Int.{to_z-of_z}
use Rattle.std.proofs.lemmas.Result.{err_from_is_err_and}
use Rattle.steplang.specs.Running.{answered}
use Rattle.steplang.specs.Turns.{Tells}
use Rattle.steplang.specs.declared.outcome.Turn.{Turn}
use Rattle.steplang.specs.declared.outcome.Turn.TheVariants.{Need}
use Rattle.machine.specs.Meaning.{items}
use Rattle.commit.specs.Batch.{facts_with}
use Rattle.commit.proofs.Outcomes.{in_both}
use Rattle.hub.specs.Opening.{facts_behind}
use Rattle.hub.specs.Running.{IsFoundIn, StopsRun, kept_of}
use Rattle.hub.specs.declared.running.Found.{Found}
use Rattle.hub.specs.declared.running.Found.TheVariants.{Kept, Nowhere, There}
use Rattle.hub.proofs.Bodies.{GoesOn, fewer_left, reads_more, stops_there, there_too, waits_there}
use Rattle.hub.proofs.hub.Hub.go_on.Goals as goal

pub returns-in_err-value-in-Ok-Need-clause-refused : goal.returns-in_err-value-in-Ok-Need-clause-refused
returns-in_err-value-in-Ok-Need-clause-refused g c =
    let told : Tells (Need c.in-Ok-Need.address) (answered c.loop-address.run c.loop-address.answer) c.advance.new.self =
    subst (λ (turn : Turn). Tells turn (answered c.loop-address.run c.loop-address.answer) c.advance.new.self) c.in-Ok-Need.field-0-is c.in-Ok-Need.ensures.turn
    in
    let p = err_from_is_err_and c.from_residual.result c.from_residual.ensures.1 in
    let stops : StopsRun g.J.Naming.opening.graph (facts_with (facts_behind g.J.Naming.opening c.look.new.pass.seen) (kept_of c.args.kept)) c.args.run.instance c.in_err-value-in-Ok-Need.field-0.0 =
    stops_there c.facts_are_told_apart.ensures.among c.facts_go_on.ensures.all c.results_are_meant.ensures.stay g.J.Naming.opening (kept_of c.args.kept) c.args.pass.now c.loop-address.pass c.look.new.pass c.args.run c.loop-address.run
    c.advance.new.self c.loop-address.answer c.loop-address.ahead c.in-Ok-Need.address c.in_err-value-in-Ok-Need.field-0.0 c.requires.body c.loop-address.invariant c.look.ensures.pass told c.in_err-value-in-Ok-Need.ensures.refused
    in
    rw (p.1, p.2) stops

pub loop-address-smaller-in-Kept : goal.loop-address-smaller-in-Kept
loop-address-smaller-in-Kept g c =
    let told : Tells (Need c.in-Ok-Need.address) (answered c.loop-address.run c.loop-address.answer) c.advance.new.self =
    subst (λ (turn : Turn). Tells turn (answered c.loop-address.run c.loop-address.answer) c.advance.new.self) c.in-Ok-Need.field-0-is c.in-Ok-Need.ensures.turn
    in
    fewer_left c.ends_within_limits.ensures.reads c.loop-address.run c.advance.new.self c.loop-address.answer c.in-Ok-Need.address (to_z w64 (of_z w64 c.in-Kept.value)) told

pub loop-address-preserved-in-Kept : goal.loop-address-preserved-in-Kept
loop-address-preserved-in-Kept g c =
    let told : Tells (Need c.in-Ok-Need.address) (answered c.loop-address.run c.loop-address.answer) c.advance.new.self =
    subst (λ (turn : Turn). Tells turn (answered c.loop-address.run c.loop-address.answer) c.advance.new.self) c.in-Ok-Need.field-0-is c.in-Ok-Need.ensures.turn
    in
    let same : to_z w64 (of_z w64 c.in-Kept.value) ≡ c.in-Kept.value = to_z-of_z w64 c.in-Kept.value (search rules) in
    let X = facts_behind g.J.Naming.opening c.look.new.pass.seen in
    let there = subst (λ (found : Found). IsFoundIn X (kept_of c.args.kept) c.in-Ok-Need.address found) c.in-Kept.is c.in_ok-value-in-Ok-Need.ensures.found in
    subst (λ (value : ℤ). GoesOn g.J.Naming.opening (kept_of c.args.kept) c.args.pass.now c.look.new.pass c.args.run c.advance.new.self (Some value) true) (sym same)
    (reads_more c.facts_are_told_apart.ensures.among c.facts_go_on.ensures.all c.results_are_meant.ensures.stay g.J.Naming.opening (kept_of c.args.kept) c.args.pass.now c.loop-address.pass c.look.new.pass c.args.run c.loop-address.run
    c.advance.new.self c.loop-address.answer c.loop-address.ahead true c.in-Ok-Need.address c.in-Kept.value c.loop-address.invariant told.1 c.look.ensures.pass there (λ none. absurd (false≢true (sym none))))

pub loop-address-smaller : goal.loop-address-smaller
loop-address-smaller g c =
    let told : Tells (Need c.in-Ok-Need.address) (answered c.loop-address.run c.loop-address.answer) c.advance.new.self =
    subst (λ (turn : Turn). Tells turn (answered c.loop-address.run c.loop-address.answer) c.advance.new.self) c.in-Ok-Need.field-0-is c.in-Ok-Need.ensures.turn
    in
    fewer_left c.ends_within_limits.ensures.reads c.loop-address.run c.advance.new.self c.loop-address.answer c.in-Ok-Need.address (to_z w64 (of_z w64 c.in-There.value)) told

pub loop-address-preserved : goal.loop-address-preserved
loop-address-preserved g c =
    let told : Tells (Need c.in-Ok-Need.address) (answered c.loop-address.run c.loop-address.answer) c.advance.new.self =
    subst (λ (turn : Turn). Tells turn (answered c.loop-address.run c.loop-address.answer) c.advance.new.self) c.in-Ok-Need.field-0-is c.in-Ok-Need.ensures.turn
    in
    let same : to_z w64 (of_z w64 c.in-There.value) ≡ c.in-There.value = to_z-of_z w64 c.in-There.value (search rules) in
    let X = facts_behind g.J.Naming.opening c.look.new.pass.seen in
    let there : items X c.in-Ok-Need.address c.in-There.value = subst (λ (found : Found). IsFoundIn X (kept_of c.args.kept) c.in-Ok-Need.address found) c.in-There.is c.in_ok-value-in-Ok-Need.ensures.found in
    subst (λ (value : ℤ). GoesOn g.J.Naming.opening (kept_of c.args.kept) c.args.pass.now c.look.new.pass c.args.run c.advance.new.self (Some value) c.loop-address.ahead) (sym same)
    (reads_more c.facts_are_told_apart.ensures.among c.facts_go_on.ensures.all c.results_are_meant.ensures.stay g.J.Naming.opening (kept_of c.args.kept) c.args.pass.now c.loop-address.pass c.look.new.pass c.args.run c.loop-address.run
    c.advance.new.self c.loop-address.answer c.loop-address.ahead c.loop-address.ahead c.in-Ok-Need.address c.in-There.value c.loop-address.invariant told.1 c.look.ensures.pass
    (there_too X (kept_of c.args.kept) c.in-Ok-Need.address c.in-There.value there) (λ none. (none, there)))

pub returns-in-Nowhere-clause-came : goal.returns-in-Nowhere-clause-came
returns-in-Nowhere-clause-came g c =
    let told : Tells (Need c.in-Ok-Need.address) (answered c.loop-address.run c.loop-address.answer) c.advance.new.self =
    subst (λ (turn : Turn). Tells turn (answered c.loop-address.run c.loop-address.answer) c.advance.new.self) c.in-Ok-Need.field-0-is c.in-Ok-Need.ensures.turn
    in
    let X = facts_behind g.J.Naming.opening c.look.new.pass.seen in
    let absent = subst (λ (found : Found). IsFoundIn X (kept_of c.args.kept) c.in-Ok-Need.address found) c.in-Nowhere.is c.in_ok-value-in-Ok-Need.ensures.found in
    waits_there c.facts_are_told_apart.ensures.among c.facts_go_on.ensures.all c.results_are_meant.ensures.stay g.J.Naming.opening (kept_of c.args.kept) c.args.pass.now c.loop-address.pass c.look.new.pass c.args.run c.loop-address.run
    c.advance.new.self c.loop-address.answer c.loop-address.ahead c.in-Ok-Need.address c.requires.body c.loop-address.invariant c.look.ensures.pass told absent
