use Rattle.std.proofs.Common.{◌≡◌, ◌+◌, ◌∙◌, ℕ, Bool, true, false, List, [], drop, ap, sym, subst}
use Rattle.journal.specs.Records.{StandsFor}
use Rattle.journal.specs.Journal.{BreaksAt}
use Rattle.std.proofs.Common.{arith}
use Rattle.std.proofs.lemmas.List.{take_rest}
use Rattle.std.proofs.lemmas.Grind.{common_steps}
use Rattle.journal.proofs.Spelling.{one_meaning}
use Rattle.journal.proofs.Standing.{breaks_at, nothing_stands}
use Rattle.journal.proofs.journal.Journal.scan.Goals as goal

pub returns-then-not-begins_closed-clause-damaged : goal.returns-then-not-begins_closed-clause-damaged
returns-then-not-begins_closed-clause-damaged g c honest place is =
    let content = (g.D.Disk.files c.args.disk.now c.args.side).content in
    let end = c.in_ok-found.found.end in
    let there : c.args.at + end ≡ place = cc in
    let not_closed = λ (stands : StandsFor (drop end c.deref.result.now) []).
    let closed : ◌≡◌ {A = Bool} false true = c.if-not-begins_closed.ensures.1 (subst (λ (bytes : List ℕ). StandsFor bytes []) (ap (drop end) (c.deref.ensures.value ∙ sym c.deref-2.ensures.value) ∙ sym (take_rest c.deref-2.result.now end)) stands) in
    let never : ⊥ = cc in never in
    let breaks : BreaksAt c.args.at content place = subst (λ (place : ℕ). BreaksAt c.args.at content place) there
    (breaks_at content c.deref.result.now c.args.at end _ (c.deref.ensures.value ∙ c.in_ok-bytes.ensures.value honest) c.in_ok-found.ensures.leads c.in_ok-found.ensures.last not_closed) in
    (breaks, nothing_stands c.args.at content place breaks)

pub returns-clause-only : goal.returns-clause-only
returns-clause-only g c honest payloads stands =
    let content = (g.D.Disk.files c.args.disk.now c.args.side).content in
    let found : StandsFor (drop c.args.at content) c.at.result = grind (arith, common_steps) in
    one_meaning c.at.result payloads (drop c.args.at content) found stands
