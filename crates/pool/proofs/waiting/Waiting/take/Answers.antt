use Rattle.std.proofs.Common.{◌≡◌, ◌∙◌, ◌<◌, rules, ap, get_or, length, IfSome, Option, subst, sym}
use Rattle.std.specs.Global.{Box}
use Rattle.steplang.specs.Running.{Asking, resumed}
use Rattle.pool.specs.Worked.{WaitsSince}
use Rattle.pool.proofs.Hands.{at_place, taken_out}
use Rattle.pool.proofs.waiting.Waiting.take.Goals as goal

pub returns-then-is_eq-clause-run : goal.returns-then-is_eq-clause-run
returns-then-is_eq-clause-run g c =
    let within : c.place_of-place.result < length c.args.self.now.places.items = search rules in
    let at : c.index_mut.result.now ≡ get_or c.args.self.now.places.items c.place_of-place.result c.index_mut.result.now = search rules in
    let there = at_place g.J.Naming.opening c.args.pass.now.seen c.args.self.now.places.items c.place_of-place.result c.index_mut.result.now within at c.requires in
    let since : WaitsSince g.J.Naming.opening c.args.pass.now.seen c.in-Some.parked.value =
    subst (λ (o : Option (Box Asking)). IfSome o (λ run. WaitsSince g.J.Naming.opening c.args.pass.now.seen run.value)) c.in-Some.is (subst (λ (o : Option (Box Asking)). IfSome o (λ run. WaitsSince g.J.Naming.opening c.args.pass.now.seen run.value)) (sym c.replace.ensures.value) there)
    in
    let same : c.in-Some.parked.value.instance ≡ c.args.instance.now = search rules in
    taken_out c.facts_are_told_apart.ensures.among c.facts_go_on.ensures.all c.results_are_meant.ensures.stay g.J.Naming.opening c.args.pass.now.seen c.in-Some.parked.value c.args.instance.now c.resume.result since same (c.resume.ensures ∙ ap resumed c.into_inner.ensures)
