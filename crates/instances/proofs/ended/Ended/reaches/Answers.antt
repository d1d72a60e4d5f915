use Rattle.std.proofs.Common.{◌≡◌, ◌∙◌, ap, sym, subst, is_some}
use Rattle.std.specs.FinMap.{find}
use Rattle.maps.specs.Numbered.{Place, place_cmp}
use Rattle.instances.specs.Ended.{IsPassed, with_next}
use Rattle.instances.proofs.Passing.{with_all, goes_past, is_there, is_not_there}
use Rattle.instances.proofs.ended.Ended.reaches.Goals as goal

pub loop-self-preserved : goal.loop-self-preserved
loop-self-preserved c =
    let place : Place = (c.args.number, c.args.key) in
    let before = sym c.cmp.ensures ∙ c.in-Less.is in
    let was =
    subst (λ next. (find place_cmp place (with_next next c.loop-self.self-inside.others) ≡ find place_cmp place c.args.self.now) × IsPassed c.args.self.now (with_next next c.loop-self.self-inside.others) place)
    c.in-Some.is c.loop-self.invariant in
    subst (λ left. (find place_cmp place left ≡ find place_cmp place c.args.self.now) × IsPassed c.args.self.now left place)
    (sym (with_all c.loop-self.self-inside.others c.next-self-inside.new.self c.next-self-inside.result c.next-self-inside.ensures.steps))
    (goes_past c.args.self.now c.loop-self.self-inside.others (c.in-Some.place, tt) place before was)

pub returns-in-Equal-clause-found : goal.returns-in-Equal-clause-found
returns-in-Equal-clause-found c =
    let place : Place = (c.args.number, c.args.key) in
    ap is_some
    (sym (is_there c.loop-self.self-inside.others (c.in-Some.place, tt) place (sym c.cmp.ensures ∙ c.in-Equal.is))
    ∙ sym (ap (λ next. find place_cmp place (with_next next c.loop-self.self-inside.others)) c.in-Some.is) ∙ c.loop-self.invariant.0)

pub returns-in-Greater-clause-found : goal.returns-in-Greater-clause-found
returns-in-Greater-clause-found c =
    let place : Place = (c.args.number, c.args.key) in
    let rises = subst (λ next. IsPassed c.args.self.now (with_next next c.loop-self.self-inside.others) place) c.in-Some.is c.loop-self.invariant.1 in
    ap is_some
    (sym (is_not_there c.loop-self.self-inside.others (c.in-Some.place, tt) place (sym c.cmp.ensures ∙ c.in-Greater.is) rises.rises)
    ∙ sym (ap (λ next. find place_cmp place (with_next next c.loop-self.self-inside.others)) c.in-Some.is) ∙ c.loop-self.invariant.0)
