use Rattle.std.proofs.Common.{◌∙◌, sym, ap, subst, not, is_some, IsTrue}
use Rattle.std.proofs.lemmas.Bool.{false≢true}
use Rattle.std.specs.Prelude.{◌↔◌}
use Rattle.graph.specs.Fits.{HasNoFault}
use Rattle.machine.specs.Legal.{IsQuiet}
use Rattle.machine.specs.Machine.{Machine, facts}
use Rattle.machine.specs.Memory.{environment_of, facts_of}
use Rattle.machine.specs.Status.{IsAllOfMeaning, NoneIsActive}
use Rattle.machine.proofs.Parked.{without_fault}
use Rattle.machine.proofs.Told.{idle_of, none_of, quiet}
use Rattle.machine.proofs.Worked.{no_fault_there}
use Rattle.machine.proofs.machine.Machine.is_quiet.Goals as goal

pub returns-then-is_none-clause-exact : goal.returns-then-is_none-clause-exact
returns-then-is_none-clause-exact c =
    let g = c.self.inside.graph.value in
    let m = c.self.inside.memory in
    let none = c.is_none.ensures ∙ ap not c.if-is_none.true in
    subst (λ (s : Machine). IsTrue c.is_quiet.result ↔ (HasNoFault (facts s) × NoneIsActive s)) c.self.view_is
    (λ is. (λ i kind. without_fault m.fault none i kind, idle_of g m (c.is_quiet.ensures.none.0 is)), λ both. c.is_quiet.ensures.none.1 (none_of g m both.1))

pub returns-then-is_none-clause-quiet : goal.returns-then-is_none-clause-quiet
returns-then-is_none-clause-quiet c =
    let g = c.self.inside.graph.value in
    let m = c.self.inside.memory in
    let none = c.is_none.ensures ∙ ap not c.if-is_none.true in
    subst (λ (s : Machine). IsTrue c.is_quiet.result → IsQuiet s.graph (facts s)) c.self.view_is
    (λ is. quiet c.orders_are_total.ensures.keys c.orders_are_total.ensures.keys_tie g m c.self.invariant.0 c.are_there_together.ensures (λ i kind. without_fault m.fault none i kind) (idle_of g m (c.is_quiet.ensures.none.0 is)))

pub returns-then-is_none-clause-meaning : goal.returns-then-is_none-clause-meaning
returns-then-is_none-clause-meaning c =
    let g = c.self.inside.graph.value in
    let m = c.self.inside.memory in
    let none = c.is_none.ensures ∙ ap not c.if-is_none.true in
    subst (λ (s : Machine). IsTrue c.is_quiet.result → IsAllOfMeaning s) c.self.view_is
    (λ is reached. c.reached_and_quiet.ensures.meaning g (environment_of m) (facts_of m) reached
    (quiet c.orders_are_total.ensures.keys c.orders_are_total.ensures.keys_tie g m c.self.invariant.0 c.are_there_together.ensures (λ i kind. without_fault m.fault none i kind) (idle_of g m (c.is_quiet.ensures.none.0 is))))

pub returns-else-is_none-clause-exact : goal.returns-else-is_none-clause-exact
returns-else-is_none-clause-exact c =
    let m = c.self.inside.memory in
    let some = c.is_none.ensures ∙ ap not c.if-is_none.false in
    subst (λ (s : Machine). IsTrue c.is_none.result ↔ (HasNoFault (facts s) × NoneIsActive s)) c.self.view_is
    (λ is. absurd (false≢true (sym c.if-is_none.false ∙ is)), λ both. absurd (false≢true (sym (ap is_some (no_fault_there c.facts_are_told_apart.ensures.one m.fault both.0)) ∙ some)))
