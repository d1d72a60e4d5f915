use Rattle.std.proofs.Common.{◌∙◌, ap, sym}
use Rattle.terms.specs.Facts.{bad}
use Rattle.holdings.specs.ImageLaws.{is_fault}
use Rattle.machine.specs.Machine.{Machine}
use Rattle.machine.proofs.machine.Machine.is_working.Goals as goal

pub returns-in-Some-clause-stopped : goal.returns-in-Some-clause-stopped
returns-in-Some-clause-stopped c =
    let i = c.in-Some.instance in
    let k = c.in-Some.kind in
    ap (λ (m : Machine). is_fault m.memory.fault i k) (sym c.self.view_is) ∙ ap (λ f. is_fault f i k) c.in-Some.is ∙ (c.facts_are_told_apart.ensures.one (bad i k) (bad i k)).0
