use Rattle.std.proofs.Common.{refl, ap, ◌∙◌}
use Rattle.std.specs.Prelude.{Some}
use Rattle.steptree.specs.declared.code.Instruction.TheVariants as instruction
use Rattle.steptree.specs.Compiled.{Stands}
use Rattle.steplang.proofs.Counted.{ended, made, overspent}
use Rattle.steplang.proofs.Leads.{ok_leads}
use Rattle.steplang.proofs.machine.Machine.step.Goals as goal

pub returns-in-End-clause-leads : goal.returns-in-End-clause-leads
returns-in-End-clause-leads c =
    let there : Stands c.args.self.now.code.now c.args.progress.now.at instruction.End = c.requires.stands ∙ ap Some c.in-End.is in
    λ reads. ended c.args.self.now.code.now (Some instruction.End) _ _ c.args.progress.now.at _ there (λ onward out. refl)

pub returns-then-not-count-clause-leads : goal.returns-then-not-count-clause-leads
returns-then-not-count-clause-leads c =
    let one = instruction.For c.in-For.variable c.in-For.from c.in-For.to c.in-For.turn c.in-For.begin c.in-For.after in
    let there : Stands c.args.self.now.code.now c.args.progress.now.at one = c.requires.stands ∙ ap Some c.in-For.is in
    overspent c.args.self.now c.args.progress.now c.count.new.self c.count.result c.count.ensures.counted one there (λ state onward out. refl) c.if-not-count.true

pub returns-else-not-count-clause-leads : goal.returns-else-not-count-clause-leads
returns-else-not-count-clause-leads c =
    let one = instruction.For c.in-For.variable c.in-For.from c.in-For.to c.in-For.turn c.in-For.begin c.in-For.after in
    let there : Stands c.args.self.now.code.now c.args.progress.now.at one = c.requires.stands ∙ ap Some c.in-For.is in
    ok_leads _ _ (made c.args.self.now c.args.progress.now c.count.new.self c.count.result c.count.ensures.counted one there (λ state onward out. refl) c.if-not-count.false c.count.ensures.one) _ _ c.open.result c.open.ensures.leads

pub returns-then-not-count-2-clause-leads : goal.returns-then-not-count-2-clause-leads
returns-then-not-count-2-clause-leads c =
    let one = instruction.Do c.in-Do.statement c.in-Do.next in
    let there : Stands c.args.self.now.code.now c.args.progress.now.at one = c.requires.stands ∙ ap Some c.in-Do.is in
    overspent c.args.self.now c.args.progress.now c.count-in-Do.new.self c.count-in-Do.result c.count-in-Do.ensures.counted one there (λ state onward out. refl) c.if-not-count-2.true

pub returns-else-not-count-2-clause-leads : goal.returns-else-not-count-2-clause-leads
returns-else-not-count-2-clause-leads c =
    let one = instruction.Do c.in-Do.statement c.in-Do.next in
    let there : Stands c.args.self.now.code.now c.args.progress.now.at one = c.requires.stands ∙ ap Some c.in-Do.is in
    ok_leads _ _ (made c.args.self.now c.args.progress.now c.count-in-Do.new.self c.count-in-Do.result c.count-in-Do.ensures.counted one there (λ state onward out. refl) c.if-not-count-2.false c.count-in-Do.ensures.one) _ _ c.do_simple.result c.do_simple.ensures.leads
