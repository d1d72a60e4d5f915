use Rattle.std.proofs.Common.{◌∙◌, refl, arith}
use Rattle.std.proofs.Math.Bool.{and_comm}
use Rattle.steptree.specs.Names.{is_text}
use Rattle.syntax.specs.declared.tree.Relation.TheVariants as related
use Rattle.graph.specs.Tree.{is_read, is_item_put, is_tag_put, is_environment_item_put, is_environment_tag_put, is_environment_get}
use Rattle.graph.proofs.Relating.{kept, read_relates, put_relates, environment_relates, prescription_relates}
use Rattle.graph.proofs.Texts.{same_both_ways}
use Rattle.graph.proofs.relations.Relations.relate.Goals as goal

pub returns-in-Prescribes : goal.returns-in-Prescribes
returns-in-Prescribes c = λ items tags steps before numbers are.
    rw c.in-Prescribes.is
    (prescription_relates items tags steps before c.args.self.now are c.in-Prescribes.tag c.in-Prescribes.step _ _ c.prescribe.new.prescribers c.prescribe.result
    (rw numbers.tags_are at c.number.ensures.number) (c.copied.ensures ∙ c.get.ensures ∙ numbers.steps_are _) c.prescribe.ensures.faults c.prescribe.ensures.prescribed)

pub returns-in-Reads : goal.returns-in-Reads
returns-in-Reads c = λ items tags steps before numbers are.
    rw c.in-Reads.is
    (read_relates items tags steps before (λ step item. is_read item step) _ (related.Reads c.in-Reads.place c.in-Reads.item c.in-Reads.step) _ _ c.in-Reads.step c.in-Reads.item _ _ are.reads (c.copied-in-Reads.ensures ∙ c.get-in-Reads.ensures ∙ numbers.steps_are _)
    (rw numbers.items_are at c.number-in-Reads.ensures.number) (λ one. grind (arith, same_both_ways)) (λ one two. and_comm (is_text c.in-Reads.item.text.now two) (is_text c.in-Reads.step.text.now one)) c.in-Reads.place _ c.read.result refl c.read.ensures.faults c.read.ensures.marked
    (λ own. search (own, kept)))

pub returns-in-PutsItem : goal.returns-in-PutsItem
returns-in-PutsItem c = λ items tags steps before numbers are.
    rw c.in-PutsItem.is
    (put_relates items tags steps before is_item_put _ (related.PutsItem c.in-PutsItem.place c.in-PutsItem.step c.in-PutsItem.item) _ _ c.in-PutsItem.step c.in-PutsItem.item _ _ are.item_puts (c.copied-in-PutsItem.ensures ∙ c.get-in-PutsItem.ensures ∙ numbers.steps_are _)
    (rw numbers.items_are at c.number-in-PutsItem.ensures.number) (λ one. grind (arith, same_both_ways)) (λ one two. refl) c.in-PutsItem.place _ c.put.result refl c.put.ensures.faults c.put.ensures.marked
    (λ own. search (own, kept)))

pub returns-in-PutsTag : goal.returns-in-PutsTag
returns-in-PutsTag c = λ items tags steps before numbers are.
    rw c.in-PutsTag.is
    (put_relates items tags steps before is_tag_put _ (related.PutsTag c.in-PutsTag.place c.in-PutsTag.step c.in-PutsTag.tag) _ _ c.in-PutsTag.step c.in-PutsTag.tag _ _ are.tag_puts (c.copied-in-PutsTag.ensures ∙ c.get-in-PutsTag.ensures ∙ numbers.steps_are _)
    (rw numbers.tags_are at c.number-in-PutsTag.ensures.number) (λ one. grind (arith, same_both_ways)) (λ one two. refl) c.in-PutsTag.place _ c.put-in-PutsTag.result refl c.put-in-PutsTag.ensures.faults c.put-in-PutsTag.ensures.marked
    (λ own. search (own, kept)))

pub returns-in-EnvironmentPutsItem : goal.returns-in-EnvironmentPutsItem
returns-in-EnvironmentPutsItem c = λ items tags steps before numbers are.
    rw c.in-EnvironmentPutsItem.is
    (environment_relates items tags steps before is_environment_item_put _ (related.EnvironmentPutsItem c.in-EnvironmentPutsItem.place c.in-EnvironmentPutsItem.item) _ c.in-EnvironmentPutsItem.item _ _ _ _ c.environment.result are.environment_item_puts
    (rw numbers.items_are at c.number-in-EnvironmentPutsItem.ensures.number) refl (λ one. grind (arith, same_both_ways)) (λ other. refl) c.environment.ensures.faults c.environment.ensures.marked (λ own. search (own, kept)))

pub returns-in-EnvironmentPutsTag : goal.returns-in-EnvironmentPutsTag
returns-in-EnvironmentPutsTag c = λ items tags steps before numbers are.
    rw c.in-EnvironmentPutsTag.is
    (environment_relates items tags steps before is_environment_tag_put _ (related.EnvironmentPutsTag c.in-EnvironmentPutsTag.place c.in-EnvironmentPutsTag.tag) _ c.in-EnvironmentPutsTag.tag _ _ _ _ c.environment-in-EnvironmentPutsTag.result are.environment_tag_puts
    (rw numbers.tags_are at c.number-in-EnvironmentPutsTag.ensures.number) refl (λ one. grind (arith, same_both_ways)) (λ other. refl)
    c.environment-in-EnvironmentPutsTag.ensures.faults c.environment-in-EnvironmentPutsTag.ensures.marked (λ own. search (own, kept)))

pub returns-in-EnvironmentGets : goal.returns-in-EnvironmentGets
returns-in-EnvironmentGets c = λ items tags steps before numbers are.
    rw c.in-EnvironmentGets.is
    (environment_relates items tags steps before is_environment_get _ (related.EnvironmentGets c.in-EnvironmentGets.place c.in-EnvironmentGets.item) _ c.in-EnvironmentGets.item _ _ _ _ c.environment-in-EnvironmentGets.result are.environment_gets
    (rw numbers.items_are at c.number-in-EnvironmentGets.ensures.number) refl (λ one. grind (arith, same_both_ways)) (λ other. refl)
    c.environment-in-EnvironmentGets.ensures.faults c.environment-in-EnvironmentGets.ensures.marked (λ own. search (own, kept)))
