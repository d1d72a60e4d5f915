use Rattle.std.proofs.Common.{◌≡◌, true, [], ◌∷◌, refl, subst, sym}
use Rattle.terms.specs.declared.producer.Producer.TheVariants.{By}
use Rattle.terms.specs.declared.put.Put.{Put}
use Rattle.terms.specs.Facts.{put_fact}
use Rattle.machine.specs.Machine.{facts}
use Rattle.machine.specs.Marked.{MarksMore}
use Rattle.audit.proofs.Beginning.{item_more}
use Rattle.audit.proofs.marking.mark_put.Goals as goal

pub returns-in-Item : goal.returns-in-Item
returns-in-Item c instance number =
    subst (λ (p : Put). facts c.args.marks.now.store (put_fact instance number p) ≡ true → MarksMore c.args.marks.now c.mark_item.new.self (put_fact instance number p ∷ [])) (sym c.in-Item.is)
    (λ there. item_more c.facts_are_told_apart.ensures.one c.args.marks.now.store c.args.marks.now c.mark_item.new.self refl c.in-Item.addr c.in-Item.field-1 (By instance number) there c.mark_item.ensures.after)
