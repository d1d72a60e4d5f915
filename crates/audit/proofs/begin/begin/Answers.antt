use Rattle.terms.specs.Facts.{item}
use Rattle.terms.specs.declared.producer.Producer.TheVariants.{Env}
use Rattle.audit.proofs.Beginning.{begins, has_begun}
use Rattle.audit.proofs.begin.begin.Goals as goal

pub mark_items-requires : goal.mark_items-requires
mark_items-requires c = begins c.reached_goes_on.ensures.empty c.args.store.now c.args.marks.now c.requires

pub returns : goal.returns
returns c =
    has_begun c.args.store.now c.mark_tags.new.marks c.is_kept.ensures c.mark_tags.ensures.begun (λ address value there. c.mark_tags.ensures.grows (item address value Env) (c.mark_items.ensures.items address value there)) c.mark_tags.ensures.tags
