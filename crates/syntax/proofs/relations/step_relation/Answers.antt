use Rattle.std.proofs.Common.{refl}
use Rattle.syntax.specs.Grammar.{puts_item, puts_tag}
use Rattle.syntax.specs.Parsed.{named_of}
use Rattle.syntax.proofs.Moves.{◌⨟◌}
use Rattle.syntax.proofs.relations.step_relation.Goals as goal

pub returns-in-Item-clause-reads : goal.returns-in-Item-clause-reads
returns-in-Item-clause-reads c =
    let target = rw c.in-Item.is at c.in_ok-item.ensures in
    record {
      relation = puts_item c.args.place (named_of c.in_ok-step.step) (named_of c.in-Item.item);
      rest = _;
      spelled = refl;
      reads = c.in_ok-step.ensures.reads ⨟ (c.in_ok-sign.ensures.reads ⨟ target.reads);
      is = (refl, (refl, refl), (refl, refl));
      within = rw c.in_ok-step.ensures.within target.within;
    }

pub returns-in-Tag-clause-reads : goal.returns-in-Tag-clause-reads
returns-in-Tag-clause-reads c =
    let target = rw c.in-Tag.is at c.in_ok-item.ensures in
    record {
      relation = puts_tag c.args.place (named_of c.in_ok-step.step) (named_of c.in-Tag.tag);
      rest = _;
      spelled = refl;
      reads = c.in_ok-step.ensures.reads ⨟ (c.in_ok-sign.ensures.reads ⨟ target.reads);
      is = (refl, (refl, refl), (refl, refl));
      within = rw c.in_ok-step.ensures.within target.within;
    }
