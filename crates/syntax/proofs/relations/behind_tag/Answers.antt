use Rattle.std.proofs.Common.{refl}
use Rattle.std.proofs.lemmas.List.{append-nil}
use Rattle.syntax.specs.Grammar.{prescribes}
use Rattle.syntax.specs.Parsed.{named_of}
use Rattle.syntax.proofs.Moves.{◌⨟◌}
use Rattle.syntax.proofs.relations.behind_tag.Goals as goal

pub returns-clause-reads : goal.returns-clause-reads
returns-clause-reads c =
    let step = c.in_ok-step in
    record {
      relation = prescribes (named_of c.args.tag) (named_of step.step);
      rest = _;
      spelled = refl;
      reads = c.in_ok-sign.ensures.reads ⨟ (c.in_ok-sign-2.ensures.reads ⨟ step.ensures.reads);
      is = ((refl, refl), (refl, refl));
      within = rw step.ensures.within (append-nil _);
    }
