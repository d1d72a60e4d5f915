use Rattle.std.proofs.Common.{◌∷◌, [], arith}
use Rattle.std.specs.Prelude.{if◌then◌else◌}
use Rattle.codec.proofs.Roomy.{behind_name}
use Rattle.codec.proofs.elements.spell_tag.Goals as goal

pub returns : goal.returns
returns c = record {
  filled = c.fill_marked.ensures.filled;
  within = omega (arith, c.fill_marked.ensures.end_is, behind_name c.args.tag.now.0.collection.0 c.args.tag.now.0.key ((if c.args.tag.now.1 then 1 else 0) ∷ []) c.is_short.ensures);
  length_stays = c.fill_marked.ensures.length_stays;
}
