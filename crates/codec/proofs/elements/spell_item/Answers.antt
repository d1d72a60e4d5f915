use Rattle.std.proofs.Common.{◌++◌, arith, length-append}
use Rattle.codec.specs.Spelling.{addr_bytes, producer_bytes, value_bytes}
use Rattle.codec.proofs.Roomy.{name_short}
use Rattle.codec.proofs.elements.spell_item.Goals as goal

pub returns : goal.returns
returns c = record {
  filled = c.fill_item.ensures.filled;
  within = omega (arith, c.fill_item.ensures.end_is, name_short c.args.item.now.0.collection.0 c.args.item.now.0.key c.is_short.ensures, c.producer_is_short.ensures, length-append (addr_bytes c.args.item.now.0) (value_bytes c.args.item.now.1), length-append (addr_bytes c.args.item.now.0 ++ value_bytes c.args.item.now.1) (producer_bytes c.args.item.now.2));
  length_stays = c.fill_item.ensures.length_stays;
}
