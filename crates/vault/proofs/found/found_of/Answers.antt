use Rattle.std.proofs.Common.{refl}
use Rattle.vault.proofs.found.found_of.Goals as goal

pub returns-clause-found : goal.returns-clause-found
returns-clause-found c read = record {
  is_side = read.is_side;
  kept = refl;
  side_is = refl;
  starts = read.starts;
  ends = read.ends;
  text = read.text;
}

pub returns-clause-kept : goal.returns-clause-kept
returns-clause-kept c read = record {
  is_side = read.is_side;
  kept = refl;
  side_is = refl;
  starts = read.starts;
  ends = read.ends;
  text = read.text;
}

pub returns-clause-sound : goal.returns-clause-sound
returns-clause-sound c read = record {
  bytes = c.args.bytes.items;
  is_side = read.is_side;
  ends = read.ends;
  text_is = read.text;
  numbered = read.numbered;
  collections = read.collections;
  fits = c.sides_go_on.ensures.fits _ _ _ _ _ read.is_side;
  one_item = c.one_item_each.ensures c.args.standing.holdings;
}
