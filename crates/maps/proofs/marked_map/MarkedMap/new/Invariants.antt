use Rattle.std.proofs.Common.{◌≡◌, ◌≤◌, length}
use Rattle.std.specs.Vec.{vec_capacity}
use Rattle.maps.proofs.Marking.{AreFresh}
use Rattle.maps.proofs.marked_map.MarkedMap.new.Given as goal

-- a word for each page so far, with a 1 for each of its entries
abbrev pub invariant-loop-page : goal.invariant-loop-page
invariant-loop-page g l = record {
  many : length l.words.items ≡ l.page;
  within : l.page ≤ l.count;
  room : l.count ≤ vec_capacity l.words;
  fresh : AreFresh l.pages.pages l.words.items;
}
