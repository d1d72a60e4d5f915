use Rattle.std.proofs.Common.{◌≡◌, ◌⊎◌, ◌≤◌, [], length}
use Rattle.std.specs.List.{AllByRecursion}
use Rattle.maps.proofs.pages.fill_spare.Given as goal

-- the pages so far are empty, one more at each turn
abbrev pub invariant-loop-page : goal.invariant-loop-page
invariant-loop-page g l = record {
  empty : AllByRecursion (λ page. page ≡ ([], [])) l.spare.items;
  at : length l.spare.items ≡ l._page;
  more : length l.fn.spare.items ≤ length l.spare.items;
  few : (length l.spare.items ≤ l.enough) ⊎ (length l.spare.items ≡ length l.fn.spare.items);
}
