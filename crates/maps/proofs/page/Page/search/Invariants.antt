use Rattle.std.proofs.Common.{◌≡◌, ◌-◌, ◌^◌, ◌<◌, ◌≤◌, ℕ, length}
use Rattle.std.specs.declared.cmp.Ordering.TheVariants.{Less, Greater}
use Rattle.std.specs.List.{AllWithin}
use Rattle.terms.specs.Key.{key_cmp}
use Rattle.maps.specs.Marks.{entries_in}
use Rattle.maps.specs.Paged.{Entry}
use Rattle.maps.proofs.Costs.{Leaves}
use Rattle.maps.proofs.page.Page.search.Given as goal

-- all keys before `low` are less, and all from `high` on are greater; a digit less is left after each comparison
abbrev pub invariant-loop-low : goal.invariant-loop-low
invariant-loop-low g l = record {
  within : (l.low ≤ l.high) × (l.high ≤ length l.self.1);
  lesser : AllWithin (λ (entry : Entry g.row.V.Denot). key_cmp entry.0 l.key ≡ Less) (entries_in g.V.Stored.said l.words l.self) 0 l.low;
  greater : AllWithin (λ (entry : Entry g.row.V.Denot). key_cmp entry.0 l.key ≡ Greater) (entries_in g.V.Stored.said l.words l.self) l.high (length l.self.1);
  more : l.fn.steps ≤ l.steps;
  cost : (digits : ℕ) → length l.self.1 < 2 ^ digits → Leaves (l.high - l.low) l.steps l.fn.steps digits;
}

abbrev pub decreases-loop-low : goal.decreases-loop-low
decreases-loop-low g l = l.high - l.low
