use Rattle.std.proofs.Common.{◌≡◌, ◌-◌, ◌^◌, ◌<◌, ◌≤◌, ℕ, true, false, length}
use Rattle.std.specs.Ordering.{is_lt}
use Rattle.terms.specs.Key.{key_cmp}
use Rattle.maps.specs.Paged.{first_key, page_at}
use Rattle.maps.proofs.Costs.{LeavesSome}
use Rattle.maps.proofs.pages.Pages.page_for.Given as goal

-- the page is at `low` or after it, and before `high`; a digit less is left after each comparison
abbrev pub invariant-loop-high : goal.invariant-loop-high
invariant-loop-high g l = record {
  within : (l.low < l.high) × (l.high ≤ length l.self.pages);
  from : 0 < l.low → is_lt (key_cmp l.key (first_key (page_at l.self.pages l.low))) ≡ false;
  up_to : l.high < length l.self.pages → is_lt (key_cmp l.key (first_key (page_at l.self.pages l.high))) ≡ true;
  more : l.fn.steps ≤ l.steps;
  cost : (digits : ℕ) → length l.self.pages ≤ 2 ^ digits → LeavesSome (l.high - l.low) l.steps l.fn.steps digits;
}

abbrev pub decreases-loop-high : goal.decreases-loop-high
decreases-loop-high g l = l.high - l.low
