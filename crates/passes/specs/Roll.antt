-- The passes when they are made, and when all are back.
use Rattle.std.specs.Prelude.{◌+◌, ℕ, suc, zero, Bool, true, false, List, [], ◌∷◌, ◌++◌, if◌then◌else◌, nat_eq}
use Rattle.std.specs.List.{AllByRecursion}
use Rattle.terms.specs.declared.event.Event.{Event}
use Rattle.terms.specs.Commits.{Commit, events_of}
use Rattle.atomic_table.specs.Seated.{TableId}
use Rattle.passes.specs.Known.{Known, newcomer}

-- a blank: the table of its words, and how many passes it is for, of the environment and of workers
pub record Blank : Type 0 where
  pub table : TableId
  pub envs : ℕ
  pub workers : ℕ

-- this many new passes, the first of which has this number
abbrev pub new_passes : ℕ → ℕ → List Known
new_passes first zero = []
new_passes first (suc count) = new_passes first count ++ newcomer (first + count) ∷ []

-- a pass of this number is among them
abbrev pub has_number : ℕ → List Known → Bool
has_number number [] = false
has_number number (known ∷ rest) = if nat_eq known.number number then true else has_number number rest

-- the commits that were made with the pass of this number; none where there is no such pass
abbrev pub mine_of : ℕ → List Known → List Commit
mine_of number [] = []
mine_of number (known ∷ rest) = if nat_eq known.number number then known.mine else mine_of number rest

-- each event of each commit that was made with one of the passes is such an event
abbrev pub AllMade : (Event → Type 0) → List Known → Type 0
AllMade such passes = AllByRecursion (λ known. AllByRecursion such (events_of known.mine)) passes
