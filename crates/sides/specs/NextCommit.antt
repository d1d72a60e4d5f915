-- A journal that is read one commit after another.
use Rattle.std.specs.Prelude.{◌≡◌, ◌<◌, ⊤, ℕ, List, [], ◌∷◌, Option, Some, None, length, drop, map}
use Rattle.std.specs.List.{AllByRecursion}
use Rattle.terms.specs.Commits.{Commit}
use Rattle.codec.specs.Commits.{commit_bytes, IsCommit}
use Rattle.journal.specs.Records.{StandsFor}
use Rattle.terms.specs.declared.key.TheConstants.{MAX_COMPONENTS}

-- the bytes are a journal of these commits, one a record
pub record StandForCommits (bytes : List ℕ) (commits : List Commit) : Type 0 where
  pub are_commits : AllByRecursion (IsCommit MAX_COMPONENTS) commits
  pub stands : StandsFor bytes (map commit_bytes commits)

-- of a journal of these commits this one was read, and the others come after the position given; or there is none
abbrev pub IsNext : List ℕ → List Commit → Commit → Option ℕ → Type 0
IsNext bytes commits commit None = commits ≡ []
IsNext bytes commits commit (Some next) = (more : List Commit) × (commits ≡ commit ∷ more) × StandForCommits (drop next bytes) more

-- of whichever commits the bytes are a journal from this position on, this one was read
abbrev pub ReadsNext : List ℕ → ℕ → Commit → Option ℕ → Type 0
ReadsNext bytes at commit next = (commits : List Commit) → StandForCommits (drop at bytes) commits → IsNext bytes commits commit next

-- the bytes are a journal of no commits, not even of none
abbrev pub StandForNone : List ℕ → Type 0
StandForNone bytes = (commits : List Commit) → StandForCommits bytes commits → ⊥

-- the position after a record, if there is one, is greater than the record's, and among the bytes
abbrev pub IsFurther : List ℕ → ℕ → Option ℕ → Type 0
IsFurther bytes at None = ⊤
IsFurther bytes at (Some next) = (at < next) × (next < length bytes)
