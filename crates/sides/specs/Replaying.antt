-- What taking the commits of a journal one after another finds.
use Rattle.std.specs.Prelude.{◌≡◌, ◌≤◌, ⊤, ℕ, List, ◌++◌, length, map}
use Rattle.std.specs.List.{AllByRecursion}
use Rattle.terms.specs.Commits.{Commit, events_of}
use Rattle.terms.specs.Facts.{Fact, facts, environment}
use Rattle.terms.specs.Sets.{among}
use Rattle.codec.specs.declared.image.Image.{Image}
use Rattle.codec.specs.Commits.{commit_bytes, IsCommit, SpellsCommit}
use Rattle.codec.specs.Image.{image_facts, image_environment}
use Rattle.holdings.specs.Holdings.{HavePutNumbers, Holdings, image_of, facts_held, environment_held}
use Rattle.journal.specs.WholeRecords.{LeadsTo}
use Rattle.graph.specs.Graph.{Graph}
use Rattle.graph.specs.Fits.{AllFit}
use Rattle.sides.specs.declared.replay.Replay.{Replay}
use Rattle.sides.specs.declared.replay.Replay.TheVariants.{Ended, Broken}
use Rattle.sides.specs.Growth.{Grows}
use Rattle.sides.specs.Reading.{AreCommits, IsReplayed}
use Rattle.terms.specs.declared.key.TheConstants.{MAX_COMPONENTS}

-- a payload spells a commit whose events fit after what was held, and what they state is held too
pub record IsTaken (g : Graph) (old new : Holdings) (payload : List ℕ) : Type 0 where
  pub commit : Commit
  pub spelled : SpellsCommit MAX_COMPONENTS payload commit
  pub fit : AllFit g (image_facts (image_of old)) commit
  pub grown : Grows (environment commit) (facts commit) old new

-- a payload spells no such commit
abbrev pub IsRefused : Graph → Image → List ℕ → Type 0
IsRefused g old payload = (commit : Commit) → SpellsCommit MAX_COMPONENTS payload commit → AllFit g (image_facts old) commit → ⊥

-- a prefix of the bytes, up to this end, is records of commits that fit after what was held; what they state is held too
pub record IsTakenTo (g : Graph) (old new : Holdings) (bytes : List ℕ) (end : ℕ) : Type 0 where
  pub commits : List Commit
  pub are_commits : AllByRecursion (IsCommit MAX_COMPONENTS) commits
  pub leads : LeadsTo bytes end (map commit_bytes commits)
  pub fit : AllFit g (image_facts (image_of old)) (events_of commits)
  pub facts : (fact : Fact) → facts_held new fact ≡ among (image_facts (image_of old) ++ facts (events_of commits)) fact
  pub environment : (fact : Fact) → environment_held new fact ≡ among (image_environment (image_of old) ++ environment (events_of commits)) fact
  pub counts : new.counts ≡ old.counts

-- the bytes stand for commits that fit after the old image, up to this end, or they stand for no such commits
abbrev pub Replays : Graph → Holdings → Holdings → List ℕ → Replay → Type 0
Replays g old new bytes (Ended end) = IsReplayed g old new bytes end
Replays g old new bytes (Broken place) = (commits : List Commit) → AreCommits g (image_of old) bytes commits → ⊥

-- where all were taken, the puts that are held have numbers that a put may have
abbrev pub IsNumbered : Holdings → Replay → Type 0
IsNumbered new (Ended end) = HavePutNumbers new
IsNumbered new (Broken place) = ⊤

-- the position of the result lies among the bytes, or at their end
abbrev pub IsWithin : List ℕ → Replay → Type 0
IsWithin bytes (Ended end) = end ≤ length bytes
IsWithin bytes (Broken place) = place ≤ length bytes
