-- The laws of a side that a store uses: what bytes that begin as a side does stand for, and what makes a side.
use Rattle.std.specs.Prelude.{◌≡◌, ◌<◌, ◌+◌, ◌^◌, ℕ, List, [], ◌∷◌, ◌++◌, length, map, take, drop}
use Rattle.std.specs.List.{AllByRecursion}
use Rattle.terms.specs.Commits.{Commit, events_of}
use Rattle.terms.specs.Facts.{facts, environment}
use Rattle.terms.specs.Sets.{Facts, with_facts}
use Rattle.codec.specs.declared.image.Image.{Image}
use Rattle.codec.specs.Commits.{commit_bytes, IsCommit}
use Rattle.codec.specs.Spelling.{image_bytes, IsImage}
use Rattle.codec.specs.Image.{facts_in, environment_in}
use Rattle.journal.specs.Records.{StandsFor, records}
use Rattle.graph.specs.Graph.{Graph}
use Rattle.graph.specs.Canonical.{canonical}
use Rattle.graph.specs.Reads.{Reads}
use Rattle.graph.specs.Fits.{AllFit, FitsState, HasOneItemEach}
use Rattle.graph.specs.FitLaws.{SameSet}
use Rattle.holdings.specs.Holdings.{Holdings, facts_held}
use Rattle.sides.specs.Side.{behind_gate, IsSide, start_of, end_of, facts_of}
use Rattle.terms.specs.declared.key.TheConstants.{MAX_COMPONENTS}
use Rattle.sides.specs.declared.gate.TheConstants.{FORMAT}

-- from the position where its journal begins, a side's bytes are a journal of its commits
abbrev pub HasJournal : Type 0
HasJournal = (bytes : List ℕ) (g : Graph) (generation : ℕ) (E X : Facts) (side : IsSide bytes g generation E X) → StandsFor (drop (start_of side) bytes) (map commit_bytes side.commits)

-- bytes that begin as a side does, up to its journal, and go on with a journal of the same commits, stand for the same
abbrev pub StaysAlike : Type 0
StaysAlike = (bytes other : List ℕ) (g : Graph) (generation : ℕ) (E X : Facts) (side : IsSide bytes g generation E X)
    → take (start_of side) other ≡ take (start_of side) bytes → StandsFor (drop (start_of side) other) (map commit_bytes side.commits)
    → (same : IsSide other g generation E X) × (end_of same ≡ end_of side)

-- those that go on with a journal of these commits more, whose events fit one after another, stand for what the commits leave
abbrev pub GrowsByCommits : Type 0
GrowsByCommits = (bytes other : List ℕ) (g : Graph) (generation : ℕ) (E X : Facts) (side : IsSide bytes g generation E X) (added : List Commit)
    → AllByRecursion (IsCommit MAX_COMPONENTS) added → AllFit g (facts_of side) (events_of added)
    → take (start_of side) other ≡ take (start_of side) bytes → StandsFor (drop (start_of side) other) (map commit_bytes side.commits ++ map commit_bytes added)
    → (grown : IsSide other g generation (with_facts E (environment (events_of added))) (with_facts X (facts (events_of added)))) × (end_of grown ≡ end_of side + length (records (map commit_bytes added)))

-- a side that stands for some sets of facts stands for equal sets too
abbrev pub SideAsSet : Type 0
SideAsSet = (bytes : List ℕ) (g : Graph) (generation : ℕ) (E F X Y : Facts) → SameSet E F → SameSet X Y → (side : IsSide bytes g generation E X)
    → (same : IsSide bytes g generation F Y) × (end_of same ≡ end_of side)

-- the facts of a side fit its graph
abbrev pub SideFits : Type 0
SideFits = (bytes : List ℕ) (g : Graph) (generation : ℕ) (E X : Facts) → IsSide bytes g generation E X → FitsState g E X

-- the text of a graph, an image that fits it, and a closed gate make a side without records
abbrev pub BeginsSide : Type 0
BeginsSide = (g : Graph) (generation : ℕ) (image : Image) → generation < 2 ^ 64 → Reads (canonical g) g → IsImage MAX_COMPONENTS image → length (image_bytes image) < 2 ^ 32
    → FitsState g (environment_in image) (facts_in image)
    → (side : IsSide (1 ∷ behind_gate FORMAT generation (canonical g) (image_bytes image) (0 ∷ [])) g generation (environment_in image) (facts_in image))
    × (end_of side ≡ length (1 ∷ behind_gate FORMAT generation (canonical g) (image_bytes image) []))

-- what is held has at most one item at an address
abbrev pub HeldOnce : Type 0
HeldOnce = (held : Holdings) → HasOneItemEach (facts_held held)
