-- What reading the bytes of a side finds there, part by part.
use Rattle.std.specs.Prelude.{◌≡◌, ◌≤◌, ◌<◌, ◌+◌, ◌^◌, ℕ, List, ◌++◌, length, drop, map, MatchOption, Option}
use Rattle.std.specs.List.{AllByRecursion}
use Rattle.terms.specs.Commits.{Commit, events_of}
use Rattle.terms.specs.Facts.{Fact, facts, environment}
use Rattle.terms.specs.Sets.{among}
use Rattle.codec.specs.declared.image.Image.{Image}
use Rattle.codec.specs.Commits.{commit_bytes, IsCommit}
use Rattle.codec.specs.Spelling.{SpellsImage}
use Rattle.codec.specs.Image.{image_facts, image_environment, facts_in, environment_in}
use Rattle.holdings.specs.Holdings.{HavePutNumbers, Holdings, IsFor, image_of, facts_held, environment_held}
use Rattle.journal.specs.Records.{StandsFor, records}
use Rattle.graph.specs.Graph.{Graph}
use Rattle.graph.specs.Canonical.{canonical}
use Rattle.graph.specs.Reads.{Reads}
use Rattle.graph.specs.Fits.{AllFit, FitsState}
use Rattle.sides.specs.declared.gate.Gate.{Gate}
use Rattle.sides.specs.declared.gate.Gate.TheVariants.{Closed, Short, Open}
use Rattle.sides.specs.declared.reading.Standing.{Standing}
use Rattle.sides.specs.Side.{counted, IsOpen, HasGeneration, IsSide, start_of, end_of}
use Rattle.terms.specs.declared.key.TheConstants.{MAX_COMPONENTS}
use Rattle.std.specs.Global.{Vec}

-- what the first ten bytes of a file say of its side, or all its bytes where it has fewer
abbrev pub Tells : Gate → List ℕ → Type 0
Tells Closed bytes = IsOpen bytes → ⊥
Tells Short bytes = IsOpen bytes × (length bytes < 10)
Tells (Open generation) bytes = HasGeneration bytes generation

-- at this position stand four bytes with the part's length, and then the part
pub record IsCountedAt (bytes : List ℕ) (at : ℕ) (part : List ℕ) : Type 0 where
  pub short : length part < 2 ^ 32
  pub within : at + 4 + length part ≤ length bytes
  pub spelled : drop at bytes ≡ counted part ++ drop (at + 4 + length part) bytes

-- no part stands there whole, after its length
abbrev pub HasNoneAt : List ℕ → ℕ → Type 0
HasNoneAt bytes at = (part rest : List ℕ) → length part < 2 ^ 32 → drop at bytes ≡ counted part ++ rest → ⊥

-- the text is the canonical text of the graph, and reads as it
abbrev pub IsTextOf : List ℕ → Graph → Type 0
IsTextOf text g = Reads text g × (canonical g ≡ text)

-- the text is the canonical text of some graph, and reads as it
abbrev pub IsCanonical : List ℕ → Type 0
IsCanonical text = (g : Graph) × IsTextOf text g

-- the bytes spell the image, and it fits the graph
abbrev pub IsImageOf : Graph → List ℕ → Image → Type 0
IsImageOf g bytes image = SpellsImage MAX_COMPONENTS bytes image × FitsState g (environment_in image) (facts_in image)

-- what is found: the graph that has this canonical text, and the text; or nothing, if no graph has it
abbrev pub FindsGraph : List ℕ → Option (Graph × Vec ℕ) → Type 0
FindsGraph text found = MatchOption found ((g : Graph) → IsTextOf text g → ⊥) (λ both. IsTextOf text both.0 × (both.1.items ≡ canonical both.0))

-- what is found: what the image that these bytes spell lists, if it fits the graph; or nothing, if they spell no such image
abbrev pub FindsImageOf : Graph → List ℕ → Option Holdings → Type 0
FindsImageOf g bytes found = MatchOption found ((image : Image) → IsImageOf g bytes image → ⊥) (λ holdings. IsImageOf g bytes (image_of holdings))

-- the bytes stand for these commits, one a record, and each event fits after the facts of the image and the events before it
pub record AreCommits (g : Graph) (image : Image) (bytes : List ℕ) (commits : List Commit) : Type 0 where
  pub are_commits : AllByRecursion (IsCommit MAX_COMPONENTS) commits
  pub stands : StandsFor bytes (map commit_bytes commits)
  pub fit : AllFit g (image_facts image) (events_of commits)

-- the bytes stand for such commits, whose records end here; what is held afterwards is what was held and what they state
pub record IsReplayed (g : Graph) (old new : Holdings) (bytes : List ℕ) (end : ℕ) : Type 0 where
  pub commits : List Commit
  pub are : AreCommits g (image_of old) bytes commits
  pub ends : end ≡ length (records (map commit_bytes commits))
  pub facts : (fact : Fact) → facts_held new fact ≡ among (image_facts (image_of old) ++ facts (events_of commits)) fact
  pub environment : (fact : Fact) → environment_held new fact ≡ among (image_environment (image_of old) ++ environment (events_of commits)) fact
  pub counts : new.counts ≡ old.counts

-- the side's bytes stand for what was read from them, the text is its graph's, and the journal begins and ends at the positions given
pub record IsRead (bytes : List ℕ) (generation : ℕ) (standing : Standing) : Type 0 where
  pub is_side : IsSide bytes standing.graph generation (environment_held standing.holdings) (facts_held standing.holdings)
  pub starts : standing.start ≡ start_of is_side
  pub ends : standing.end ≡ end_of is_side
  pub text : standing.text.items ≡ canonical standing.graph
  pub numbered : HavePutNumbers standing.holdings
  pub collections : IsFor standing.graph standing.holdings
