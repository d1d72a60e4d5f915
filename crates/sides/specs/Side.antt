-- What the bytes of one side stand for.
use Rattle.std.specs.Prelude.{◌≡◌, ◌<◌, ◌^◌, ◌+◌, ℕ, List, [], ◌∷◌, ◌++◌, length, map}
use Rattle.std.specs.List.{AllByRecursion}
use Rattle.byteorder.specs.Endian.{little_bytes}
use Rattle.terms.specs.Commits.{Commit, events_of}
use Rattle.terms.specs.Facts.{Fact, facts, environment}
use Rattle.terms.specs.Sets.{Facts, among}
use Rattle.codec.specs.declared.image.Image.{Image}
use Rattle.codec.specs.Commits.{commit_bytes, IsCommit}
use Rattle.codec.specs.Spelling.{image_bytes, IsImage}
use Rattle.codec.specs.Image.{image_facts, image_environment}
use Rattle.journal.specs.Records.{StandsFor, records}
use Rattle.graph.specs.Graph.{Graph}
use Rattle.graph.specs.Canonical.{canonical}
use Rattle.graph.specs.Reads.{Reads}
use Rattle.graph.specs.Fits.{FitsState, AllFit}
use Rattle.terms.specs.declared.key.TheConstants.{MAX_COMPONENTS}
use Rattle.sides.specs.declared.gate.TheConstants.{FORMAT}

-- the number of the bytes, in four bytes, and then the bytes
abbrev pub counted : List ℕ → List ℕ
counted bytes = little_bytes 4 (length bytes) ++ bytes

-- a side behind its gate: the format, the generation, the canonical text of its graph, its image and its journal
abbrev pub behind_gate : ℕ → ℕ → List ℕ → List ℕ → List ℕ → List ℕ
behind_gate format generation text image journal = format ∷ little_bytes 8 generation ++ counted text ++ counted image ++ journal

-- the side's gate is open
abbrev pub IsOpen : List ℕ → Type 0
IsOpen bytes = (rest : List ℕ) × (bytes ≡ 1 ∷ rest)

-- it is open, and long enough to have a generation, whatever its format
abbrev pub HasGeneration : List ℕ → ℕ → Type 0
HasGeneration bytes generation = (generation < 2 ^ 64) × ((format : ℕ) × (rest : List ℕ) × (bytes ≡ 1 ∷ format ∷ little_bytes 8 generation ++ rest))

-- The open side of this generation stands for a graph and the facts X, of which the environment put E. The facts are those of its
-- image and of the events in its journal, one commit a record; each event fits. The bodies of steps play no part. Its format is one
-- that is known.
pub record IsSide (bytes : List ℕ) (g : Graph) (generation : ℕ) (E X : Facts) : Type 0 where
  pub format : ℕ
  pub is_known : format ≡ FORMAT
  pub small : generation < 2 ^ 64
  pub reads : Reads (canonical g) g
  pub image : Image
  pub is_image : IsImage MAX_COMPONENTS image
  pub counted_image : length (image_bytes image) < 2 ^ 32
  pub commits : List Commit
  pub are_commits : AllByRecursion (IsCommit MAX_COMPONENTS) commits
  pub journal : List ℕ
  pub records : StandsFor journal (map commit_bytes commits)
  pub spelled : bytes ≡ 1 ∷ behind_gate format generation (canonical g) (image_bytes image) journal
  pub image_fits : FitsState g (among (image_environment image)) (among (image_facts image))
  pub events_fit : AllFit g (image_facts image) (events_of commits)
  pub environment : (fact : Fact) → E fact ≡ among (image_environment image ++ environment (events_of commits)) fact
  pub facts : (fact : Fact) → X fact ≡ among (image_facts image ++ facts (events_of commits)) fact

-- where its journal begins, and where the closed gate stands that ends it
abbrev pub start_of : {bytes : List ℕ} {g : Graph} {generation : ℕ} {E X : Facts} → IsSide bytes g generation E X → ℕ
start_of {g} {generation} side = length (1 ∷ behind_gate side.format generation (canonical g) (image_bytes side.image) [])

abbrev pub end_of : {bytes : List ℕ} {g : Graph} {generation : ℕ} {E X : Facts} → IsSide bytes g generation E X → ℕ
end_of side = start_of side + length (records (map commit_bytes side.commits))

-- its facts as they are listed: those of its image, and of the events in its journal
abbrev pub facts_of : {bytes : List ℕ} {g : Graph} {generation : ℕ} {E X : Facts} → IsSide bytes g generation E X → List Fact
facts_of side = image_facts side.image ++ facts (events_of side.commits)

-- ---- laws

-- the bytes of a side stand for at most one generation, one graph and one set of facts
pub record SameSide (g h : Graph) (m n : ℕ) (E F X Y : Facts) : Type 0 where
  pub generation : m ≡ n
  pub graph : g ≡ h
  pub environment : (fact : Fact) → E fact ≡ F fact
  pub facts : (fact : Fact) → X fact ≡ Y fact

abbrev pub OneMeaning : Type 0
OneMeaning = (bytes : List ℕ) (g h : Graph) (m n : ℕ) (E F X Y : Facts) → IsSide bytes g m E X → IsSide bytes h n F Y → SameSide g h m n E F X Y

-- a side that stands for something has its generation, and bytes have at most one
abbrev pub StandsWithGeneration : Type 0
StandsWithGeneration = (bytes : List ℕ) (g : Graph) (n : ℕ) (E X : Facts) → IsSide bytes g n E X → HasGeneration bytes n

abbrev pub OneGeneration : Type 0
OneGeneration = (bytes : List ℕ) (m n : ℕ) → HasGeneration bytes m → HasGeneration bytes n → m ≡ n

-- after the closed gate that ends its journal a side may have any bytes
abbrev pub AnyRest : Type 0
AnyRest = (bytes : List ℕ) (g : Graph) (n : ℕ) (E X : Facts) (side : IsSide bytes g n E X)
    → (front : List ℕ) × (rest : List ℕ) × (bytes ≡ front ++ rest) × (length front ≡ end_of side + 1) × ((other : List ℕ) → IsSide (front ++ other) g n E X)

-- the bytes are no side, of whatever graph, generation and facts
abbrev pub IsNoSide : List ℕ → Type 0
IsNoSide bytes = (g : Graph) (generation : ℕ) (E X : Facts) → IsSide bytes g generation E X → ⊥

-- if four bytes can say how many bytes the image has, a side of this generation, text and image was appended, without its gate and with no record
abbrev pub AppendsSide : ℕ → List ℕ → Image → List ℕ → List ℕ → Type 0
AppendsSide generation text image old new = length (image_bytes image) < 2 ^ 32 → new ≡ old ++ behind_gate FORMAT generation text (image_bytes image) (0 ∷ [])
