-- The facts of a side: as a set, that they fit, and those of one without records.
use Rattle.std.proofs.Common.{◌≡◌, ◌<◌, ◌^◌, ◌+◌, ℕ, List, [], ◌∷◌, ◌++◌, length, refl, sym, ap, ◌∙◌, arith}
use Rattle.std.proofs.lemmas.List.{append-nil}
use Rattle.std.proofs.lemmas.List.Elements.{All-nil}
use Rattle.terms.specs.Commits.{events_of}
use Rattle.terms.specs.Facts.{Fact, facts, environment}
use Rattle.terms.specs.Sets.{Facts, among}
use Rattle.codec.specs.declared.image.Image.{Image}
use Rattle.codec.specs.Spelling.{image_bytes, IsImage}
use Rattle.codec.specs.Image.{image_facts, image_environment, facts_in, environment_in}
use Rattle.journal.specs.Records.{StandsFor, IsShort}
use Rattle.graph.specs.Graph.{Graph}
use Rattle.graph.specs.Canonical.{canonical}
use Rattle.graph.specs.Reads.{Reads}
use Rattle.graph.specs.Fits.{FitsState}
use Rattle.graph.specs.FitLaws.{SameSet, AllFitKeep, StateAsSet}
use Rattle.sides.specs.Side.{behind_gate, IsSide, end_of}
use Rattle.terms.specs.declared.key.TheConstants.{MAX_COMPONENTS}
use Rattle.sides.specs.declared.gate.TheConstants.{FORMAT}

abbrev relisted : (bytes : List ℕ) (g : Graph) (n : ℕ) (E F X Y : Facts) → SameSet E F → SameSet X Y → IsSide bytes g n E X → IsSide bytes g n F Y
relisted bytes g n E F X Y given there side = record {
  format = side.format;
  is_known = side.is_known;
  small = side.small;
  reads = side.reads;
  image = side.image;
  is_image = side.is_image;
  counted_image = side.counted_image;
  commits = side.commits;
  are_commits = side.are_commits;
  journal = side.journal;
  records = side.records;
  spelled = side.spelled;
  image_fits = side.image_fits;
  events_fit = side.events_fit;
  environment = λ fact. sym (given fact) ∙ side.environment fact;
  facts = λ fact. sym (there fact) ∙ side.facts fact;
}

pub side_as_set : (bytes : List ℕ) (g : Graph) (n : ℕ) (E F X Y : Facts) → SameSet E F → SameSet X Y → (side : IsSide bytes g n E X) → (same : IsSide bytes g n F Y) × (end_of same ≡ end_of side)
side_as_set bytes g n E F X Y given there side = (relisted bytes g n E F X Y given there side, refl)

pub side_fits : AllFitKeep → StateAsSet → (bytes : List ℕ) (g : Graph) (n : ℕ) (E X : Facts) → IsSide bytes g n E X → FitsState g E X
side_fits all_keep as_set bytes g n E X side =
    as_set g (among (image_environment side.image ++ environment (events_of side.commits))) E (among (image_facts side.image ++ facts (events_of side.commits))) X
    (λ fact. sym (side.environment fact)) (λ fact. sym (side.facts fact))
    (all_keep g (image_environment side.image) (image_facts side.image) (events_of side.commits) side.image_fits side.events_fit)

-- ---- a side without records

no_records : StandsFor (0 ∷ []) []
no_records = record { short = All-nil IsShort; gate = 0; closed = closed; rest = []; spelled = refl }
  where
    closed : ◌≡◌ {A = ℕ} 0 1 → ⊥
    closed same = omega arith

abbrev beginning : (g : Graph) (n : ℕ) (image : Image) → n < 2 ^ 64 → Reads (canonical g) g → IsImage MAX_COMPONENTS image → length (image_bytes image) < 2 ^ 32
    → FitsState g (environment_in image) (facts_in image) → IsSide (1 ∷ behind_gate FORMAT n (canonical g) (image_bytes image) (0 ∷ [])) g n (environment_in image) (facts_in image)
beginning g n image small reads is_image counted_image fits = record {
  format = FORMAT;
  is_known = refl;
  small = small;
  reads = reads;
  image = image;
  is_image = is_image;
  counted_image = counted_image;
  commits = [];
  are_commits = tt;
  journal = 0 ∷ [];
  records = no_records;
  spelled = refl;
  image_fits = fits;
  events_fit = tt;
  environment = λ fact. ap (λ (list : List Fact). among list fact) (sym (append-nil (image_environment image)));
  facts = λ fact. ap (λ (list : List Fact). among list fact) (sym (append-nil (image_facts image)));
}

pub begins_side : (g : Graph) (n : ℕ) (image : Image) → n < 2 ^ 64 → Reads (canonical g) g → IsImage MAX_COMPONENTS image → length (image_bytes image) < 2 ^ 32
    → FitsState g (environment_in image) (facts_in image)
    → (side : IsSide (1 ∷ behind_gate FORMAT n (canonical g) (image_bytes image) (0 ∷ [])) g n (environment_in image) (facts_in image))
    × (end_of side ≡ length (1 ∷ behind_gate FORMAT n (canonical g) (image_bytes image) []))
begins_side g n image small reads is_image counted_image fits =
    (beginning g n image small reads is_image counted_image fits, nothing_more (length (1 ∷ behind_gate FORMAT n (canonical g) (image_bytes image) [])))
  where
    nothing_more : (m : ℕ) → m + 0 ≡ m
    nothing_more m = omega arith
