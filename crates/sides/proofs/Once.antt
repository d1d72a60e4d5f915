-- The bytes of a side stand for at most one thing.
use Rattle.std.proofs.Common.{◌≡◌, ◌<◌, ◌+◌, ◌^◌, ℕ, List, [], ◌∷◌, ◌++◌, length, take, drop, map, refl, sym, ap, subst, ◌∙◌, arith, length-append}
use Rattle.std.specs.List.{AllByRecursion}
use Rattle.std.proofs.lemmas.List.{append_assoc}
use Rattle.std.proofs.Math.Seq.{drop-append_seam, take-append_seam}
use Rattle.byteorder.specs.Endian.{little_bytes, little_from}
use Rattle.byteorder.specs.Numbers.{little_number-reads_back, length-bytes_low_first}
use Rattle.terms.specs.Commits.{Commit, events_of}
use Rattle.terms.specs.Facts.{Fact, facts, environment}
use Rattle.terms.specs.Sets.{Facts, among}
use Rattle.codec.specs.Commits.{commit_bytes, IsCommit, SpellsCommit}
use Rattle.codec.specs.Laws.{SpellsOne}
use Rattle.codec.specs.Spelling.{image_bytes, SpellsImage}
use Rattle.codec.specs.Image.{image_facts, image_environment}
use Rattle.journal.specs.Records.{StandsFor, records}
use Rattle.graph.specs.Graph.{Graph}
use Rattle.graph.specs.Canonical.{canonical}
use Rattle.graph.specs.Reads.{Reads}
use Rattle.graph.specs.Textual.{OneReading}
use Rattle.sides.specs.Side.{counted, behind_gate, HasGeneration, IsSide, SameSide, end_of}
use Rattle.terms.specs.declared.key.TheConstants.{MAX_COMPONENTS}

-- equal strings with fronts of one length have equal fronts and equal rests
pub split : (a b x y : List ℕ) → length a ≡ length b → a ++ x ≡ b ++ y → (a ≡ b) × (x ≡ y)
split a b x y same whole = (
  sym (take-append_seam a x) ∙ ap (take (length a)) whole ∙ ap (λ (n : ℕ). take n (b ++ y)) same ∙ take-append_seam b y,
  sym (drop-append_seam a x) ∙ ap (drop (length a)) whole ∙ ap (λ (n : ℕ). drop n (b ++ y)) same ∙ drop-append_seam b y,
)

number_once : (width m n : ℕ) → m < 256 ^ width → n < 256 ^ width → little_bytes width m ≡ little_bytes width n → m ≡ n
number_once width m n small also same =
    sym (little_number-reads_back width m [] small) ∙ ap (λ (bytes : List ℕ). little_from 0 width (bytes ++ [])) same ∙ little_number-reads_back width n [] also

-- a number, and the bytes after it
numbered_once : (width m n : ℕ) (x y : List ℕ) → m < 256 ^ width → n < 256 ^ width → little_bytes width m ++ x ≡ little_bytes width n ++ y → (m ≡ n) × (x ≡ y)
numbered_once width m n x y small also whole =
    let parts = split (little_bytes width m) (little_bytes width n) x y (length-bytes_low_first 0 width m ∙ sym (length-bytes_low_first 0 width n)) whole in
    (number_once width m n small also parts.0, parts.1)

-- bytes after their number, and the bytes that follow
pub counted_once : (s t x y : List ℕ) → length s < 256 ^ 4 → length t < 256 ^ 4 → counted s ++ x ≡ counted t ++ y → (s ≡ t) × (x ≡ y)
counted_once s t x y small also whole =
    let parts = numbered_once 4 (length s) (length t) (s ++ x) (t ++ y) small also (sym (append_assoc (little_bytes 4 (length s)) s x) ∙ whole ∙ append_assoc (little_bytes 4 (length t)) t y) in
    split s t x y parts.0 parts.1

-- commits are fixed by their spellings
commits_once : SpellsOne (SpellsCommit MAX_COMPONENTS) → (one two : List Commit) → AllByRecursion (IsCommit MAX_COMPONENTS) one → AllByRecursion (IsCommit MAX_COMPONENTS) two → map commit_bytes one ≡ map commit_bytes two → one ≡ two
commits_once each [] [] first second same = refl
commits_once each [] (e ∷ es) first second same = absurd (cc)
commits_once each (e ∷ es) [] first second same = absurd (cc)
commits_once each (d ∷ ds) (e ∷ es) first second same =
    let head : commit_bytes d ≡ commit_bytes e = cc in
    let tail : map commit_bytes ds ≡ map commit_bytes es = cc in
    let one = each (commit_bytes d) d e (first.0, refl) (second.0, head) in
    let more = commits_once each ds es first.1 second.1 tail in
    λ i. one i ∷ more i

-- ---- sides

pub parts_of : (l t i j : List ℕ) → l ++ t ++ i ++ j ≡ l ++ (t ++ (i ++ j))
parts_of l t i j = append_assoc (l ++ t) i j ∙ append_assoc l t (i ++ j)

module _ (one_commit : SpellsOne (SpellsCommit MAX_COMPONENTS)) (one_image : SpellsOne (SpellsImage MAX_COMPONENTS)) (one_list : (bytes : List ℕ) (one two : List (List ℕ)) → StandsFor bytes one → StandsFor bytes two → one ≡ two) (one_reading : OneReading) where
  pub one_meaning : (bytes : List ℕ) (g h : Graph) (m n : ℕ) (E F X Y : Facts) → IsSide bytes g m E X → IsSide bytes h n F Y → SameSide g h m n E F X Y
  one_meaning bytes g h m n E F X Y one two = record {
    generation = numbers.0;
    graph = one_reading (canonical h) g h (subst (λ (text : List ℕ). Reads text g) texts.0 one.reads) two.reads;
    environment = λ fact. one.environment fact ∙ ap (λ (list : List Fact). among list fact) given ∙ sym (two.environment fact);
    facts = λ fact. one.facts fact ∙ ap (λ (list : List Fact). among list fact) stated ∙ sym (two.facts fact);
  }
    where
      whole : little_bytes 8 m ++ counted (canonical g) ++ counted (image_bytes one.image) ++ one.journal ≡ little_bytes 8 n ++ counted (canonical h) ++ counted (image_bytes two.image) ++ two.journal
      whole = ap (drop 2) (sym one.spelled ∙ two.spelled)

      numbers : (m ≡ n) × (counted (canonical g) ++ (counted (image_bytes one.image) ++ one.journal) ≡ counted (canonical h) ++ (counted (image_bytes two.image) ++ two.journal))
      numbers = numbered_once 8 m n _ _ one.small two.small
          (sym (parts_of (little_bytes 8 m) (counted (canonical g)) (counted (image_bytes one.image)) one.journal) ∙ whole
          ∙ parts_of (little_bytes 8 n) (counted (canonical h)) (counted (image_bytes two.image)) two.journal)

      texts : (canonical g ≡ canonical h) × (counted (image_bytes one.image) ++ one.journal ≡ counted (image_bytes two.image) ++ two.journal)
      texts = counted_once (canonical g) (canonical h) _ _ (omega (arith, one.reads.short)) (omega (arith, two.reads.short)) numbers.1

      images : (image_bytes one.image ≡ image_bytes two.image) × (one.journal ≡ two.journal)
      images = counted_once (image_bytes one.image) (image_bytes two.image) one.journal two.journal one.counted_image two.counted_image texts.1

      image : one.image ≡ two.image
      image = one_image (image_bytes one.image) one.image two.image (one.is_image, refl) (two.is_image, images.0)

      commits : one.commits ≡ two.commits
      commits = commits_once one_commit one.commits two.commits one.are_commits two.are_commits
          (one_list one.journal (map commit_bytes one.commits) (map commit_bytes two.commits) one.records
          (subst (λ (journal : List ℕ). StandsFor journal (map commit_bytes two.commits)) (sym images.1) two.records))

      given : image_environment one.image ++ environment (events_of one.commits) ≡ image_environment two.image ++ environment (events_of two.commits)
      given = λ i. image_environment (image i) ++ environment (events_of (commits i))

      stated : image_facts one.image ++ facts (events_of one.commits) ≡ image_facts two.image ++ facts (events_of two.commits)
      stated = λ i. image_facts (image i) ++ facts (events_of (commits i))

pub any_rest : (bytes : List ℕ) (g : Graph) (n : ℕ) (E X : Facts) (side : IsSide bytes g n E X)
    → (front : List ℕ) × (rest : List ℕ) × (bytes ≡ front ++ rest) × (length front ≡ end_of side + 1) × ((other : List ℕ) → IsSide (front ++ other) g n E X)
any_rest bytes g n E X side =
    (front, side.records.rest, side.spelled ∙ ap (λ (journal : List ℕ). 1 ∷ behind_gate side.format n (canonical g) (image_bytes side.image) journal) side.records.spelled ∙ sym (ends side.records.rest), count, with_rest)
  where
    list : List (List ℕ)
    list = map commit_bytes side.commits

    front : List ℕ
    front = 1 ∷ behind_gate side.format n (canonical g) (image_bytes side.image) (records list ++ side.records.gate ∷ [])

    head : List ℕ
    head = little_bytes 8 n ++ counted (canonical g) ++ counted (image_bytes side.image)

    ends : (other : List ℕ) → front ++ other ≡ 1 ∷ behind_gate side.format n (canonical g) (image_bytes side.image) (records list ++ side.records.gate ∷ other)
    ends other = ap (λ (bytes : List ℕ). 1 ∷ side.format ∷ bytes) (append_assoc head (records list ++ side.records.gate ∷ []) other ∙ ap (λ (journal : List ℕ). head ++ journal) (append_assoc (records list) (side.records.gate ∷ []) other))

    count : length front ≡ end_of side + 1
    count = omega (arith, length-append head (records list ++ side.records.gate ∷ []), length-append (records list) (side.records.gate ∷ []), length-append head [])

    with_rest : (other : List ℕ) → IsSide (front ++ other) g n E X
    with_rest other = record {
      format = side.format;
      is_known = side.is_known;
      small = side.small;
      reads = side.reads;
      image = side.image;
      is_image = side.is_image;
      counted_image = side.counted_image;
      commits = side.commits;
      are_commits = side.are_commits;
      journal = records list ++ side.records.gate ∷ other;
      records = record { short = side.records.short; gate = side.records.gate; closed = side.records.closed; rest = other; spelled = refl };
      spelled = ends other;
      image_fits = side.image_fits;
      events_fit = side.events_fit;
      environment = side.environment;
      facts = side.facts;
    }

pub has_generation : (bytes : List ℕ) (g : Graph) (n : ℕ) (E X : Facts) → IsSide bytes g n E X → HasGeneration bytes n
has_generation bytes g n E X side = (
  side.small,
  (
    side.format,
    counted (canonical g) ++ (counted (image_bytes side.image) ++ side.journal),
    side.spelled ∙ ap (λ (bytes : List ℕ). 1 ∷ side.format ∷ bytes) (parts_of (little_bytes 8 n) (counted (canonical g)) (counted (image_bytes side.image)) side.journal),
  ),
)

pub one_generation : (bytes : List ℕ) (m n : ℕ) → HasGeneration bytes m → HasGeneration bytes n → m ≡ n
one_generation bytes m n one two =
    (numbered_once 8 m n one.1.1 two.1.1 one.0 two.0 (ap (drop 2) (sym one.1.2 ∙ two.1.2))).0
