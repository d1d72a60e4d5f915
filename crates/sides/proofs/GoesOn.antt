-- What bytes stand for that begin as a side does, up to its journal.
use Rattle.std.proofs.Common.{◌≡◌, ◌+◌, ℕ, Bool, ◌||◌, List, [], ◌∷◌, ◌++◌, length, take, drop, map, refl, sym, ap, subst, ◌∙◌, arith}
use Rattle.std.specs.List.{AllByRecursion}
use Rattle.std.proofs.lemmas.List.{append_assoc, append-nil, length-append, map-append, take-append-drop}
use Rattle.std.proofs.lemmas.Grind.{flat_map-append}
use Rattle.std.proofs.Math.Seq.{drop-append_seam, take-append_seam}
use Rattle.byteorder.specs.Endian.{little_bytes}
use Rattle.terms.specs.declared.event.Event.{Event}
use Rattle.terms.specs.Commits.{Commit, events_of}
use Rattle.terms.specs.Facts.{Fact, facts, environment, FactsGoOn, EnvironmentGoesOn}
use Rattle.terms.specs.Sets.{Facts, among, with_facts, AmongBoth}
use Rattle.codec.specs.declared.image.Image.{Image}
use Rattle.codec.specs.Commits.{commit_bytes, IsCommit}
use Rattle.codec.specs.Spelling.{image_bytes}
use Rattle.codec.specs.Image.{image_facts, image_environment}
use Rattle.journal.specs.Records.{StandsFor, record_of, records}
use Rattle.graph.specs.Graph.{Graph}
use Rattle.graph.specs.Canonical.{canonical}
use Rattle.graph.specs.Fits.{AllFit}
use Rattle.graph.specs.FitLaws.{SameSet, AllFitInParts}
use Rattle.sides.specs.Side.{counted, behind_gate, IsSide, start_of, end_of, facts_of}
use Rattle.terms.specs.declared.key.TheConstants.{MAX_COMPONENTS}

-- a side up to its journal
abbrev pub front : ℕ → ℕ → Graph → Image → List ℕ
front format n g image = 1 ∷ behind_gate format n (canonical g) (image_bytes image) []

pub behind_front : (format n : ℕ) (g : Graph) (image : Image) (journal : List ℕ) → 1 ∷ behind_gate format n (canonical g) (image_bytes image) journal ≡ front format n g image ++ journal
behind_front format n g image journal = ap (λ (head : List ℕ). 1 ∷ format ∷ head ++ journal) (sym (append-nil (little_bytes 8 n ++ counted (canonical g) ++ counted (image_bytes image))))

module _ (bytes : List ℕ) (g : Graph) (n : ℕ) (E X : Facts) (side : IsSide bytes g n E X) where
  in_two : bytes ≡ front side.format n g side.image ++ side.journal
  in_two = side.spelled ∙ behind_front side.format n g side.image side.journal

  pub has_journal : StandsFor (drop (start_of side) bytes) (map commit_bytes side.commits)
  has_journal = subst (λ (journal : List ℕ). StandsFor journal (map commit_bytes side.commits))
      (sym (ap (drop (start_of side)) in_two ∙ drop-append_seam (front side.format n g side.image) side.journal)) side.records

  -- other bytes that begin so
  pub begins_so : (other : List ℕ) → take (start_of side) other ≡ take (start_of side) bytes → other ≡ 1 ∷ behind_gate side.format n (canonical g) (image_bytes side.image) (drop (start_of side) other)
  begins_so other same =
      sym (take-append-drop (start_of side) other)
      ∙ ap (λ (begin : List ℕ). begin ++ drop (start_of side) other) (same ∙ ap (take (start_of side)) in_two ∙ take-append_seam (front side.format n g side.image) side.journal)
      ∙ sym (behind_front side.format n g side.image (drop (start_of side) other))

-- ---- the same commits

abbrev again : (bytes other : List ℕ) (g : Graph) (n : ℕ) (E X : Facts) (side : IsSide bytes g n E X) → take (start_of side) other ≡ take (start_of side) bytes
    → StandsFor (drop (start_of side) other) (map commit_bytes side.commits) → IsSide other g n E X
again bytes other g n E X side same stands = record {
  format = side.format;
  is_known = side.is_known;
  small = side.small;
  reads = side.reads;
  image = side.image;
  is_image = side.is_image;
  counted_image = side.counted_image;
  commits = side.commits;
  are_commits = side.are_commits;
  journal = drop (start_of side) other;
  records = stands;
  spelled = begins_so bytes g n E X side other same;
  image_fits = side.image_fits;
  events_fit = side.events_fit;
  environment = side.environment;
  facts = side.facts;
}

pub stays_alike : (bytes other : List ℕ) (g : Graph) (n : ℕ) (E X : Facts) (side : IsSide bytes g n E X) → take (start_of side) other ≡ take (start_of side) bytes
    → StandsFor (drop (start_of side) other) (map commit_bytes side.commits) → (same : IsSide other g n E X) × (end_of same ≡ end_of side)
stays_alike bytes other g n E X side same stands = (again bytes other g n E X side same stands, refl)

-- ---- some commits more

all_both : {A : Type 0} (P : A → Type 0) (xs ys : List A) → AllByRecursion P xs → AllByRecursion P ys → AllByRecursion P (xs ++ ys)
all_both P [] ys all others = others
all_both P (first ∷ xs) ys all others = (all.0, all_both P xs ys all.1 others)

pub one_more : {A : Type 0} (P : A → Type 0) (xs : List A) (x : A) → AllByRecursion P xs → P x → AllByRecursion P (xs ++ x ∷ [])
one_more P xs x all last = all_both P xs (x ∷ []) all (last, tt)

-- a set that has the facts of a list has them too when both get more
pub set_grown : AmongBoth → (old : List Fact) (X : Facts) (more : List Fact) → SameSet X (among old) → SameSet (with_facts X more) (among (old ++ more))
set_grown both old X more same fact = ap (λ (b : Bool). b || among more fact) (same fact) ∙ sym (both old more fact)

pub records_more : (payloads : List (List ℕ)) (payload : List ℕ) → records (payloads ++ payload ∷ []) ≡ records payloads ++ record_of payload
records_more payloads payload = flat_map-append record_of payloads (payload ∷ []) ∙ ap (λ (last : List ℕ). records payloads ++ last) (append-nil (record_of payload))

ends_later : (start : ℕ) (commits added : List Commit)
    → start + length (records (map commit_bytes (commits ++ added))) ≡ (start + length (records (map commit_bytes commits))) + length (records (map commit_bytes added))
ends_later start commits added =
    let whole : length (records (map commit_bytes (commits ++ added))) ≡ length (records (map commit_bytes commits)) + length (records (map commit_bytes added)) =
    ap length (ap records (map-append commit_bytes commits added) ∙ flat_map-append record_of (map commit_bytes commits) (map commit_bytes added))
    ∙ length-append (records (map commit_bytes commits)) (records (map commit_bytes added)) in
    omega arith

-- the events of two lists of commits
pub events_both : (one two : List Commit) → events_of (one ++ two) ≡ events_of one ++ events_of two
events_both [] two = refl
events_both (commit ∷ one) two = ap (λ (events : List Event). commit ++ events) (events_both one two) ∙ sym (append_assoc commit (events_of one) (events_of two))

pub stated_on : FactsGoOn → (old : List Fact) (commits added : List Commit)
    → (old ++ facts (events_of commits)) ++ facts (events_of added) ≡ old ++ facts (events_of (commits ++ added))
stated_on facts_on old commits added =
    append_assoc old (facts (events_of commits)) (facts (events_of added))
    ∙ ap (λ (list : List Fact). old ++ list) (sym (facts_on (events_of commits) (events_of added)) ∙ ap facts (sym (events_both commits added)))

pub put_on : EnvironmentGoesOn → (old : List Fact) (commits added : List Commit)
    → (old ++ environment (events_of commits)) ++ environment (events_of added) ≡ old ++ environment (events_of (commits ++ added))
put_on given_on old commits added =
    append_assoc old (environment (events_of commits)) (environment (events_of added))
    ∙ ap (λ (list : List Fact). old ++ list) (sym (given_on (events_of commits) (events_of added)) ∙ ap environment (sym (events_both commits added)))

pub fit_on : AllFitInParts → (g : Graph) (old : List Fact) (commits added : List Commit) → AllFit g old (events_of commits) → AllFit g (old ++ facts (events_of commits)) (events_of added)
    → AllFit g old (events_of (commits ++ added))
fit_on parts g old commits added before behind = subst (AllFit g old) (sym (events_both commits added)) ((parts g old (events_of commits) (events_of added)).1 (before, behind))

module _ (both : AmongBoth) (facts_on : FactsGoOn) (given_on : EnvironmentGoesOn) (parts : AllFitInParts) where
  abbrev grown : (bytes other : List ℕ) (g : Graph) (n : ℕ) (E X : Facts) (side : IsSide bytes g n E X) (added : List Commit) → AllByRecursion (IsCommit MAX_COMPONENTS) added
      → AllFit g (facts_of side) (events_of added) → take (start_of side) other ≡ take (start_of side) bytes
      → StandsFor (drop (start_of side) other) (map commit_bytes side.commits ++ map commit_bytes added)
      → IsSide other g n (with_facts E (environment (events_of added))) (with_facts X (facts (events_of added)))
  grown bytes other g n E X side added are_commits fit same stands = record {
    format = side.format;
    is_known = side.is_known;
    small = side.small;
    reads = side.reads;
    image = side.image;
    is_image = side.is_image;
    counted_image = side.counted_image;
    commits = side.commits ++ added;
    are_commits = all_both (IsCommit MAX_COMPONENTS) side.commits added side.are_commits are_commits;
    journal = drop (start_of side) other;
    records = subst (λ (list : List (List ℕ)). StandsFor (drop (start_of side) other) list) (sym (map-append commit_bytes side.commits added)) stands;
    spelled = begins_so bytes g n E X side other same;
    image_fits = side.image_fits;
    events_fit = fit_on parts g (image_facts side.image) side.commits added side.events_fit fit;
    environment = λ fact. set_grown both (image_environment side.image ++ environment (events_of side.commits)) E (environment (events_of added)) side.environment fact
        ∙ ap (λ (list : List Fact). among list fact) (put_on given_on (image_environment side.image) side.commits added);
    facts = λ fact. set_grown both (facts_of side) X (facts (events_of added)) side.facts fact
        ∙ ap (λ (list : List Fact). among list fact) (stated_on facts_on (image_facts side.image) side.commits added);
  }

  pub grows_by_commits : (bytes other : List ℕ) (g : Graph) (n : ℕ) (E X : Facts) (side : IsSide bytes g n E X) (added : List Commit) → AllByRecursion (IsCommit MAX_COMPONENTS) added
      → AllFit g (facts_of side) (events_of added) → take (start_of side) other ≡ take (start_of side) bytes
      → StandsFor (drop (start_of side) other) (map commit_bytes side.commits ++ map commit_bytes added)
      → (it : IsSide other g n (with_facts E (environment (events_of added))) (with_facts X (facts (events_of added)))) × (end_of it ≡ end_of side + length (records (map commit_bytes added)))
  grows_by_commits bytes other g n E X side added are_commits fit same stands =
      (grown bytes other g n E X side added are_commits fit same stands, ends_later (start_of side) side.commits added)

-- ---- one commit more

-- what holds of the events of a list of one commit holds of that commit
events_of_one : (P : Commit → Type 0) (commit : Commit) → P (events_of (commit ∷ [])) → P commit
events_of_one P commit = subst P (append-nil commit)

pub stated_on_one : FactsGoOn → (old : List Fact) (commits : List Commit) (commit : Commit)
    → (old ++ facts (events_of commits)) ++ facts commit ≡ old ++ facts (events_of (commits ++ commit ∷ []))
stated_on_one facts_on old commits commit =
    events_of_one (λ (events : Commit). (old ++ facts (events_of commits)) ++ facts events ≡ old ++ facts (events_of (commits ++ commit ∷ []))) commit (stated_on facts_on old commits (commit ∷ []))

pub put_on_one : EnvironmentGoesOn → (old : List Fact) (commits : List Commit) (commit : Commit)
    → (old ++ environment (events_of commits)) ++ environment commit ≡ old ++ environment (events_of (commits ++ commit ∷ []))
put_on_one given_on old commits commit =
    events_of_one (λ (events : Commit). (old ++ environment (events_of commits)) ++ environment events ≡ old ++ environment (events_of (commits ++ commit ∷ []))) commit (put_on given_on old commits (commit ∷ []))

pub fit_on_one : AllFitInParts → (g : Graph) (old : List Fact) (commits : List Commit) (commit : Commit) → AllFit g old (events_of commits) → AllFit g (old ++ facts (events_of commits)) commit
    → AllFit g old (events_of (commits ++ commit ∷ []))
fit_on_one parts g old commits commit before behind =
    fit_on parts g old commits (commit ∷ []) before (subst (AllFit g (old ++ facts (events_of commits))) (sym (append-nil commit)) behind)
