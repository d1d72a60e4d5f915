-- A side that has the first of a side's commits alone.
use Rattle.std.proofs.Common.{◌≡◌, ℕ, zero, suc, List, [], ◌∷◌, ◌++◌, map, take, drop, refl, sym, ap, subst, ◌∙◌}
use Rattle.std.specs.List.{AllByRecursion}
use Rattle.std.proofs.lemmas.List.{take-append-drop, take-map}
use Rattle.terms.specs.Commits.{events_of}
use Rattle.terms.specs.Sets.{Facts}
use Rattle.codec.specs.Commits.{commit_bytes, IsCommit}
use Rattle.codec.specs.Image.{image_facts}
use Rattle.journal.specs.Records.{StandsFor}
use Rattle.graph.specs.Graph.{Graph}
use Rattle.graph.specs.Fits.{AllFit}
use Rattle.graph.specs.FitLaws.{AllFitInParts}
use Rattle.sides.specs.Side.{IsSide, start_of}
use Rattle.sides.specs.First.{HasFirst, first_commits}
use Rattle.sides.proofs.GoesOn.{begins_so, events_both}
use Rattle.terms.specs.declared.key.TheConstants.{MAX_COMPONENTS}

first_of_all : {A : Type 0} (P : A → Type 0) (count : ℕ) (xs : List A) → AllByRecursion P xs → AllByRecursion P (take count xs)
first_of_all P zero xs all = tt
first_of_all P (suc count) [] all = tt
first_of_all P (suc count) (x ∷ xs) all = (all.0, first_of_all P count xs all.1)

pub has_first : AllFitInParts → (count : ℕ) (bytes other : List ℕ) (g : Graph) (n : ℕ) (E X : Facts) (side : IsSide bytes g n E X) → take (start_of side) other ≡ take (start_of side) bytes
    → StandsFor (drop (start_of side) other) (take count (map commit_bytes side.commits)) → HasFirst count side other
has_first parts count bytes other g n E X side same stands = record {
  is_side = record {
    format = side.format;
    is_known = side.is_known;
    small = side.small;
    reads = side.reads;
    image = side.image;
    is_image = side.is_image;
    counted_image = side.counted_image;
    commits = first_commits count side;
    are_commits = first_of_all (IsCommit MAX_COMPONENTS) count side.commits side.are_commits;
    journal = drop (start_of side) other;
    records = subst (StandsFor (drop (start_of side) other)) (take-map commit_bytes count side.commits) stands;
    spelled = begins_so bytes g n E X side other same;
    image_fits = side.image_fits;
    events_fit = first_fit;
    environment = λ fact. refl;
    facts = λ fact. refl;
  };
  image = refl;
  commits = refl;
}
  where
    both : events_of side.commits ≡ events_of (first_commits count side) ++ events_of (drop count side.commits)
    both = ap events_of (sym (take-append-drop count side.commits)) ∙ events_both (first_commits count side) (drop count side.commits)

    first_fit : AllFit g (image_facts side.image) (events_of (first_commits count side))
    first_fit = ((parts g (image_facts side.image) (events_of (first_commits count side)) (events_of (drop count side.commits))).0 (subst (AllFit g (image_facts side.image)) both side.events_fit)).0
