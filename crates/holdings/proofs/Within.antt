-- An image whose facts fit a graph names only collections and steps of it.
use Rattle.std.proofs.Common.{◌≡◌, ◌∙◌, Bool, true, false, ◌||◌, List, [], ◌∷◌, map, refl}
use Rattle.std.proofs.lemmas.Option.{slice_get_within}
use Rattle.std.specs.List.{AllByRecursion}
use Rattle.terms.specs.Facts.{Fact, done}
use Rattle.terms.specs.Sets.{is_fact, among, OneFact, AmongBoth}
use Rattle.holdings.specs.ImageLaws.{FittingIsWithin}
use Rattle.holdings.proofs.ImageFacts.{item_fact, tag_fact, facts_tag, facts_item, facts_done}

or_left : (a b : Bool) → a ≡ true → (a || b) ≡ true
or_left a b holds = cc

or_right : (a b : Bool) → b ≡ true → (a || b) ≡ true
or_right true b holds = refl
or_right false b holds = holds

-- what holds of each element whose fact is listed holds of all
each_listed : OneFact → {X : Type 0} (f : X → Fact) (P : X → Type 0) (list : List X) → ((x : X) → among (map f list) (f x) ≡ true → P x) → AllByRecursion P list
each_listed told f P [] known = tt
each_listed told f P (x ∷ list) known = (
  known x (or_left (is_fact (f x) (f x)) (among (map f list) (f x)) (told (f x) (f x)).0),
  each_listed told f P list (λ y there. known y (or_right (is_fact (f x) (f y)) (among (map f list) (f y)) there)),
)

pub fitting_is_within : OneFact → AmongBoth → FittingIsWithin
fitting_is_within told both g image fits = record {
  items = each_listed told item_fact _ image.items (λ it there.
      let is = fits.of_graph (item_fact it) (facts_item both image it.0 it.1 it.2 ∙ there) in
      slice_get_within g.items it.0.collection.0 is.0 is.1);
  tags = each_listed told tag_fact _ image.tags (λ marked there.
      let is = fits.of_graph (tag_fact marked) (facts_tag both image marked.0 ∙ there) in
      slice_get_within g.tags marked.0.collection.0 is.0 is.1);
  done = each_listed told done _ image.done (λ instance there.
      let is = fits.of_graph (done instance) (facts_done both image instance ∙ there) in
      slice_get_within g.steps instance.collection.0 is.0 is.1);
}
