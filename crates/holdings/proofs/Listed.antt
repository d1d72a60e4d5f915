-- What lists say that are made of the entries of finite maps, and that they rise.
use Rattle.std.proofs.Common.{◌≡◌, ◌∙◌, ap, sym, refl, subst, ℤ, T, Bool, true, false, cond, ◌&&◌, ◌||◌, List, [], ◌∷◌, map, Option, Some, None, is_some}
use Rattle.std.specs.Bool.{⊤}
use Rattle.std.specs.declared.cmp.Ordering.{Ordering}
use Rattle.std.specs.declared.cmp.Ordering.TheVariants.{Less, Equal, Greater}
use Rattle.std.specs.List.{flat_map, list_any}
use Rattle.std.specs.Option.{unwrap_or}
use Rattle.std.specs.Ordering.{is_lt, is_eq, eq_by_cmp}
use Rattle.std.specs.Cmp.{IsTotalOrder, Equal-is, eq_by_cmp_equiv}
use Rattle.std.specs.FinMap.{entries, entries_sorted, find, get, get-entries, is_sorted}
use Rattle.std.specs.FinMap.Entries.{below_all}
use Rattle.terms.specs.declared.name.Addr.{Addr}
use Rattle.terms.specs.declared.name.Tag.{Tag}
use Rattle.terms.specs.declared.name.Inst.{Inst}
use Rattle.terms.specs.declared.producer.Producer.{Producer}
use Rattle.terms.specs.declared.producer.Producer.TheVariants.{Env}
use Rattle.terms.specs.Name.{inst_cmp, tag_cmp}
use Rattle.terms.specs.Facts.{tag, item, done}
use Rattle.terms.specs.Sets.{among, AmongBoth}
use Rattle.codec.specs.declared.image.Image.{Image}
use Rattle.codec.specs.Entries.{Item, MarkedTag, item_cmp, marked_cmp, Rises}
use Rattle.codec.specs.Image.{environment_tag}
use Rattle.maps.specs.Numbered.{Place, place_cmp}
use Rattle.maps.specs.PlaceOrder.{places_total, same_places}
use Rattle.items.specs.Held.{place}
use Rattle.instances.specs.Known.{inst_place, tag_at, tag_place}
use Rattle.holdings.specs.Listing.{items_of, tags_of, insts_of}
use Rattle.holdings.specs.ImageLaws.{DoneTell, ImagesTell, TellsRest, is_item}
use Rattle.holdings.proofs.ImageFacts.{or_false, item_fact, tag_fact, facts_tag, facts_item, facts_done, facts_bad, given_tag, given_own, given_by, given_done, given_bad}

abbrev Entry : Type 0
Entry = ℤ × Producer

pub first : (a b : Bool) → T (a && b) → T a
first true b p = tt
first false b p = p

pub second : (a b : Bool) → T (a && b) → T b
second true b p = p
second false b p = absurd p

pub less : (o : Ordering) → T (is_lt o) → o ≡ Less
less Less p = refl
less Equal p = absurd p
less Greater p = absurd p

-- a place below all others is not among them
not_among : {X : Type 0} (k : Place) (es : List (Place × X)) → T (below_all place_cmp k es) → find place_cmp k es ≡ None
not_among k [] below = refl
not_among k (e ∷ es) below =
    ap (λ o. cond (is_eq o) (Some e.1) (find place_cmp k es)) (less (place_cmp k e.0) (first _ _ below)) ∙ not_among k es (second (is_lt (place_cmp k e.0)) _ below)

-- after the entry of this place there is no other one
only_here : {X : Type 0} (k : Place) (e : Place × X) (es : List (Place × X)) → T (is_sorted place_cmp (e ∷ es)) → eq_by_cmp place_cmp k e.0 ≡ true → find place_cmp k es ≡ None
only_here k e es sorted is =
    ap (λ (q : Place). find place_cmp q es) (same_places k e.0 ((Equal-is (place_cmp k e.0)).0 is)) ∙ not_among e.0 es (first _ _ sorted)

turned : (at k : Place) → eq_by_cmp place_cmp at k ≡ eq_by_cmp place_cmp k at
turned at k = (eq_by_cmp_equiv places_total).symm at k

-- ---- items

item_either : (b : Bool) (x : Entry) (rest : Option Entry) (v : ℤ) (p : Producer) → (b ≡ true → rest ≡ None) → ((b && is_item (Some x) v p) || is_item rest v p) ≡ is_item (cond b (Some x) rest) v p
item_either true x rest v p none = ap (λ o. is_item (Some x) v p || is_item o v p) (none refl) ∙ or_false _
item_either false x rest v p none = refl

item_found : (es : List (Place × Entry)) → T (is_sorted place_cmp es) → (a : Addr) (v : ℤ) (p : Producer) → among (map item_fact (items_of es)) (item a v p) ≡ is_item (find place_cmp (place a) es) v p
item_found [] sorted a v p = refl
item_found (e ∷ es) sorted a v p =
    let test = is_item (Some e.1) v p in
    ap (λ b. (b && test) || among (map item_fact (items_of es)) (item a v p)) (turned e.0 (place a))
    ∙ ap (λ b. (eq_by_cmp place_cmp (place a) e.0 && test) || b) (item_found es (second (below_all place_cmp e.0 es) _ sorted) a v p)
    ∙ item_either (eq_by_cmp place_cmp (place a) e.0) e.1 (find place_cmp (place a) es) v p (only_here (place a) e es sorted)

items_rise : (es : List (Place × Entry)) → T (is_sorted place_cmp es) → Rises item_cmp (items_of es)
items_rise [] sorted = tt
items_rise (e ∷ []) sorted = tt
items_rise (e ∷ f ∷ es) sorted = (
  less (place_cmp e.0 f.0) (first _ (below_all place_cmp e.0 es) (first (below_all place_cmp e.0 (f ∷ es)) _ sorted)),
  items_rise (f ∷ es) (second (below_all place_cmp e.0 (f ∷ es)) _ sorted),
)

-- ---- tags

some_either : (b mark : Bool) (rest : Option Bool) → (b || is_some rest) ≡ is_some (cond b (Some mark) rest)
some_either true mark rest = refl
some_either false mark rest = refl

tag_found : (es : List (Place × Bool)) (name : Tag) → among (map tag_fact (tags_of es)) (tag name) ≡ is_some (find place_cmp (tag_place name) es)
tag_found [] name = refl
tag_found (e ∷ es) name =
    ap (λ b. b || among (map tag_fact (tags_of es)) (tag name)) (turned e.0 (tag_place name))
    ∙ ap (λ b. eq_by_cmp place_cmp (tag_place name) e.0 || b) (tag_found es name) ∙ some_either (eq_by_cmp place_cmp (tag_place name) e.0) e.1 (find place_cmp (tag_place name) es)

-- one tag says that the environment put another exactly if they are equal and the first is marked
mark_told : (there : Tag) (mark : Bool) (name : Tag) → among (environment_tag (there, mark)) (tag name) ≡ (is_eq (tag_cmp there name) && mark)
mark_told there true name = at (is_eq (tag_cmp there name))
  where
    at : (b : Bool) → (b || false) ≡ (b && true)
    at true = refl
    at false = refl
mark_told there false name = at (is_eq (tag_cmp there name))
  where
    at : (b : Bool) → false ≡ (b && false)
    at true = refl
    at false = refl

mark_either : (b mark : Bool) (rest : Option Bool) → (b ≡ true → rest ≡ None) → ((b && mark) || unwrap_or rest false) ≡ unwrap_or (cond b (Some mark) rest) false
mark_either true mark rest none = ap (λ (o : Option Bool). mark || unwrap_or o false) (none refl) ∙ or_false mark
mark_either false mark rest none = refl

mark_found : AmongBoth → (es : List (Place × Bool)) → T (is_sorted place_cmp es) → (name : Tag) → among (flat_map environment_tag (tags_of es)) (tag name) ≡ unwrap_or (find place_cmp (tag_place name) es) false
mark_found both [] sorted name = refl
mark_found both (e ∷ es) sorted name =
    let rest = among (flat_map environment_tag (tags_of es)) (tag name) in
    both (environment_tag (tag_at e.0, e.1)) (flat_map environment_tag (tags_of es)) (tag name)
    ∙ ap (λ b. b || rest) (mark_told (tag_at e.0) e.1 name ∙ ap (λ b. b && e.1) (turned e.0 (tag_place name)))
    ∙ ap (λ b. (eq_by_cmp place_cmp (tag_place name) e.0 && e.1) || b) (mark_found both es (second (below_all place_cmp e.0 es) _ sorted) name)
    ∙ mark_either (eq_by_cmp place_cmp (tag_place name) e.0) e.1 (find place_cmp (tag_place name) es) (only_here (tag_place name) e es sorted)

tags_rise : (es : List (Place × Bool)) → T (is_sorted place_cmp es) → Rises marked_cmp (tags_of es)
tags_rise [] sorted = tt
tags_rise (e ∷ []) sorted = tt
tags_rise (e ∷ f ∷ es) sorted = (
  less (place_cmp e.0 f.0) (first _ (below_all place_cmp e.0 es) (first (below_all place_cmp e.0 (f ∷ es)) _ sorted)),
  tags_rise (f ∷ es) (second (below_all place_cmp e.0 (f ∷ es)) _ sorted),
)

-- ---- done instances

done_listed : IsTotalOrder inst_cmp → (list : List Inst) (i : Inst) → among (map done list) (done i) ≡ list_any (eq_by_cmp inst_cmp i) list
done_listed total [] i = refl
done_listed total (x ∷ xs) i =
    ap (λ b. b || among (map done xs) (done i)) ((eq_by_cmp_equiv total).symm x i) ∙ ap (λ b. eq_by_cmp inst_cmp i x || b) (done_listed total xs i)

done_found : (es : List (Place × ⊤)) (i : Inst) → list_any (eq_by_cmp inst_cmp i) (insts_of es) ≡ is_some (find place_cmp (inst_place i) es)
done_found [] i = refl
done_found (e ∷ es) i = ap (λ b. eq_by_cmp place_cmp (inst_place i) e.0 || b) (done_found es i) ∙ either_is (eq_by_cmp place_cmp (inst_place i) e.0) e.1 (find place_cmp (inst_place i) es)
  where
    either_is : (b : Bool) (x : ⊤) (rest : Option ⊤) → (b || is_some rest) ≡ is_some (cond b (Some x) rest)
    either_is true x rest = refl
    either_is false x rest = refl

done_rise : (es : List (Place × ⊤)) → T (is_sorted place_cmp es) → Rises inst_cmp (insts_of es)
done_rise [] sorted = tt
done_rise (e ∷ []) sorted = tt
done_rise (e ∷ f ∷ es) sorted = (
  less (place_cmp e.0 f.0) (first _ (below_all place_cmp e.0 es) (first (below_all place_cmp e.0 (f ∷ es)) _ sorted)),
  done_rise (f ∷ es) (second (below_all place_cmp e.0 (f ∷ es)) _ sorted),
)

-- ---- all of them

pub images_tell : AmongBoth → ImagesTell
images_tell both image items tags are_items are_tags =
    record {
      of_items = λ a v p. facts_item both image a v p ∙ listed_item a v p;
      of_tags = λ name. facts_tag both image name ∙ ap (λ (list : List MarkedTag). among (map tag_fact list) (tag name)) are_tags ∙ tag_found (entries tags) name ∙ ap is_some (sym (get-entries tags (tag_place name)));
      given_items = λ a v. given_own both image a v ∙ listed_item a v Env;
      given_tags = λ name.
          given_tag both image name ∙ ap (λ (list : List MarkedTag). among (flat_map environment_tag list) (tag name)) are_tags
          ∙ mark_found both (entries tags) (entries_sorted tags) name ∙ ap (λ o. unwrap_or o false) (sym (get-entries tags (tag_place name)));
      items_rise = subst (λ (list : List Item). Rises item_cmp list) (sym are_items) (items_rise (entries items) (entries_sorted items));
      tags_rise = subst (λ (list : List MarkedTag). Rises marked_cmp list) (sym are_tags) (tags_rise (entries tags) (entries_sorted tags));
    }
  where
    listed_item : (a : Addr) (v : ℤ) (p : Producer) → among (map item_fact image.items) (item a v p) ≡ is_item (get items (place a)) v p
    listed_item a v p =
        ap (λ (list : List Item). among (map item_fact list) (item a v p)) are_items ∙ item_found (entries items) (entries_sorted items) a v p
        ∙ ap (λ (o : Option Entry). is_item o v p) (sym (get-entries items (place a)))

pub done_tell : AmongBoth → IsTotalOrder inst_cmp → DoneTell
done_tell both total image ended are = record {
  of_done = λ i.
      facts_done both image i ∙ done_listed total image.done i ∙ ap (λ (list : List Inst). list_any (eq_by_cmp inst_cmp i) list) are
      ∙ done_found (entries ended) i ∙ ap is_some (sym (get-entries ended (inst_place i)));
  rise = subst (λ (list : List Inst). Rises inst_cmp list) (sym are) (done_rise (entries ended) (entries_sorted ended));
}

pub rest_told : AmongBoth → IsTotalOrder inst_cmp → (image : Image) → TellsRest image
rest_told both total image = record {
  of_done = λ i. facts_done both image i ∙ done_listed total image.done i;
  of_fault = facts_bad both image;
  given_by = given_by both image;
  given_done = given_done both image;
  given_fault = given_bad both image;
}
