-- Lists that are read element by element: what is held so far, and what refutes a whole list.
use Rattle.std.proofs.Common.{◌≡◌, ◌∙◌, ap, sym, subst, refl, ℕ, Bool, true, false, List, [], ◌∷◌, ◌++◌, append_assoc, map, Result, Ok, Err, None}
use Rattle.std.proofs.lemmas.List.{append-nil}
use Rattle.std.proofs.lemmas.Bool.{false≢true}
use Rattle.std.specs.Prelude.{◌↔◌, IsTrue}
use Rattle.std.specs.List.{AllByRecursion}
use Rattle.std.specs.FinMap.{FinMap, from_entries, get, insert}
use Rattle.terms.specs.declared.name.Inst.{Inst}
use Rattle.codec.specs.declared.error.CodecError.{CodecError}
use Rattle.codec.specs.Entries.{Item, MarkedTag}
use Rattle.codec.specs.Lists.{ListRead, Unread, led_by, read_of, with_end}
use Rattle.maps.specs.Numbered.{Place, place_cmp}
use Rattle.items.specs.Held.{place}
use Rattle.instances.specs.Known.{inst_place, tag_place}
use Rattle.holdings.specs.Holdings.{Holdings, done_entry, item_entry, tag_entry, with_done, with_ended, with_item, with_items, with_tag, with_tags}
use Rattle.holdings.proofs.Pushed.{put_again, put_new}

-- ---- what a list is read as

abbrev elements_or : {X : Type 0} → List X → ListRead X → List X
elements_or others (Ok read) = read.0
elements_or others (Err error) = others

-- a list that is read whole has all of its elements
pub are_all : {X : Type 0} (list : Unread X) (elements : List X) (rest : List ℕ) → read_of list ≡ Ok (elements, rest) → list.elements ≡ elements
are_all list elements rest is = by_end list.ends is
  where
    by_end : (ends : Result (List ℕ) CodecError) → with_end list.elements ends ≡ Ok (elements, rest) → list.elements ≡ elements
    by_end (Ok more) same = ap (elements_or elements) same
    by_end (Err error) same = absurd (cc)

-- and no fault
pub no_fault : {X : Type 0} (list : Unread X) (elements : List X) (rest : List ℕ) (error : CodecError) → read_of list ≡ Ok (elements, rest) → list.ends ≡ Err error → ⊥
no_fault list elements rest error is stops = absurd (let both : with_end list.elements (Err error) ≡ Ok (elements, rest) = sym (ap (with_end list.elements) stops) ∙ is in cc)

-- one of them may not be held
pub not_all : {X : Type 0} (May : X → Type 0) (list : Unread X) (front : List X) (x : X) (more elements : List X) (rest : List ℕ) → list.elements ≡ front ++ x ∷ more → (May x → ⊥) → read_of list ≡ Ok (elements, rest)
    → AllByRecursion May elements → ⊥
not_all {X = X} May list front x more elements rest are not is each = not (among front (subst (AllByRecursion May) (sym (are_all list elements rest is) ∙ are) each))
  where
    among : (front : List X) → AllByRecursion May (front ++ x ∷ more) → May x
    among [] each = each.0
    among (y ∷ front) each = among front each.1

-- each of one more may be held
pub and_each : {X : Type 0} (May : X → Type 0) (front : List X) (x : X) → AllByRecursion May front → May x → AllByRecursion May (front ++ x ∷ [])
and_each May [] x each may = (may, tt)
and_each May (y ∷ front) x each may = (each.0, and_each May front x each.1 may)

-- the next one is handed out
pub one_further : {X : Type 0} (first old new : Unread X) (front : List X) (x : X) → first.elements ≡ front ++ old.elements → first.ends ≡ old.ends → old ≡ led_by x new
    → (first.elements ≡ (front ++ x ∷ []) ++ new.elements) × (first.ends ≡ new.ends)
one_further first old new front x are ends next = (
  are ∙ ap (λ list. front ++ list.elements) next ∙ sym (append_assoc front (x ∷ []) new.elements),
  ends ∙ ap (λ list. list.ends) next,
)

-- none is left
pub read_all : {X : Type 0} (first list : Unread X) (front : List X) (rest after : List ℕ) (read : ListRead X) → read_of first ≡ read → first.elements ≡ front ++ list.elements → first.ends ≡ list.ends
    → list ≡ record { elements = []; ends = Ok rest } → after ≡ rest → read ≡ Ok (front, after)
read_all {X = X} first list front rest after read is are ends none there =
    sym is
    ∙ (λ i. with_end ((are ∙ ap (λ (list : Unread X). front ++ list.elements) none ∙ append-nil front) i) ((ends ∙ ap (λ (list : Unread X). list.ends) none) i))
    ∙ ap (λ (bytes : List ℕ). Ok (front, bytes)) (sym there)

-- ---- one more is held

-- `hold` gives what is held with another map in the place of one of the maps, which is `of`
module _ {E X : Type 0} (entry : E → Place × X) (hold : FinMap place_cmp X → Holdings) (of : Holdings → FinMap place_cmp X) (with_one : Holdings → E → Holdings)
    (of_held : (m : FinMap place_cmp X) → of (hold m) ≡ m) (one_held : (m : FinMap place_cmp X) (x : E) → with_one (hold m) x ≡ hold (insert m (entry x).0 (entry x).1)) where
  -- an element is put, if there is none of its name
  one_more : (front : List E) (x : E) (old new : Holdings) (put : Bool) → old ≡ hold (from_entries (map entry front)) → IsTrue put ↔ (get (of old) (entry x).0 ≡ None)
      → (IsTrue put → new ≡ with_one old x) → (put ≡ false → new ≡ old) → new ≡ hold (from_entries (map entry (front ++ x ∷ [])))
  one_more front x old new put held absent is there = by_put put refl
    where
      seen : get (of old) (entry x).0 ≡ get (from_entries {R = place_cmp} (map entry front)) (entry x).0
      seen = ap (λ m. get m (entry x).0) (ap of held ∙ of_held (from_entries (map entry front)))

      by_put : (b : Bool) → put ≡ b → new ≡ hold (from_entries (map entry (front ++ x ∷ [])))
      by_put true new_one = is new_one ∙ ap (λ h. with_one h x) held ∙ one_held (from_entries (map entry front)) x ∙ ap hold (put_new entry front x (sym seen ∙ absent.0 new_one))
      by_put false isnt = there isnt ∙ held ∙ ap hold (put_again entry front x (λ none. false≢true (sym isnt ∙ absent.1 (seen ∙ none))))

module _ (first old new : Holdings) (put : Bool) (there : put ≡ false → new ≡ old) where
  pub one_more_item : (front : List Item) (it : Item) → old ≡ with_items first front → IsTrue put ↔ (get old.items (place it.0) ≡ None) → (IsTrue put → new ≡ with_item old it.0 it.1 it.2)
      → new ≡ with_items first (front ++ it ∷ [])
  one_more_item front it held absent is =
      one_more item_entry (λ m. record { fault = first.fault; items = m; tags = first.tags; done = first.done; counts = first.counts }) (λ h. h.items) (λ h it. with_item h it.0 it.1 it.2) (λ m. refl) (λ m it. refl)
      front it old new put held absent is there

  pub one_more_tag : (front : List MarkedTag) (marked : MarkedTag) → old ≡ with_tags first front → IsTrue put ↔ (get old.tags (tag_place marked.0) ≡ None) → (IsTrue put → new ≡ with_tag old marked.0 marked.1)
      → new ≡ with_tags first (front ++ marked ∷ [])
  one_more_tag front marked held absent is =
      one_more tag_entry (λ m. record { fault = first.fault; items = first.items; tags = m; done = first.done; counts = first.counts }) (λ h. h.tags) (λ h marked. with_tag h marked.0 marked.1) (λ m. refl) (λ m marked. refl)
      front marked old new put held absent is there

  pub one_more_done : (front : List Inst) (instance : Inst) → old ≡ with_ended first front → IsTrue put ↔ (get old.done (inst_place instance) ≡ None) → (IsTrue put → new ≡ with_done old instance)
      → new ≡ with_ended first (front ++ instance ∷ [])
  one_more_done front instance held absent is =
      one_more done_entry (λ m. record { fault = first.fault; items = first.items; tags = first.tags; done = m; counts = first.counts }) (λ h. h.done) with_done (λ m. refl) (λ m instance. refl)
      front instance old new put held absent is there
