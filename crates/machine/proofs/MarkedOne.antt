-- One entry that may be marked, and what its mark says.
use Rattle.std.proofs.Common.{◌≡◌, ◌∙◌, ap, refl, ℤ, Bool, true, false, cond, ◌&&◌, ◌||◌, Option, Some, None, IfSome, IsSomeAnd, is_some}
use Rattle.std.proofs.lemmas.Bool.{false≢true}
use Rattle.std.specs.Option.{option_map, unwrap_or}
use Rattle.std.specs.Ordering.{eq_by_cmp}
use Rattle.std.specs.Cmp.{eq_by_cmp_equiv}
use Rattle.std.specs.FinMap.{get}
use Rattle.terms.specs.declared.producer.Producer.{Producer}
use Rattle.holdings.specs.ImageLaws.{is_item}
use Rattle.maps.specs.Marked.{MarkedPlaces, with_mark}
use Rattle.maps.specs.Numbered.{Place, place_cmp}
use Rattle.maps.specs.PlaceOrder.{places_total}
use Rattle.maps.specs.WithMark.{also_marked, get-with_mark}
use Rattle.instances.specs.declared.standing.Standing.{Standing}
use Rattle.instances.specs.declared.standing.Standing.TheVariants as stands
use Rattle.instances.specs.declared.state.State.{State}
use Rattle.instances.specs.declared.state.State.TheVariants.{Ready, Running, Waiting, Done}
use Rattle.instances.specs.MarkedDone.{first_mark, is_over, mark_if_over}
use Rattle.instances.specs.MarkedDone as of_done
use Rattle.machine.specs.Memory.{is_done}
use Rattle.machine.specs.Marked.{marked_by, there_by}

abbrev pub bare : {X : Type 0} → Option (X × Bool) → Option X
bare o = option_map (λ entry. entry.0) o

-- ---- one entry

module _ {X : Type 0} (test : X → Bool) where
  pub none_marked : (o : Option X) → marked_by test (option_map {U = X × Bool} (λ value. (value, false)) o) ≡ false
  none_marked None = refl
  none_marked (Some value) = refl

  pub part : (o : Option (X × Bool)) → marked_by test o ≡ true → there_by test (bare o) ≡ true
  part None is = is
  part (Some entry) is = second entry.1 (test entry.0) is
    where
      second : (a b : Bool) → (a && b) ≡ true → b ≡ true
      second true b is = is
      second false b is = absurd (false≢true is)

  pub all_marked : (o : Option (X × Bool)) → IfSome o (λ entry. entry.1 ≡ true) → there_by test (bare o) ≡ true → marked_by test o ≡ true
  all_marked None all is = is
  all_marked (Some entry) all is = ap (λ b. b && test entry.0) all ∙ is

  pub one_left : (o : Option (X × Bool)) → IsSomeAnd o (λ entry. entry.1 ≡ false) → marked_by test o ≡ false
  one_left None left = absurd left
  one_left (Some entry) left = ap (λ b. b && test entry.0) left

  one_more : (same : Bool) (o : Option (X × Bool)) → marked_by test (option_map (also_marked same) o) ≡ (marked_by test o || (same && there_by test (bare o)))
  one_more true None = refl
  one_more false None = refl
  one_more same (Some entry) = so same entry.1 (test entry.0)
    where
      so : (a b c : Bool) → ((a || b) && c) ≡ (b && c || (a && c))
      so true true true = refl
      so true true false = refl
      so true false c = refl
      so false true true = refl
      so false true false = refl
      so false false c = refl

  -- one more is marked: among the facts, what the entry at its place says
  pub after : (marks : MarkedPlaces X) (at other : Place) → marked_by test (get (with_mark marks at) other) ≡ (marked_by test (get marks other) || (eq_by_cmp place_cmp at other && there_by test (bare (get marks other))))
  after marks at other =
      ap (marked_by test) (get-with_mark places_total marks at other) ∙ one_more (eq_by_cmp place_cmp other at) (get marks other)
      ∙ ap (λ b. marked_by test (get marks other) || (b && there_by test (bare (get marks other)))) ((eq_by_cmp_equiv places_total).symm other at)

pub none_else : (b : Bool) → b ≡ (b || false)
none_else true = refl
none_else false = refl

-- ---- the kinds of facts

pub item_there : (o : Option (ℤ × Producer)) (value : ℤ) (by : Producer) → there_by (λ there. is_item (Some there) value by) o ≡ is_item o value by
item_there None value by = refl
item_there (Some there) value by = refl

pub tag_there : (o : Option Bool) → there_by (λ _. true) o ≡ is_some o
tag_there None = refl
tag_there (Some given) = refl

pub over_there : (o : Option (Standing × Bool)) → there_by is_over (bare o) ≡ is_some (of_done.done_in o)
over_there None = refl
over_there (Some entry) = at entry.0 entry.1
  where
    at : (s : Standing) (m : Bool) → is_over s ≡ is_some (mark_if_over s m)
    at stands.Ready m = refl
    at stands.Running m = refl
    at stands.Waiting m = refl
    at stands.Done m = refl

pub first_there : (o : Option State) → is_some (first_mark o) ≡ is_done o
first_there None = refl
first_there (Some Ready) = refl
first_there (Some Running) = refl
first_there (Some (Waiting address)) = refl
first_there (Some Done) = refl

pub over_marked : (o : Option (Standing × Bool)) → of_done.done_in o ≡ cond (there_by is_over (bare o)) (Some (marked_by is_over o)) None
over_marked None = refl
over_marked (Some entry) = at entry.0 entry.1
  where
    at : (s : Standing) (m : Bool) → mark_if_over s m ≡ cond (is_over s) (Some (m && is_over s)) None
    at stands.Ready m = refl
    at stands.Running m = refl
    at stands.Waiting m = refl
    at stands.Done true = refl
    at stands.Done false = refl

pub over_or : (o : Option (Standing × Bool)) → marked_by is_over o ≡ unwrap_or (of_done.done_in o) false
over_or None = refl
over_or (Some entry) = at entry.0 entry.1
  where
    at : (s : Standing) (m : Bool) → (m && is_over s) ≡ unwrap_or (mark_if_over s m) false
    at stands.Ready true = refl
    at stands.Ready false = refl
    at stands.Running true = refl
    at stands.Running false = refl
    at stands.Waiting true = refl
    at stands.Waiting false = refl
    at stands.Done true = refl
    at stands.Done false = refl

pub first_none : (s : Option State) → unwrap_or (first_mark s) false ≡ false
first_none None = refl
first_none (Some Ready) = refl
first_none (Some Running) = refl
first_none (Some (Waiting address)) = refl
first_none (Some Done) = refl

pub and_true : (b : Bool) → (b && true) ≡ b
and_true true = refl
and_true false = refl
