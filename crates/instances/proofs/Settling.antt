-- Instances that are not done are marked along a walk, and the others are left.
use Rattle.std.proofs.Common.{◌≡◌, ◌∙◌, ap, sym, refl, subst, ℤ, T, Bool, true, false, cond, not, ◌&&◌, ◌||◌, List, [], ◌∷◌, Option, Some, None}
use mathlib.Core.Bool.{false≢true}
use Rattle.std.specs.declared.cmp.Ordering.{Ordering}
use Rattle.std.specs.declared.cmp.Ordering.TheVariants.{Less, Equal, Greater}
use Rattle.std.specs.Option.{option_map}
use Rattle.std.specs.Ordering.{eq_by_cmp, is_eq, is_lt}
use Rattle.std.specs.Cmp.{Equal-is}
use Rattle.std.proofs.lemmas.Cmp.{tied_itself}
use Rattle.std.specs.FinMap.{FinMap, entries, entries_sorted, find, get, get-entries, is_sorted}
use Rattle.std.specs.FinMap.Entries.{below_all}
use Rattle.terms.specs.Key.{key_cmp}
use Rattle.terms.specs.declared.name.Addr.{Addr}
use Rattle.maps.specs.Marked.{AreUnmarked, Marked, with_mark}
use Rattle.maps.specs.PlaceOrder.{keys_total, same_key}
use Rattle.maps.specs.WithMark.{also_marked, get-with_mark}
use Rattle.instances.specs.declared.standing.Standing.{Standing}
use Rattle.instances.specs.declared.standing.Standing.TheVariants as stands
use Rattle.instances.specs.MarkedDone.{AreSettled, MarksDone, done_in, first_mark, is_over}
use Rattle.instances.specs.Standings.{Addresses, address_in, joined}
use Rattle.instances.proofs.Joining.{state_joined, with_address}

abbrev pub Standings : Type 0
Standings = List (List ℤ × Standing)

-- what is still to come of the walk has no mark yet; the others are marked unless they are done
abbrev settled : Option Standing → Standing → Bool
settled None standing = not (is_over standing)
settled (Some _) standing = false

pub record Settles (standings : FinMap key_cmp Standing) (left : Standings) (marks : Marked Standing) : Type 0 where
  pub rises : T (is_sorted key_cmp left)
  pub there : (key : List ℤ) (standing : Standing) → find key_cmp key left ≡ Some standing → get standings key ≡ Some standing
  pub marked : (key : List ℤ) → get marks key ≡ option_map (λ standing. (standing, settled (find key_cmp key left) standing)) (get standings key)

second : (a b : Bool) → T (a && b) → T b
second true b both = both
second false b both = absurd both

first : (a b : Bool) → T (a && b) → T a
first true b both = tt
first false b both = both

less : (r : Ordering) → T (is_lt r) → is_eq r ≡ false
less Less is = refl
less Equal is = absurd is
less Greater is = absurd is

unmarked_stays : (there : Option (Standing × Bool)) → there ≡ option_map (also_marked false) there
unmarked_stays None = refl
unmarked_stays (Some entry) = refl

nothing : (b : Bool) → (b && false) ≡ false
nothing true = refl
nothing false = refl

itself_alone : (b : Bool) → (b && true || false) ≡ b
itself_alone true = refl
itself_alone false = refl

-- at the beginning no entry is marked
pub begun : (standings : FinMap key_cmp Standing) (marks : Marked Standing) → AreUnmarked standings marks → Settles standings (entries standings) marks
begun standings marks none = record {
  rises = entries_sorted standings;
  there = λ key standing is. get-entries standings key ∙ is;
  marked = λ key. none key ∙ at (get standings key) ∙ ap (λ o. option_map (λ standing. (standing, settled o standing)) (get standings key)) (get-entries standings key);
}
  where
    at : (o : Option Standing) → option_map {U = Standing × Bool} (λ standing. (standing, false)) o ≡ option_map {U = Standing × Bool} (λ standing. (standing, settled o standing)) o
    at None = refl
    at (Some standing) = refl

module _ (standings : FinMap key_cmp Standing) (key : List ℤ) (standing : Standing) (left : Standings) (old new : Marked Standing) (was : Settles standings ((key, standing) ∷ left) old)
    (is : new ≡ cond (is_over standing) old (with_mark old key)) where
  not_behind : (es : Standings) → T (below_all key_cmp key es) → find key_cmp key es ≡ None
  not_behind [] below = refl
  not_behind (e ∷ es) below = ap (λ b. cond b (Some e.1) (find key_cmp key es)) (less (key_cmp key e.0) (first _ _ below)) ∙ not_behind es (second (is_lt (key_cmp key e.0)) _ below)

  none_left : find key_cmp key left ≡ None
  none_left = not_behind left (first _ _ was.rises)

  -- the mark of the entry of the walk
  now : (q : List ℤ) → get new q ≡ option_map (also_marked (not (is_over standing) && eq_by_cmp key_cmp q key)) (get old q)
  now q = ap (λ m. get m q) is ∙ at (is_over standing)
    where
      at : (over : Bool) → get (cond over old (with_mark old key)) q ≡ option_map (also_marked (not over && eq_by_cmp key_cmp q key)) (get old q)
      at true = unmarked_stays (get old q)
      at false = get-with_mark keys_total old key q

  itself : eq_by_cmp key_cmp key key ≡ true
  itself = ap is_eq (tied_itself keys_total key)

  found_first : find key_cmp key ((key, standing) ∷ left) ≡ Some standing
  found_first = ap (λ b. cond b (Some standing) (find key_cmp key left)) itself

  here : get new key ≡ option_map (λ s. (s, settled (find key_cmp key left) s)) (get standings key)
  here =
      let known = was.there key standing found_first in
      let before : get old key ≡ Some (standing, false) = was.marked key ∙ (λ i. option_map (λ s. (s, settled (found_first i) s)) (known i)) in
      let after : option_map (λ s. (s, settled (find key_cmp key left) s)) (get standings key) ≡ Some (standing, not (is_over standing)) = λ i. option_map (λ s. (s, settled (none_left i) s)) (known i) in
      now key ∙ ap (option_map (also_marked (not (is_over standing) && eq_by_cmp key_cmp key key))) before
      ∙ ap (λ b. Some (standing, (not (is_over standing) && b || false))) itself ∙ ap (λ b. Some (standing, b)) (itself_alone (not (is_over standing))) ∙ sym after

  elsewhere : (q : List ℤ) → eq_by_cmp key_cmp q key ≡ false → get new q ≡ option_map (λ s. (s, settled (find key_cmp q left) s)) (get standings q)
  elsewhere q apart =
      now q ∙ ap (λ b. option_map (also_marked (not (is_over standing) && b)) (get old q)) apart ∙ ap (λ b. option_map (also_marked b) (get old q)) (nothing (not (is_over standing)))
      ∙ sym (unmarked_stays (get old q)) ∙ was.marked q ∙ ap (λ b. option_map (λ s. (s, settled (cond b (Some standing) (find key_cmp q left)) s)) (get standings q)) apart

  pub goes_on : Settles standings left new
  goes_on = record {
    rises = second (below_all key_cmp key left) _ was.rises;
    there = λ q s found. was.there q s (later q s found (eq_by_cmp key_cmp q key) refl);
    marked = λ q. at q (eq_by_cmp key_cmp q key) refl;
  }
    where
      later : (q : List ℤ) (s : Standing) → find key_cmp q left ≡ Some s → (b : Bool) → eq_by_cmp key_cmp q key ≡ b → find key_cmp q ((key, standing) ∷ left) ≡ Some s
      later q s found true tied = absurd (cc (ap (λ k. find key_cmp k left) (same_key q key ((Equal-is (key_cmp q key)).0 tied)), none_left))
      later q s found false apart = ap (λ b. cond b (Some standing) (find key_cmp q left)) apart ∙ found

      at : (q : List ℤ) (b : Bool) → eq_by_cmp key_cmp q key ≡ b → get new q ≡ option_map (λ s. (s, settled (find key_cmp q left) s)) (get standings q)
      at q true tied = subst (λ k. get new k ≡ option_map (λ s. (s, settled (find key_cmp k left) s)) (get standings k)) (sym (same_key q key ((Equal-is (key_cmp q key)).0 tied))) here
      at q false apart = elsewhere q apart

-- at the end each is marked that is not done
pub settled_all : (standings : FinMap key_cmp Standing) (marks : Marked Standing) → Settles standings [] marks → AreSettled standings marks
settled_all standings marks all key = all.marked key

-- ---- the marks of those that are done

abbrev pub flag_of : Option (Standing × Bool) → Bool
flag_of None = true
flag_of (Some entry) = entry.1

abbrev standing_of : Option (Standing × Bool) → Standing
standing_of None = stands.Ready
standing_of (Some entry) = entry.0

module _ (standings : FinMap key_cmp Standing) (addresses : Addresses) (marks : Marked Standing) (all : AreSettled standings marks) where
  first_of : (o : Option Standing) (address : Option Addr) → done_in (option_map (λ s. (s, not (is_over s))) o) ≡ first_mark (with_address o address)
  first_of None address = refl
  first_of (Some stands.Ready) address = refl
  first_of (Some stands.Running) address = refl
  first_of (Some stands.Waiting) None = refl
  first_of (Some stands.Waiting) (Some address) = refl
  first_of (Some stands.Done) address = refl

  left_done : (o : Option Standing) (s : Standing) → option_map {U = Standing × Bool} (λ s. (s, not (is_over s))) o ≡ Some (s, false) → s ≡ stands.Done
  left_done None s is = absurd (false≢true (sym (ap flag_of is)))
  left_done (Some stands.Ready) s is = absurd (false≢true (sym (ap flag_of is)))
  left_done (Some stands.Running) s is = absurd (false≢true (sym (ap flag_of is)))
  left_done (Some stands.Waiting) s is = absurd (false≢true (sym (ap flag_of is)))
  left_done (Some stands.Done) s is = ap standing_of (sym is)

  pub are_done : MarksDone (joined standings addresses) marks
  are_done = record {
    each = λ key. ap done_in (all key) ∙ first_of (get standings key) (address_in addresses key) ∙ ap first_mark (state_joined standings addresses key (get standings key) refl);
    left = λ key s is. left_done (get standings key) s (sym (all key) ∙ is);
  }
