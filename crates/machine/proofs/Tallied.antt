-- The puts of a list are counted one after the other, and then each collection gets room for its own.
use Rattle.std.proofs.Common.{◌≡◌, ◌∙◌, ap, sym, refl, subst, ℕ, zero, suc, ◌+◌, ◌-◌, ◌<◌, ◌≤◌, ◌^◌, ◌==◌, Bool, true, false, if◌then◌else◌, nat_eq, List, [], ◌∷◌, ◌++◌, length, replicate, get_or, Result, Ok, Err, OnErr, arith}
use native.Mathlib.Decide.{dec_lt}
use Rattle.std.proofs.lemmas.Bool.{false≢true}
use Rattle.std.proofs.lemmas.List.{get_or_past}
use Rattle.std.specs.Cmp.{unsigned_Decides}
use Rattle.std.specs.List.{AllByRecursion}
use Rattle.terms.specs.declared.name.ItemCollection.{ItemCollection}
use Rattle.terms.specs.declared.name.TagCollection.{TagCollection}
use Rattle.terms.specs.declared.put.Put.{Put}
use Rattle.terms.specs.declared.put.Put.TheVariants as put
use Rattle.machine.specs.declared.tally.Tally.{Tally}
use Rattle.machine.specs.Tally.{Adds, AreAsMany, Counts, HasPlace, IsBelowMost, IsUpTo, items_counted, tags_counted}
use Rattle.machine.proofs.Growing.{items_with, one_to_itself, tags_with}
use Rattle.machine.proofs.Joined.{items_both, tags_both}
use Rattle.machine.specs.Putting.{items_to, tags_to}

abbrev pub zeros : ℕ → List ℕ
zeros n = replicate n 0

pub many_zeros : (n : ℕ) → length (zeros n) ≡ n
many_zeros zero = refl
many_zeros (suc n) = ap suc (many_zeros n)

pub none_counted : (n k : ℕ) → get_or (zeros n) k 0 ≡ zero
none_counted zero k = refl
none_counted (suc n) zero = refl
none_counted (suc n) (suc k) = none_counted n k

one_more_at_most : {m n : ℕ} (b : Bool) → m ≤ n → (if b then 1 else 0) + m ≤ suc n
one_more_at_most true few = omega (arith, few)
one_more_at_most false few = omega (arith, few)

-- no more puts go to a collection than there are
items_few : (c : ItemCollection) (puts : List Put) → items_to c puts ≤ length puts
items_few c [] = omega arith
items_few c (put.Item address value ∷ puts) = one_more_at_most (nat_eq address.collection.0 c.0) (items_few c puts)
items_few c (put.Tag name ∷ puts) = omega (arith, items_few c puts)

tags_few : (c : TagCollection) (puts : List Put) → tags_to c puts ≤ length puts
tags_few c [] = omega arith
tags_few c (put.Tag name ∷ puts) = one_more_at_most (nat_eq name.collection.0 c.0) (tags_few c puts)
tags_few c (put.Item address value ∷ puts) = omega (arith, tags_few c puts)

-- nothing is counted
pub nothing_counted : (t : Tally) (items tags : ℕ) → t.items.items ≡ replicate items 0 → t.tags.items ≡ replicate tags 0 → Counts t []
nothing_counted t items tags no_items no_tags = record {
  items = λ c. ap (λ (l : List ℕ). get_or l c.0 0) no_items ∙ none_counted items c.0;
  tags = λ c. ap (λ (l : List ℕ). get_or l c.0 0) no_tags ∙ none_counted tags c.0;
}

-- what was counted since the start, and what is left of the list, are all puts of the list
pub record IsOnTheWay (start t : Tally) (left puts : List Put) : Type 0 where
  pub items : (c : ItemCollection) → items_counted t c + items_to c left ≡ items_counted start c + items_to c puts
  pub tags : (c : TagCollection) → tags_counted t c + tags_to c left ≡ tags_counted start c + tags_to c puts

pub begins : (t : Tally) (puts : List Put) → IsOnTheWay t t puts puts
begins t puts = record { items = λ c. refl; tags = λ c. refl }

pub goes_on : (start old new : Tally) (some left puts : List Put) → Adds old new some → IsOnTheWay start old (some ++ left) puts → IsOnTheWay start new left puts
goes_on start old new some left puts adds way = record {
  items = λ c. omega (arith, adds.items c, way.items c, items_both c some left);
  tags = λ c. omega (arith, adds.tags c, way.tags c, tags_both c some left);
}

-- at the end all are counted
pub all_added : (start t : Tally) (puts : List Put) → AreAsMany start t → IsOnTheWay start t [] puts → Adds start t puts
all_added start t puts many way = record {
  items = λ c. omega (arith, way.items c);
  tags = λ c. omega (arith, way.tags c);
  collections = many;
}

pub all_counted : (start t : Tally) (puts : List Put) → Counts start [] → Adds start t puts → Counts t puts
all_counted start t puts none adds = record {
  items = λ c. omega (arith, adds.items c, none.items c);
  tags = λ c. omega (arith, adds.tags c, none.tags c);
}

-- the next put can be counted
pub is_below : (start t : Tally) (one : Put) (left puts : List Put) → IsUpTo (2 ^ 128 - 2 ^ 64) start → length puts < 2 ^ 64 → IsOnTheWay start t (one ∷ left) puts → IsBelowMost t one
is_below start t (put.Item address value) left puts few fits way =
    let c = address.collection in omega (arith, fits, few.items c, way.items c, items_few c puts, items_with c (put.Item address value) left, one_to_itself c.0)
is_below start t (put.Tag name) left puts few fits way =
    let c = name.collection in omega (arith, fits, few.tags c, way.tags c, tags_few c puts, tags_with c (put.Tag name) left, one_to_itself c.0)

-- nothing that was counted is above any number, and fewer than `2 ^ 64` more are above it by as much at most
pub none_above : (t : Tally) → Counts t [] → IsUpTo 0 t
none_above t none = record { items = λ c. omega (arith, none.items c); tags = λ c. omega (arith, none.tags c) }

pub more_above : (most : ℕ) (old new : Tally) (puts : List Put) → length puts < 2 ^ 64 → IsUpTo most old → Adds old new puts → IsUpTo (most + 2 ^ 64) new
more_above most old new puts fits few adds = record {
  items = λ c. omega (arith, adds.items c, few.items c, items_few c puts, fits);
  tags = λ c. omega (arith, adds.tags c, few.tags c, tags_few c puts, fits);
}

pub still_up_to : (some most : ℕ) (t : Tally) → some ≤ most → IsUpTo some t → IsUpTo most t
still_up_to some most t less few = record { items = λ c. omega (arith, less, few.items c); tags = λ c. omega (arith, less, few.tags c) }

pub as_many : (old mid new : Tally) → AreAsMany old mid → AreAsMany mid new → AreAsMany old new
as_many old mid new first then_more = record { items = then_more.items ∙ first.items; tags = then_more.tags ∙ first.tags }

-- a place stays
pub place_stays : (old new : Tally) (one : Put) → AreAsMany old new → HasPlace old one → HasPlace new one
place_stays old new (put.Item address value) many has = subst (λ (n : ℕ). address.collection.0 < n) (sym many.items) has
place_stays old new (put.Tag name) many has = subst (λ (n : ℕ). name.collection.0 < n) (sym many.tags) has

pub places_stay : (old new : Tally) (puts : List Put) → AreAsMany old new → AllByRecursion (HasPlace old) puts → AllByRecursion (HasPlace new) puts
places_stay old new [] many has = tt
places_stay old new (one ∷ puts) many has = (place_stays old new one many has.0, places_stay old new puts many has.1)

-- ---- room for what was counted

below : (k n : ℕ) → k < n + 1 → (k ≡ n → ⊥) → k < n
below k n within other = elim (dec_lt k n) [ yes is ↦ is | no not ↦ absurd (other (omega (arith, within, not))) ]

-- each of the first collections has room for what was counted for it; then so has the next one
pub filled : (counts : List ℕ) (n : ℕ) (old new : ℕ → ℕ) → ((k : ℕ) → old k ≤ new k) → ((k : ℕ) → k < n → get_or counts k 0 ≤ old k) → get_or counts n 0 ≤ new n
    → (k : ℕ) → k < n + 1 → get_or counts k 0 ≤ new k
filled counts n old new more first next k within = at (k == n) refl
  where
    at : (b : Bool) → (k == n) ≡ b → get_or counts k 0 ≤ new k
    at true is = subst (λ (j : ℕ). get_or counts j 0 ≤ new j) (sym ((unsigned_Decides k n).0 is)) next
    at false is = (let less = below k n within (λ one. false≢true (sym is ∙ (unsigned_Decides k n).1 one)) in omega (arith, first k less, more k))

-- after the last one, nothing was counted for any other
pub all_filled : (counts : List ℕ) (n : ℕ) (room : ℕ → ℕ) → length counts ≤ n → ((k : ℕ) → k < n → get_or counts k 0 ≤ room k) → (k : ℕ) → get_or counts k 0 ≤ room k
all_filled counts n room past first k = elim (dec_lt k n) [
  | yes is ↦ first k is
  | no not ↦ (let none = get_or_past counts k 0 (omega (arith, past, not)) in omega (arith, none))
]

pub on_err : {X E A : Type 0} (result : Result X E) → A → OnErr result A
on_err (Ok done) it = tt
on_err (Err error) it = it
