-- The facts of a list of puts are those of each put with its number.
use Rattle.std.proofs.Common.{◌≡◌, ◌⊎◌, ◌+◌, ℕ, zero, suc, Bool, true, false, ◌||◌, List, [], ◌∷◌, ◌++◌, length, Some, inl, inr, refl, sym, ap, subst, ◌∙◌, arith}
use Rattle.std.specs.List.{slice_get}
use Rattle.std.proofs.lemmas.Bool.{false≢true}
use Rattle.terms.specs.declared.name.Inst.{Inst}
use Rattle.terms.specs.declared.fault.FaultKind.{FaultKind}
use Rattle.terms.specs.declared.producer.Producer.{Producer}
use Rattle.terms.specs.declared.producer.Producer.TheVariants.{By}
use Rattle.terms.specs.declared.put.Put.{Put}
use Rattle.terms.specs.declared.put.Put.TheVariants as put
use Rattle.terms.specs.Facts.{Fact, tag, item, done, bad, put_fact, put_facts}
use Rattle.terms.specs.Sets.{is_fact, among}
use Rattle.terms.specs.PutLists.{PutFactsGoOn, ItemsOfPuts, TagsOfPuts, PutsEndNothing}
use Rattle.terms.proofs.Told.{one_fact}

pub go_on : PutFactsGoOn
go_on instance number [] second = ap (λ (n : ℕ). put_facts instance n second) (omega arith)
go_on instance number (one ∷ first) second =
    let same : suc number + length first ≡ number + length (one ∷ first) = omega arith in
    ap (λ (list : List Fact). put_fact instance number one ∷ list)
    (go_on instance (suc number) first second ∙ ap (λ (n : ℕ). put_facts instance (suc number) first ++ put_facts instance n second) same)

-- some put of the list states the fact; `number` is the number of the first put
abbrev pub IsPutAt : Inst → ℕ → List Put → Fact → Type 0
IsPutAt instance number puts fact = (at : ℕ) × (one : Put) × (slice_get puts at ≡ Some one) × (put_fact instance (number + at) one ≡ fact)

later : (instance : Inst) (number : ℕ) (first : Put) (puts : List Put) (fact : Fact) → IsPutAt instance (suc number) puts fact → IsPutAt instance number (first ∷ puts) fact
later instance number first puts fact it =
    let same : number + suc it.0 ≡ suc number + it.0 = omega arith in
    (suc it.0, it.1, it.2, ap (λ (n : ℕ). put_fact instance n it.1) same ∙ it.3)

either : (a b : Bool) → (a || b) ≡ true → (a ≡ true) ⊎ (b ≡ true)
either true b holds = inl refl
either false b holds = inr holds

put_of : (instance : Inst) (number : ℕ) (puts : List Put) (fact : Fact) → among (put_facts instance number puts) fact ≡ true → IsPutAt instance number puts fact
put_of instance number [] fact there = absurd (false≢true there)
put_of instance number (first ∷ puts) fact there =
    let same : number + 0 ≡ number = omega arith in
    elim (either (is_fact (put_fact instance number first) fact) (among (put_facts instance (suc number) puts) fact) there) [
      | inl here ↦ (0, first, refl, ap (λ (n : ℕ). put_fact instance n first) same ∙ (one_fact (put_fact instance number first) fact).1 here)
      | inr behind ↦ later instance number first puts fact (put_of instance (suc number) puts fact behind)
    ]

or_left : (a b : Bool) → a ≡ true → (a || b) ≡ true
or_left a b holds = cc

or_right : (a b : Bool) → b ≡ true → (a || b) ≡ true
or_right true b holds = refl
or_right false b holds = holds

stated_at : (instance : Inst) (number : ℕ) (puts : List Put) (at : ℕ) (one : Put) → slice_get puts at ≡ Some one → among (put_facts instance number puts) (put_fact instance (number + at) one) ≡ true
stated_at instance number [] at one is = absurd (cc)
stated_at instance number (first ∷ puts) zero one is =
    let same : first ≡ one = cc in
    let count : number ≡ number + 0 = omega arith in
    or_left (is_fact (put_fact instance number first) (put_fact instance (number + 0) one)) (among (put_facts instance (suc number) puts) (put_fact instance (number + 0) one))
    (subst (λ (fact : Fact). is_fact (put_fact instance number first) fact ≡ true) (λ i. put_fact instance (count i) (same i)) (one_fact (put_fact instance number first) (put_fact instance number first)).0)
stated_at instance number (first ∷ puts) (suc at) one is =
    let same : suc number + at ≡ number + suc at = omega arith in
    or_right (is_fact (put_fact instance number first) (put_fact instance (number + suc at) one)) (among (put_facts instance (suc number) puts) (put_fact instance (number + suc at) one))
    (subst (λ (n : ℕ). among (put_facts instance (suc number) puts) (put_fact instance n one) ≡ true) same (stated_at instance (suc number) puts at one is))

not_true : (b : Bool) → (b ≡ true → ⊥) → b ≡ false
not_true true never = absurd (never refl)
not_true false never = refl

pub items_of_puts : ItemsOfPuts
items_of_puts instance number puts address value by = (
  λ there. of_put (put_of instance number puts (item address value by) there),
  λ it.
      subst (λ (by : Producer). among (put_facts instance number puts) (item address value by) ≡ true) (sym it.2) (stated_at instance number puts it.0 (put.Item address value) it.1),
)
  where
    of_put : IsPutAt instance number puts (item address value by) → (at : ℕ) × (slice_get puts at ≡ Some (put.Item address value)) × (by ≡ By instance (number + at))
    of_put (at, put.Item a v, is, same) = (at, is ∙ cc, cc)
    of_put (at, put.Tag name, is, same) = absurd (cc)

pub tags_of_puts : TagsOfPuts
tags_of_puts instance number puts name = (λ there. of_put (put_of instance number puts (tag name) there), λ it. stated_at instance number puts it.0 (put.Tag name) it.1)
  where
    of_put : IsPutAt instance number puts (tag name) → (at : ℕ) × (slice_get puts at ≡ Some (put.Tag name))
    of_put (at, put.Item a v, is, same) = absurd (cc)
    of_put (at, put.Tag other, is, same) = (at, is ∙ cc)

pub puts_end_nothing : PutsEndNothing
puts_end_nothing instance number puts = (
  λ other. not_true (among (put_facts instance number puts) (done other)) (λ there. no_done other (put_of instance number puts (done other) there)),
  λ other kind. not_true (among (put_facts instance number puts) (bad other kind)) (λ there. no_fault other kind (put_of instance number puts (bad other kind) there)),
)
  where
    no_done : (other : Inst) → IsPutAt instance number puts (done other) → ⊥
    no_done other (at, put.Item a v, is, same) = cc
    no_done other (at, put.Tag name, is, same) = cc

    no_fault : (other : Inst) (kind : FaultKind) → IsPutAt instance number puts (bad other kind) → ⊥
    no_fault other kind (at, put.Item a v, is, same) = cc
    no_fault other kind (at, put.Tag name, is, same) = cc
