-- The facts that a list of an instance's puts states; each put has its number in the list.
use Rattle.std.specs.Prelude.{◌≡◌, ◌↔◌, ◌+◌, ℕ, ℤ, true, false, List, ◌++◌, length, Some, slice_get}
use Rattle.terms.specs.declared.name.Addr.{Addr}
use Rattle.terms.specs.declared.name.Tag.{Tag}
use Rattle.terms.specs.declared.name.Inst.{Inst}
use Rattle.terms.specs.declared.fault.FaultKind.{FaultKind}
use Rattle.terms.specs.declared.producer.Producer.{Producer}
use Rattle.terms.specs.declared.producer.Producer.TheVariants.{By}
use Rattle.terms.specs.declared.put.Put.{Put}
use Rattle.terms.specs.declared.put.Put.TheVariants as put
use Rattle.terms.specs.Facts.{tag, item, done, bad, put_facts}
use Rattle.terms.specs.Sets.{among}

-- two lists of puts, one after the other, state the facts of the first and then those of the second, numbered on from the first
abbrev pub PutFactsGoOn : Type 0
PutFactsGoOn = (instance : Inst) (number : ℕ) (first second : List Put) → put_facts instance number (first ++ second) ≡ put_facts instance number first ++ put_facts instance (number + length first) second

-- an item is stated exactly when one of the puts is that item, and its producer is the instance with that put's number
abbrev pub ItemsOfPuts : Type 0
ItemsOfPuts = (instance : Inst) (number : ℕ) (puts : List Put) (address : Addr) (value : ℤ) (by : Producer) → (among (put_facts instance number puts) (item address value by) ≡ true)
    ↔ ((at : ℕ) × (slice_get puts at ≡ Some (put.Item address value)) × (by ≡ By instance (number + at)))

-- a tag is stated exactly when one of the puts is that tag
abbrev pub TagsOfPuts : Type 0
TagsOfPuts = (instance : Inst) (number : ℕ) (puts : List Put) (name : Tag) → (among (put_facts instance number puts) (tag name) ≡ true) ↔ ((at : ℕ) × (slice_get puts at ≡ Some (put.Tag name)))

-- puts state no instance as done, and no fault
abbrev pub PutsEndNothing : Type 0
PutsEndNothing = (instance : Inst) (number : ℕ) (puts : List Put) →
    ((other : Inst) → among (put_facts instance number puts) (done other) ≡ false) × ((other : Inst) (kind : FaultKind) → among (put_facts instance number puts) (bad other kind) ≡ false)
