-- What a graph means on an environment: the facts that are in every closed set. A set says of each fact whether it contains it.
-- If bodies put two values at one address, the meaning has both, and the fault as well: more than any store holds.
use Rattle.std.specs.Prelude.{◌≡◌, ◌≢◌, ◌⊎◌, ⊤, ℤ, true, List}
use Rattle.terms.specs.declared.name.Addr.{Addr}
use Rattle.terms.specs.declared.name.Inst.{Inst}
use Rattle.terms.specs.declared.fault.FaultKind.{FaultKind}
use Rattle.terms.specs.declared.fault.FaultKind.TheVariants.{DoublePut}
use Rattle.terms.specs.declared.producer.Producer.{Producer}
use Rattle.terms.specs.declared.producer.Producer.TheVariants.{Env, By}
use Rattle.terms.specs.declared.put.Put.{Put}
use Rattle.terms.specs.Facts.{Fact, item, done, bad, put_facts}
use Rattle.terms.specs.Sets.{Facts, among}
use Rattle.steptree.specs.Bodies.{Gives, Faults}
use Rattle.graph.specs.Graph.{Graph, BodyMeans}
use Rattle.graph.specs.Fits.{IsPrescribed, addresses, IsIn, IsTwiceIn}

-- the items of a set, as pairs of an address and a value; an address may have several there
abbrev pub items : Facts → Addr → ℤ → Type 0
items X address value = (by : Producer) × (X (item address value by) ≡ true)

-- over the items of the set, the body of the instance gives these puts; or it has this fault
abbrev pub BodyGives : Graph → Facts → Inst → List Put → Type 0
BodyGives g X instance puts = BodyMeans g instance (items X) (Gives puts)

abbrev pub BodyFaults : Graph → Facts → Inst → FaultKind → Type 0
BodyFaults g X instance kind = BodyMeans g instance (items X) (Faults kind)

-- the producer is another than the instance
abbrev pub IsAnother : Inst → Producer → Type 0
IsAnother instance Env = ⊤
IsAnother instance (By other number) = other ≢ instance

-- an item of these puts is there by another producer (a done instance's own items are there), or appears twice among them
abbrev pub IsDoubled : Facts → Inst → List Put → Type 0
IsDoubled X instance puts = (address : Addr) × (IsTwiceIn address (addresses puts)
    ⊎ (IsIn address (addresses puts) × ((value : ℤ) × (by : Producer) × (X (item address value by) ≡ true) × IsAnother instance by)))

-- the set contains the environment, and what each prescribed instance can do over the items of the set
pub record IsClosed (g : Graph) (E X : Facts) : Type 0 where
  pub environment : (fact : Fact) → E fact ≡ true → X fact ≡ true
  pub done : (instance : Inst) (puts : List Put) → IsPrescribed g X instance → BodyGives g X instance puts → X (done instance) ≡ true
  pub puts : (instance : Inst) (puts : List Put) → IsPrescribed g X instance → BodyGives g X instance puts
      → (fact : Fact) → among (put_facts instance 0 puts) fact ≡ true → X fact ≡ true
  pub doubled : (instance : Inst) (puts : List Put) → IsPrescribed g X instance → BodyGives g X instance puts → IsDoubled X instance puts → X (bad instance DoublePut) ≡ true
  pub faults : (instance : Inst) (kind : FaultKind) → IsPrescribed g X instance → BodyFaults g X instance kind → X (bad instance kind) ≡ true

-- the fact is in every closed set
abbrev pub Meaning : Graph → Facts → Fact → Type 0
Meaning g E fact = (X : Facts) → IsClosed g E X → X fact ≡ true

-- no instance is at fault in the meaning, and no address has two items
pub record IsClean (g : Graph) (E : Facts) : Type 0 where
  pub no_fault : (instance : Inst) (kind : FaultKind) → Meaning g E (bad instance kind) → ⊥
  pub one_item : (address : Addr) (v w : ℤ) (p q : Producer) → Meaning g E (item address v p) → Meaning g E (item address w q) → (v ≡ w) × (p ≡ q)
