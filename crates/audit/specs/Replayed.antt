-- What is replayed of a store: it is marked there. The store is what a reader of its files was told; what is marked, legal events lead to.
use Rattle.std.specs.Prelude.{◌≡◌, ◌⊎◌, ℕ, ℤ, true, false, List, [], ◌∷◌, Some, slice_get}
use Rattle.terms.specs.declared.name.Addr.{Addr}
use Rattle.terms.specs.declared.name.Tag.{Tag}
use Rattle.terms.specs.declared.name.Inst.{Inst}
use Rattle.terms.specs.declared.producer.Producer.TheVariants.{Env}
use Rattle.terms.specs.declared.put.Put.{Put}
use Rattle.terms.specs.Facts.{Fact, tag, item, done, put_fact, put_facts}
use Rattle.terms.specs.Sets.{Facts}
use Rattle.graph.specs.Graph.{Graph}
use Rattle.graph.specs.Fits.{IsAbsent, IsPrescribed}
use Rattle.machine.specs.Meaning.{BodyGives}
use Rattle.machine.specs.State.{IsReached}
use Rattle.machine.specs.Machine.{Machine, environment, facts}
use Rattle.machine.specs.Marked.{Marks, MarksMore, marked}
use Rattle.commit.specs.Came.{IsOutcomeIn, IsParkedIn}
use Rattle.commit.specs.declared.bodies.Came.{Came}
use Rattle.commit.specs.declared.bodies.Came.TheVariants.{Ended, Waits}
use Rattle.audit.specs.declared.tried.Tried.{Tried}
use Rattle.audit.specs.declared.tried.Tried.TheVariants.{AsBefore, Replayed, Waits as WaitsFor}

-- legal events lead to what is marked of the store, on its graph and its environment; and the store has all of it
pub record IsReplayed (store : Machine) (m : Marks) : Type 0 where
  pub of_store : m.store ≡ store
  pub reached : IsReached store.graph (environment store) (marked m)
  pub within : (fact : Fact) → marked m fact ≡ true → facts store fact ≡ true

-- before any instance: legal events lead to what is marked, and the environment put all of it
pub record IsBegun (store : Machine) (m : Marks) : Type 0 where
  pub of_store : m.store ≡ store
  pub reached : IsReached store.graph (marked m) (marked m)
  pub given : (fact : Fact) → marked m fact ≡ true → environment store fact ≡ true

-- each item that the environment put is marked, and each tag
abbrev pub AreGivenItemsMarked : Machine → Marks → Type 0
AreGivenItemsMarked store m = (address : Addr) (value : ℤ) → environment store (item address value Env) ≡ true → marked m (item address value Env) ≡ true

abbrev pub AreGivenTagsMarked : Machine → Marks → Type 0
AreGivenTagsMarked store m = (name : Tag) → environment store (tag name) ≡ true → marked m (tag name) ≡ true

-- no legal events lead to the store
abbrev pub IsForged : Machine → Type 0
IsForged store = IsReached store.graph (environment store) (facts store) → ⊥

-- nothing more comes of the instance: if a marked tag prescribes it, and its body gives puts over what is marked, no legal events lead to the store
abbrev pub IsStuck : Machine → Marks → Inst → Type 0
IsStuck store m instance = (puts : List Put) → IsPrescribed store.graph (marked m) instance → BodyGives store.graph (marked m) instance puts → IsForged store

-- nothing is left to replay: each instance that is done in the store and not marked is stuck
abbrev pub AreStuck : Machine → Marks → Type 0
AreStuck store m = (instance : Inst) → facts store (done instance) ≡ true → marked m (done instance) ≡ false → IsStuck store m instance

-- each put of the instance's list states a fact of the set
abbrev pub HasAll : Facts → Inst → List Put → Type 0
HasAll X instance puts = (number : ℕ) (put : Put) → slice_get puts number ≡ Some put → X (put_fact instance number put) ≡ true

-- if the store has what the put states, that is marked now, and nothing else has changed; and the same of a list of puts
abbrev pub MarksPut : Marks → Marks → Put → Type 0
MarksPut old new put = (instance : Inst) (number : ℕ) → facts old.store (put_fact instance number put) ≡ true → MarksMore old new (put_fact instance number put ∷ [])

abbrev pub MarksPuts : Marks → Marks → List Put → Type 0
MarksPuts old new puts = (instance : Inst) → HasAll (facts old.store) instance puts → MarksMore old new (put_facts instance 0 puts)

-- whatever was marked still is
abbrev pub Grows : Marks → Marks → Type 0
Grows old new = (fact : Fact) → marked old fact ≡ true → marked new fact ≡ true

-- an instance was not marked before, and is now
pub record ReplaysAs (old new : Marks) (instance : Inst) : Type 0 where
  pub before : marked old (done instance) ≡ false
  pub after : marked new (done instance) ≡ true
  pub grows : Grows old new

-- one of the instances that are done in the store
pub record ReplaysOne (store : Machine) (old new : Marks) : Type 0 where
  pub instance : Inst
  pub of_store : facts store (done instance) ≡ true
  pub replays : ReplaysAs old new instance

-- nothing has changed, since the instance was marked before, or is stuck
abbrev pub StaysAs : Machine → Marks → Marks → Inst → Type 0
StaysAs store old new instance = (new ≡ old) × ((marked old (done instance) ≡ true) ⊎ IsStuck store old instance)

-- what a try of an instance came to
abbrev pub TriedAs : Machine → Marks → Marks → Inst → Tried → Type 0
TriedAs store old new instance (Replayed puts) = ReplaysAs old new instance
TriedAs store old new instance (WaitsFor address) = StaysAs store old new instance
TriedAs store old new instance AsBefore = StaysAs store old new instance

-- what a body came to over the items that are marked: its end, or an item that is not marked
abbrev pub CameTo : Graph → Marks → Inst → Came → Type 0
CameTo g m instance (Ended outcome) = IsOutcomeIn g (marked m) instance outcome
CameTo g m instance (Waits parked) = IsParkedIn g (marked m) instance parked × IsAbsent (marked m) parked.address
