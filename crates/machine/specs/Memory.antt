-- What a store holds in memory, as sets of facts, and what each change does to them.
use Rattle.std.specs.Prelude.{◌≡◌, ◌⊎◌, ℕ, ℤ, ◌<◌, Bool, true, false, length, slice_get, Option, Some, None, IsSome, is_some}
use Rattle.std.specs.Option.{option_map, unwrap_or}
use Rattle.terms.specs.declared.name.Addr.{Addr}
use Rattle.terms.specs.declared.name.Inst.{Inst}
use Rattle.terms.specs.declared.producer.Producer.TheVariants.{Env, By}
use Rattle.terms.specs.declared.put.TheConstants.{MOST_PUTS}
use Rattle.terms.specs.Same.{is_same}
use Rattle.terms.specs.declared.event.Event.{Event}
use Rattle.terms.specs.Facts.{Fact, tag, item, done, bad, event_facts, environment_facts}
use Rattle.terms.specs.Sets.{Facts, with_facts}
use Rattle.graph.specs.Graph.{Graph, Step, IsGraph}
use Rattle.graph.specs.Fits.{FitsState}
use Rattle.items.specs.Held.{item_at, waiters_at, with_waiter}
use Rattle.items.specs.Once.{IsOnceEach, is_one_of}
use Rattle.instances.specs.declared.state.State.{State}
use Rattle.instances.specs.declared.state.State.TheVariants.{Ready, Running, Waiting, Done}
use Rattle.instances.specs.Known.{mark_of, state_at, prescriber_at, MovesOne}
use Rattle.holdings.specs.ImageLaws.{is_fault, is_item}
use Rattle.machine.specs.declared.memory.Memory.{Memory}
use Rattle.machine.specs.Legal.{Needs}

-- ---- the facts

abbrev pub is_done : Option State → Bool
is_done None = false
is_done (Some Ready) = false
is_done (Some Running) = false
is_done (Some (Waiting address)) = false
is_done (Some Done) = true

-- all facts of the store
abbrev pub facts_of : Memory → Facts
facts_of m (tag name) = is_some (mark_of m.instances name)
facts_of m (item address value by) = is_item (item_at m.items address) value by
facts_of m (done instance) = is_done (state_at m.instances instance)
facts_of m (bad instance kind) = is_fault m.fault instance kind

-- those that the environment put: the marked tags, and the items that it produced
abbrev pub environment_of : Memory → Facts
environment_of m (tag name) = unwrap_or (mark_of m.instances name) false
environment_of m (item address value Env) = is_item (item_at m.items address) value Env
environment_of m (item address value (By instance number)) = false
environment_of m (done instance) = false
environment_of m (bad instance kind) = false

-- ---- the invariant

-- whether the instance waits at the address
abbrev pub waits_at : Addr → Option State → Bool
waits_at address None = false
waits_at address (Some Ready) = false
waits_at address (Some Running) = false
waits_at address (Some (Waiting other)) = is_same address other
waits_at address (Some Done) = false

-- the instances that wait at an address are listed there, each once, and no others; and the item is not there
pub record AreListed (m : Memory) : Type 0 where
  pub listed : (instance : Inst) (address : Addr) → is_one_of instance (waiters_at m.items address) ≡ waits_at address (state_at m.instances instance)
  pub once : (address : Addr) → IsOnceEach (waiters_at m.items address)
  pub absent : (instance : Inst) (address : Addr) → state_at m.instances instance ≡ Some (Waiting address) → item_at m.items address ≡ None

-- the number of the tag collection that prescribes a step
abbrev pub prescriber_of : Graph → ℕ → Option ℕ
prescriber_of g number = option_map (λ (step : Step). step.prescriber) (slice_get g.steps number)

-- What a store of this graph holds: its facts fit the graph, with no two items at one address; each collection of the graph is
-- there, and each step with what prescribes it; each instance that waits needs an item that is not there, and is listed.
pub record IsOf (g : Graph) (m : Memory) : Type 0 where
  pub graph : IsGraph g
  pub fits : FitsState g (environment_of m) (facts_of m)
  pub item_collections : length m.items.items.room ≡ length g.items
  pub tag_collections : length m.instances.tags.room ≡ length g.tags
  pub prescribers : (number : ℕ) → prescriber_at m.instances number ≡ prescriber_of g number
  pub needs : (instance : Inst) (address : Addr) → state_at m.instances instance ≡ Some (Waiting address) → Needs g (facts_of m) instance address
  pub listed : AreListed m
  pub numbered : (address : Addr) (value : ℤ) (instance : Inst) (number : ℕ) → facts_of m (item address value (By instance number)) ≡ true → number < MOST_PUTS

-- ---- changes

-- How the state of an instance moves on, given the items after the change: an instance without a state may become ready; one that
-- waits becomes ready exactly if its item is there; the others stay.
abbrev pub MovesOn : Memory → Option State → Option State → Type 0
MovesOn new None to = (to ≡ None) ⊎ (to ≡ Some Ready)
MovesOn new (Some (Waiting address)) to = ((item_at new.items address ≡ None) × (to ≡ Some (Waiting address))) ⊎ (IsSome (item_at new.items address) × (to ≡ Some Ready))
MovesOn new (Some Ready) to = to ≡ Some Ready
MovesOn new (Some Running) to = to ≡ Some Running
MovesOn new (Some Done) to = to ≡ Some Done

-- the event comes: its facts are added, and among them those of the environment; no instance begins to wait because of it
pub record Comes (old new : Memory) (event : Event) : Type 0 where
  pub facts : (fact : Fact) → facts_of new fact ≡ with_facts (facts_of old) (event_facts event) fact
  pub environment : (fact : Fact) → environment_of new fact ≡ with_facts (environment_of old) (environment_facts event) fact
  pub waited : (instance : Inst) (address : Addr) → state_at new.instances instance ≡ Some (Waiting address) → state_at old.instances instance ≡ Some (Waiting address)
  pub item_collections : length new.items.items.room ≡ length old.items.items.room
  pub tag_collections : length new.instances.tags.room ≡ length old.instances.tags.room
  pub prescribers : (number : ℕ) → prescriber_at new.instances number ≡ prescriber_at old.instances number
  pub listed : AreListed new

-- an instance waits at an address, where it is listed
abbrev pub LetsWait : Memory → Memory → Inst → Addr → Type 0
LetsWait old new instance address = MovesOne old.instances new.instances instance (Waiting address) × (new.items ≡ with_waiter old.items address instance)
