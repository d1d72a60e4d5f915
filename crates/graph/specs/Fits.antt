-- Which events fit a graph and facts, and which facts fit a graph. The bodies of steps do not matter here, nor does what a step
-- may put. The 64-bit range of numbers is stated elsewhere.
use Rattle.std.specs.Prelude.{◌≡◌, ⊤, ℕ, ℤ, true, false, List, [], ◌∷◌, ◌++◌, length}
use Rattle.std.specs.List.{AllByRecursion}
use Rattle.terms.specs.declared.name.Addr.{Addr}
use Rattle.terms.specs.declared.name.Tag.{Tag}
use Rattle.terms.specs.declared.name.Inst.{Inst}
use Rattle.terms.specs.declared.fault.FaultKind.{FaultKind}
use Rattle.terms.specs.declared.producer.Producer.{Producer}
use Rattle.terms.specs.declared.producer.Producer.TheVariants.{Env, By}
use Rattle.terms.specs.declared.put.Put.{Put}
use Rattle.terms.specs.declared.put.Put.TheVariants as put
use Rattle.terms.specs.declared.event.Event.{Event}
use Rattle.terms.specs.declared.event.Event.TheVariants.{EnvItem, EnvTag, Done, Stopped}
use Rattle.terms.specs.Facts.{Fact, tag, item, done, bad, event_facts}
use Rattle.terms.specs.Commits.{Commit}
use Rattle.terms.specs.Sets.{Facts, among, with_facts}
use Rattle.graph.specs.Graph.{Graph, Step, IsStep, IsOf, Prescribes, EnvironmentMayPutItem, EnvironmentMayPutTag}

-- ---- sets of facts

-- no item is at this address
abbrev pub IsAbsent : Facts → Addr → Type 0
IsAbsent X address = (value : ℤ) (by : Producer) → X (item address value by) ≡ false

-- some tag of the set prescribes the instance
abbrev pub IsPrescribed : Graph → Facts → Inst → Type 0
IsPrescribed g X instance = (name : Tag) × (X (tag name) ≡ true) × Prescribes g name instance

-- no instance is at fault
abbrev pub HasNoFault : Facts → Type 0
HasNoFault X = (instance : Inst) (kind : FaultKind) → X (bad instance kind) ≡ false

-- ---- lists of puts

-- the addresses of the items of a list of puts
abbrev pub addresses : List Put → List Addr
addresses [] = []
addresses (put.Item address value ∷ puts) = address ∷ addresses puts
addresses (put.Tag name ∷ puts) = addresses puts

-- the address is one of these
abbrev pub IsIn : Addr → List Addr → Type 0
IsIn address list = (before behind : List Addr) × (list ≡ before ++ address ∷ behind)

-- the address appears at least twice among these
abbrev pub IsTwiceIn : Addr → List Addr → Type 0
IsTwiceIn address list = (before between behind : List Addr) × (list ≡ before ++ address ∷ between ++ address ∷ behind)

-- no item of these puts is present yet, and no two of them are at one address
pub record AreNew (X : Facts) (puts : List Put) : Type 0 where
  pub absent : (address : Addr) → IsIn address (addresses puts) → IsAbsent X address
  pub distinct : (address : Addr) → IsTwiceIn address (addresses puts) → ⊥

-- ---- collections and their arities

abbrev pub AddressIsOf : Graph → Addr → Type 0
AddressIsOf g address = IsOf g.items address.collection.0 (length address.key)

abbrev pub TagIsOf : Graph → Tag → Type 0
TagIsOf g name = IsOf g.tags name.collection.0 (length name.key)

abbrev pub InstanceIsOf : Graph → Inst → Type 0
InstanceIsOf g instance = (step : Step) × IsStep g instance.collection.0 step × (step.parameters ≡ length instance.key)

abbrev pub PutIsOf : Graph → Put → Type 0
PutIsOf g (put.Item address value) = AddressIsOf g address
PutIsOf g (put.Tag name) = TagIsOf g name

-- ---- events

-- the environment may put the item, or the tag, and it is not present yet
abbrev pub ItemMayCome : Graph → Facts → Addr → Type 0
ItemMayCome g X address = EnvironmentMayPutItem g address × IsAbsent X address

abbrev pub TagMayCome : Graph → Facts → Tag → Type 0
TagMayCome g X name = EnvironmentMayPutTag g name × (X (tag name) ≡ false)

-- the instance can end now: it belongs to the graph, is prescribed, and is not done
pub record MayEnd (g : Graph) (X : Facts) (instance : Inst) : Type 0 where
  pub of_graph : InstanceIsOf g instance
  pub prescribed : IsPrescribed g X instance
  pub not_done : X (done instance) ≡ false

abbrev pub FitsAs : Graph → Facts → Event → Type 0
FitsAs g X (EnvItem address value) = ItemMayCome g X address
FitsAs g X (EnvTag name) = TagMayCome g X name
FitsAs g X (Done instance puts) = MayEnd g X instance × AllByRecursion (PutIsOf g) puts × AreNew X puts
FitsAs g X (Stopped instance kind) = MayEnd g X instance

-- the event fits the graph and the facts before it; after a fault no event fits
pub record Fits (g : Graph) (X : Facts) (event : Event) : Type 0 where
  pub working : HasNoFault X
  pub event_fits : FitsAs g X event

-- each event of the list fits the given facts together with those of the events before it
abbrev pub AllFit : Graph → List Fact → List Event → Type 0
AllFit g before [] = ⊤
AllFit g before (event ∷ events) = Fits g (among before) event × AllFit g (before ++ event_facts event) events

-- each event of a commit fits the facts X together with those of the events before it
abbrev pub FitAfter : Graph → Facts → Commit → Type 0
FitAfter g X [] = ⊤
FitAfter g X (event ∷ events) = Fits g X event × FitAfter g (with_facts X (event_facts event)) events

-- ---- states

-- a fact names collections of the graph, with keys of their arities
abbrev pub FactIsOf : Graph → Fact → Type 0
FactIsOf g (tag name) = TagIsOf g name
FactIsOf g (item address value by) = AddressIsOf g address
FactIsOf g (done instance) = InstanceIsOf g instance
FactIsOf g (bad instance kind) = InstanceIsOf g instance

-- what the environment can put: tags, and items that it produced itself
abbrev pub IsOfEnvironment : Fact → Type 0
IsOfEnvironment (tag name) = ⊤
IsOfEnvironment (item address value Env) = ⊤
IsOfEnvironment fact = ⊥

-- The facts X, of which the environment put E, fit the graph. An item says who put it; a tag does not, so only E says which tags
-- the environment put. No two items at one address: this is not part of it, but of `HasOneItemEach`.
pub record FitsState (g : Graph) (E X : Facts) : Type 0 where
  pub part : (fact : Fact) → E fact ≡ true → X fact ≡ true
  pub of_environment : (fact : Fact) → E fact ≡ true → IsOfEnvironment fact
  pub items : (address : Addr) (value : ℤ) → X (item address value Env) ≡ true → E (item address value Env) ≡ true
  pub of_graph : (fact : Fact) → X fact ≡ true → FactIsOf g fact
  pub environment_items : (address : Addr) (value : ℤ) → X (item address value Env) ≡ true → EnvironmentMayPutItem g address
  pub environment_tags : (name : Tag) → E (tag name) ≡ true → EnvironmentMayPutTag g name
  pub done_are_prescribed : (instance : Inst) → X (done instance) ≡ true → IsPrescribed g X instance
  pub producers_are_done : (address : Addr) (value : ℤ) (instance : Inst) (number : ℕ) → X (item address value (By instance number)) ≡ true → X (done instance) ≡ true
  pub fault : (instance : Inst) (kind : FaultKind) → X (bad instance kind) ≡ true → IsPrescribed g X instance × (X (done instance) ≡ false)
  pub one_fault : (i j : Inst) (k l : FaultKind) → X (bad i k) ≡ true → X (bad j l) ≡ true → (i ≡ j) × (k ≡ l)

-- no two items are at one address
abbrev pub HasOneItemEach : Facts → Type 0
HasOneItemEach X = (address : Addr) (v w : ℤ) (p q : Producer) → X (item address v p) ≡ true → X (item address w q) ≡ true → (v ≡ w) × (p ≡ q)
