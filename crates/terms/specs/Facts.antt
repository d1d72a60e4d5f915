-- The facts that a store may hold, and which of them the events of a run state.
use Rattle.std.specs.Prelude.{◌≡◌, ℕ, ℤ, pos, suc, List, [], ◌∷◌, ◌++◌}
use Rattle.std.specs.List.{flat_map, Contains}
use Rattle.terms.specs.declared.name.Addr.{Addr}
use Rattle.terms.specs.declared.name.Tag.{Tag}
use Rattle.terms.specs.declared.name.Inst.{Inst}
use Rattle.terms.specs.declared.fault.FaultKind.{FaultKind}
use Rattle.terms.specs.declared.producer.Producer.{Producer}
use Rattle.terms.specs.declared.producer.Producer.TheVariants.{Env, By}
use Rattle.terms.specs.declared.put.Put.{Put}
use Rattle.terms.specs.declared.put.Put.TheVariants as put
use Rattle.terms.specs.declared.event.Event.{Event}
use Rattle.terms.specs.declared.event.Event.TheVariants.{EnvItem, EnvTag, Done, Stopped}

-- a tag is there; an item is there, with its value and who put it; an instance is done; an instance is at fault
pub data Fact : Type 0 where
  tag : Tag → Fact
  item : Addr → ℤ → Producer → Fact
  done : Inst → Fact
  bad : Inst → FaultKind → Fact

-- the fact that a put of an instance states; `number` is the put's number in the list
abbrev pub put_fact : Inst → ℕ → Put → Fact
put_fact instance number (put.Item address value) = item address value (By instance number)
put_fact instance number (put.Tag name) = tag name

-- the facts that a list of an instance's puts states; `number` is the number of the first put
abbrev pub put_facts : Inst → ℕ → List Put → List Fact
put_facts instance number [] = []
put_facts instance number (first ∷ puts) = put_fact instance number first ∷ put_facts instance (suc number) puts

-- the facts that an event states: an item or a tag of the environment, a done instance with its puts, or a fault
abbrev pub event_facts : Event → List Fact
event_facts (EnvItem address value) = item address value Env ∷ []
event_facts (EnvTag name) = tag name ∷ []
event_facts (Done instance puts) = done instance ∷ put_facts instance 0 puts
event_facts (Stopped instance kind) = bad instance kind ∷ []

-- the part of these facts that the environment put
abbrev pub environment_facts : Event → List Fact
environment_facts (EnvItem address value) = item address value Env ∷ []
environment_facts (EnvTag name) = tag name ∷ []
environment_facts (Done instance puts) = []
environment_facts (Stopped instance kind) = []

-- the event is the end of an instance that is done
abbrev pub IsDone : Event → Type 0
IsDone (EnvItem address value) = ⊥
IsDone (EnvTag name) = ⊥
IsDone (Done instance puts) = Unit {0}
IsDone (Stopped instance kind) = ⊥

-- the facts that the events of a list state, and the part of them that the environment put
abbrev pub facts : List Event → List Fact
facts events = flat_map event_facts events

abbrev pub environment : List Event → List Fact
environment events = flat_map environment_facts events

-- two lists of events, one after the other, state the facts of the first and then the facts of the second
abbrev pub FactsGoOn : Type 0
FactsGoOn = (first second : List Event) → facts (first ++ second) ≡ facts first ++ facts second

-- the same holds for the facts that the environment put
abbrev pub EnvironmentGoesOn : Type 0
EnvironmentGoesOn = (first second : List Event) → environment (first ++ second) ≡ environment first ++ environment second

-- each fact that the environment put is one that the events state
abbrev pub EnvironmentIsStated : Type 0
EnvironmentIsStated = (events : List Event) (fact : Fact) → Contains (environment events) fact → Contains (facts events) fact

-- an example: the environment puts item a with value 0; instance i is done, and put item b with value 1 and tag t
abbrev pub example : Addr → Addr → Inst → Tag → List Event
example a b i t = EnvItem a (pos 0) ∷ Done i (put.Item b (pos 1) ∷ put.Tag t ∷ []) ∷ []

-- the facts of the example, in order
abbrev pub FactsOfExample : Type 0
FactsOfExample = (a b : Addr) (i : Inst) (t : Tag) → facts (example a b i t) ≡ item a (pos 0) Env ∷ done i ∷ item b (pos 1) (By i 0) ∷ tag t ∷ []

-- of these, the environment put only item a
abbrev pub EnvironmentOfExample : Type 0
EnvironmentOfExample = (a b : Addr) (i : Inst) (t : Tag) → environment (example a b i t) ≡ item a (pos 0) Env ∷ []

-- each put has a number, a tag's too: an item that is put after an item and a tag has number 2
abbrev pub NumbersOfPuts : Type 0
NumbersOfPuts =
    (a b : Addr) (i : Inst) (t : Tag) →
    event_facts (Done i (put.Item a (pos 0) ∷ put.Tag t ∷ put.Item b (pos 1) ∷ [])) ≡
    done i ∷ item a (pos 0) (By i 0) ∷ tag t ∷ item b (pos 1) (By i 2) ∷ []
