-- The laws of events that are taken one after another.
use Rattle.std.specs.Prelude.{◌≡◌, ◌≤◌, List, ◌∷◌, ◌++◌, Some, length}
use Rattle.std.specs.List.{AllByRecursion}
use Rattle.terms.specs.declared.name.Inst.{Inst}
use Rattle.terms.specs.declared.event.Event.{Event}
use Rattle.terms.specs.Facts.{Fact}
use Rattle.terms.specs.Facts as stated
use Rattle.terms.specs.Sets.{Facts, with_facts}
use Rattle.codec.specs.Spelling.{HasFewPuts}
use Rattle.graph.specs.Graph.{Graph, IsGraph}
use Rattle.graph.specs.Fits.{FitAfter, FitsState, PutIsOf}
use Rattle.instances.specs.declared.state.State.TheVariants.{Running}
use Rattle.machine.specs.declared.group.Ended.{Ended}
use Rattle.machine.specs.Group.{AreEndedBy, AreEndsHere, EndsTogether, TakesInTurn, cut, ended_by, puts_of_all}
use Rattle.machine.specs.Machine.{Machine, Ends, HasRoom, Takes, environment, facts, puts_of, state_of}
use Rattle.machine.specs.State.{AreLegalFrom}

-- where there is room for the puts of all, there is room for those of the first, and after it for those of the others
abbrev pub RoomInTurn : Type 0
RoomInTurn = (old : Machine) (event : Event) (rest : List Event) → HasRoom old (puts_of_all (event ∷ rest))
    → HasRoom old (puts_of event) × ((mid : Machine) → Takes old mid event → HasRoom mid (puts_of_all rest))

-- an instance that runs still runs after an event that does not end it
abbrev pub RunInTurn : Type 0
RunInTurn = (old new : Machine) (event : Event) (instance : Inst) → Takes old new event → (Ends event instance → ⊥) → state_of old instance ≡ Some Running → state_of new instance ≡ Some Running

-- the graph stays, and the facts of all the events are added, and among them those that the environment put
pub record AddsAllFacts (old : Machine) (events : List Event) (new : Machine) : Type 0 where
  pub graph : new.graph ≡ old.graph
  pub all : (fact : Fact) → facts new fact ≡ with_facts (facts old) (stated.facts events) fact
  pub given : (fact : Fact) → environment new fact ≡ with_facts (environment old) (stated.environment events) fact

abbrev pub TakenInTurn : Type 0
TakenInTurn = (old : Machine) (events : List Event) (new : Machine) → TakesInTurn old events new → AddsAllFacts old events new

-- of a legal list the first part is legal, and the second part after it
abbrev pub LegalInTurn : Type 0
LegalInTurn = (g : Graph) (X : Facts) (first second : List Event) → AreLegalFrom g X (first ++ second)
    → AreLegalFrom g X first × AreLegalFrom g (with_facts X (stated.facts first)) second

-- events that are legal one after another fit, each has no more puts than an instance may make, and all their puts belong to the graph
pub record AreFit (g : Graph) (X : Facts) (events : List Event) : Type 0 where
  pub fit : FitAfter g X events
  pub few : AllByRecursion HasFewPuts events
  pub of_graph : AllByRecursion (PutIsOf g) (puts_of_all events)

abbrev pub LegalFitInTurn : Type 0
LegalFitInTurn = (g : Graph) → IsGraph g → (E X : Facts) (events : List Event) → FitsState g E X → AreLegalFrom g X events → AreFit g X events

-- What comes of some ends: no more events than there are ends, at least one if there are any, and each ends the instance at its place.
pub record IsOfEnds (events commit : List Event) : Type 0 where
  pub few : length commit ≤ length events
  pub some : 1 ≤ length events → 1 ≤ length commit
  pub ended : AreEndedBy commit (ended_by events)

abbrev pub CutIsOfEnds : Type 0
CutIsOfEnds = (m : Machine) (events : List Event) (ended : Ended) → AreEndsHere m events → EndsTogether m.graph (facts m) events ended → IsOfEnds events (cut ended events)
