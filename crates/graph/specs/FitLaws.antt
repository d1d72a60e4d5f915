-- The laws of fitting: what an event keeps, and what does not matter to it.
use Rattle.std.specs.Prelude.{◌≡◌, ◌↔◌, List, ◌++◌}
use Rattle.terms.specs.declared.event.Event.{Event}
use Rattle.terms.specs.Facts.{Fact, facts, environment, event_facts, environment_facts}
use Rattle.terms.specs.Sets.{Facts, among, with_facts}
use Rattle.graph.specs.Graph.{Graph}
use Rattle.graph.specs.Fits.{Fits, AllFit, FitAfter, FitsState}

-- two sets with the same facts
abbrev pub SameSet : Facts → Facts → Type 0
SameSet X Y = (fact : Fact) → X fact ≡ Y fact

-- after an event that fits, the state still fits
abbrev pub StateKeeps : Type 0
StateKeeps = (g : Graph) (E X : Facts) (event : Event) → FitsState g E X → Fits g X event → FitsState g (with_facts E (environment_facts event)) (with_facts X (event_facts event))

-- the same for lists of facts
abbrev pub FitKeeps : Type 0
FitKeeps = (g : Graph) (given before : List Fact) (event : Event) → FitsState g (among given) (among before) → Fits g (among before) event
    → FitsState g (among (given ++ environment_facts event)) (among (before ++ event_facts event))

-- the same for events that fit one after another
abbrev pub AllFitKeep : Type 0
AllFitKeep = (g : Graph) (given before : List Fact) (events : List Event) → FitsState g (among given) (among before) → AllFit g before events
    → FitsState g (among (given ++ environment events)) (among (before ++ facts events))

-- a list of events fits exactly if its first part fits, and after it the second part
abbrev pub AllFitInParts : Type 0
AllFitInParts = (g : Graph) (before : List Fact) (one two : List Event) → AllFit g before (one ++ two) ↔ (AllFit g before one × AllFit g (before ++ facts one) two)

-- how the facts are listed does not matter
abbrev pub StateAsSet : Type 0
StateAsSet = (g : Graph) (E F X Y : Facts) → SameSet E F → SameSet X Y → FitsState g E X → FitsState g F Y

abbrev pub EventAsSet : Type 0
EventAsSet = (g : Graph) (X Y : Facts) (event : Event) → SameSet X Y → Fits g X event → Fits g Y event

abbrev pub EventsAsSet : Type 0
EventsAsSet = (g : Graph) (before other : List Fact) (events : List Event) → SameSet (among before) (among other) → AllFit g before events → AllFit g other events

-- events that fit after a set of facts fit after these facts as they are listed
abbrev pub FitAsListed : Type 0
FitAsListed = (g : Graph) (X : Facts) (before : List Fact) (events : List Event) → SameSet X (among before) → FitAfter g X events → AllFit g before events
