-- The laws of what a graph means.
use Rattle.std.specs.Prelude.{◌≡◌, ◌⊎◌, true, false, List, [], ◌∷◌, ◌++◌}
use Rattle.terms.specs.declared.name.Inst.{Inst}
use Rattle.terms.specs.declared.fault.FaultKind.{FaultKind}
use Rattle.terms.specs.declared.event.Event.{Event}
use Rattle.terms.specs.declared.event.Event.TheVariants.{Done, Stopped}
use Rattle.terms.specs.Facts.{Fact, done, bad, facts, event_facts}
use Rattle.terms.specs.Sets.{Facts, among, stated, put_by_environment}
use Rattle.graph.specs.Graph.{Graph, IsGraph}
use Rattle.terms.specs.declared.put.Put.{Put}
use Rattle.graph.specs.Fits.{AllFit, IsPrescribed, HasNoFault, AreNew, Fits, FitsState, HasOneItemEach}
use Rattle.codec.specs.Spelling.{HasFewPuts}
use Rattle.machine.specs.Meaning.{Meaning, IsClean}
use Rattle.machine.specs.Legal.{Conflicts, IsMeant, IsLegal, AreLegal, IsBlocked, IsQuiet}

-- after a legal list from the empty store, the facts are within the meaning
abbrev pub StaysWithin : Type 0
StaysWithin = (g : Graph) (events : List Event) → AreLegal g [] events → (fact : Fact) → stated events fact ≡ true → Meaning g (put_by_environment events) fact

-- if the facts are quiet, they are the meaning, and the meaning is clean
abbrev pub QuietIsMeaning : Type 0
QuietIsMeaning = (g : Graph) (events : List Event) → AreLegal g [] events → IsQuiet g (stated events) → (fact : Fact) → Meaning g (put_by_environment events) fact → stated events fact ≡ true

abbrev pub QuietIsClean : Type 0
QuietIsClean = (g : Graph) (events : List Event) → AreLegal g [] events → IsQuiet g (stated events) → IsClean g (put_by_environment events)

-- if the list ends in a fault, the meaning has that fault
abbrev pub StoppedIsMeant : Type 0
StoppedIsMeant = (g : Graph) (events : List Event) (instance : Inst) (kind : FaultKind) → AreLegal g [] (events ++ Stopped instance kind ∷ []) → Meaning g (put_by_environment events) (bad instance kind)

-- what the environment put by the first list is a fact of the second; this holds if both are on one environment
abbrev pub IsThere : List Event → List Event → Type 0
IsThere one two = (fact : Fact) → put_by_environment one fact ≡ true → stated two fact ≡ true

-- if one legal list ends in a fault, no legal list on its environment is quiet
abbrev pub StoppedOrQuiet : Type 0
StoppedOrQuiet = (g : Graph) (one two : List Event) (instance : Inst) (kind : FaultKind) → AreLegal g [] (one ++ Stopped instance kind ∷ []) → AreLegal g [] two
    → IsThere one two → IsQuiet g (stated two) → ⊥

-- two legal lists on one environment that are quiet have the same facts, whatever their order
abbrev pub OneEnd : Type 0
OneEnd = (g : Graph) (one two : List Event) → AreLegal g [] one → AreLegal g [] two → IsThere one two → IsThere two one → IsQuiet g (stated one) → IsQuiet g (stated two)
    → (fact : Fact) → stated one fact ≡ stated two fact

-- a legal list and then one that is legal after it are a legal list; of a legal list the first part is legal, and the second part after it
abbrev pub ListsGoOn : Type 0
ListsGoOn = (g : Graph) (before : List Fact) (one two : List Event) → AreLegal g before one → AreLegal g (before ++ facts one) two → AreLegal g before (one ++ two)

abbrev pub HasLegalParts : Type 0
HasLegalParts = (g : Graph) (before : List Fact) (one two : List Event) → AreLegal g before (one ++ two) → AreLegal g before one × AreLegal g (before ++ facts one) two

-- only the set of facts before events decides whether they are legal, not the order of the facts or how often they are listed
abbrev pub OneState : Type 0
OneState = (g : Graph) (before other : List Fact) (events : List Event) → ((fact : Fact) → among before fact ≡ among other fact) → AreLegal g before events → AreLegal g other events

-- events fit if they are legal after facts that fit
abbrev pub LegalFits : Type 0
LegalFits = (g : Graph) → IsGraph g → (given before : List Fact) (events : List Event) → FitsState g (among given) (among before) → AreLegal g before events → AllFit g before events

-- the same for one event and for sets: it fits, and has no more puts than an instance may make
abbrev pub LegalFitsState : Type 0
LegalFitsState = (g : Graph) → IsGraph g → (E X : Facts) (event : Event) → FitsState g E X → IsLegal g X event → Fits g X event × HasFewPuts event

-- an event is legal if it fits and the body means it
abbrev pub FitsAndMeant : Type 0
FitsAndMeant = (g : Graph) (X : Facts) (event : Event) → Fits g X event → IsMeant g X event → IsLegal g X event

-- after an event that fits, there are no two items at one address if there were none before
abbrev pub FitKeepsOneItem : Type 0
FitKeepsOneItem = (g : Graph) (before : List Fact) (event : Event) → HasOneItemEach (among before) → Fits g (among before) event → HasOneItemEach (among (before ++ event_facts event))

-- the items of a list of puts are new, or one of them conflicts, and never both
abbrev pub NewOrConflicting : Type 0
NewOrConflicting = (before : List Fact) (puts : List Put) → (AreNew (among before) puts ⊎ Conflicts (among before) puts) × (AreNew (among before) puts → Conflicts (among before) puts → ⊥)

-- after a legal list without a fault, each instance that is prescribed and not done is blocked, or some end of it is legal
abbrev pub CanGoOn : Type 0
CanGoOn = (g : Graph) (events : List Event) (instance : Inst) → AreLegal g [] events → HasNoFault (stated events) → IsPrescribed g (stated events) instance → stated events (done instance) ≡ false
    → IsBlocked g (stated events) instance
    ⊎ ((puts : List Put) × IsLegal g (stated events) (Done instance puts))
    ⊎ ((kind : FaultKind) × IsLegal g (stated events) (Stopped instance kind))
