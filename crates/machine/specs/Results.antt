-- What the result of a body means over the items of a store: if all that it read is there, the result is what the body means there.
use Rattle.std.specs.Prelude.{◌≡◌, true, List}
use Rattle.std.specs.List.{AllByRecursion}
use Rattle.terms.specs.declared.name.Addr.{Addr}
use Rattle.terms.specs.declared.name.Inst.{Inst}
use Rattle.terms.specs.declared.fault.FaultKind.{FaultKind}
use Rattle.terms.specs.declared.put.Put.{Put}
use Rattle.terms.specs.Facts.{Fact}
use Rattle.terms.specs.Sets.{Facts}
use Rattle.steptree.specs.declared.body.Body.{Body}
use Rattle.steptree.specs.Run.{Read}
use Rattle.steptree.specs.Bodies.{Along, Gives, Faults, Asks}
use Rattle.graph.specs.Graph.{Graph, Step, IsStep}
use Rattle.graph.specs.Fits.{IsAbsent}
use Rattle.machine.specs.Meaning.{items, BodyGives, BodyFaults}
use Rattle.machine.specs.Legal.{Needs}

-- each read is of an item of the set
abbrev pub AreItems : Facts → List Read → Type 0
AreItems X reads = AllByRecursion (λ read. items X read.0 read.1) reads

-- it is the body of the instance's step
abbrev pub IsBodyOf : Graph → Inst → Body → Type 0
IsBodyOf g instance body = (step : Step) × IsStep g instance.collection.0 step × (step.body ≡ body)

-- if a body came to a result along reads of these items, it means that result over them
abbrev pub GivesAlong : Type 0
GivesAlong = (g : Graph) (X : Facts) (instance : Inst) (body : Body) (reads : List Read) (puts : List Put) → IsBodyOf g instance body → AreItems X reads
    → Along body instance.key reads (Gives puts) → BodyGives g X instance puts

abbrev pub FaultsAlong : Type 0
FaultsAlong = (g : Graph) (X : Facts) (instance : Inst) (body : Body) (reads : List Read) (kind : FaultKind) → IsBodyOf g instance body → AreItems X reads
    → Along body instance.key reads (Faults kind) → BodyFaults g X instance kind

-- if it asks for an item that is not there, it needs that item
abbrev pub NeedsAlong : Type 0
NeedsAlong = (g : Graph) (X : Facts) (instance : Inst) (body : Body) (reads : List Read) (address : Addr) → IsBodyOf g instance body → AreItems X reads
    → Along body instance.key reads (Asks address) → IsAbsent X address → Needs g X instance address

-- what was read is still there after more facts
abbrev pub ReadsStay : Type 0
ReadsStay = (X Y : Facts) (reads : List Read) → ((fact : Fact) → X fact ≡ true → Y fact ≡ true) → AreItems X reads → AreItems Y reads
