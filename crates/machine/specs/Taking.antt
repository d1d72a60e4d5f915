-- After a legal event, a store of the graph holds what such a store may hold.
use Rattle.std.specs.Prelude.{◌≤◌, List, length}
use Rattle.std.specs.List.{AllByRecursion}
use Rattle.terms.specs.declared.event.Event.{Event}
use Rattle.terms.specs.declared.name.Inst.{Inst}
use Rattle.terms.specs.declared.put.Put.{Put}
use Rattle.terms.specs.declared.put.TheConstants.{MOST_PUTS}
use Rattle.graph.specs.Graph.{Graph, IsGraph}
use Rattle.graph.specs.Fits.{PutIsOf}
use Rattle.machine.specs.declared.memory.Memory.{Memory}
use Rattle.machine.specs.Legal.{IsLegal}
use Rattle.machine.specs.Meaning.{BodyGives}
use Rattle.machine.specs.Memory.{facts_of, IsOf, Comes}
use Rattle.terms.specs.Sets.{Facts}

-- if a store holds what it may hold and a legal event comes, it still holds what it may hold
abbrev pub TakingKeeps : Type 0
TakingKeeps = (g : Graph) (old new : Memory) (event : Event) → IsOf g old → IsLegal g (facts_of old) event → Comes old new event → IsOf g new

-- what a body gives belongs to the graph, and is within the limit of puts
abbrev pub GivenAreOfGraph : Type 0
GivenAreOfGraph = (g : Graph) (X : Facts) (instance : Inst) (puts : List Put) → IsGraph g → BodyGives g X instance puts → AllByRecursion (PutIsOf g) puts × (length puts ≤ MOST_PUTS)
