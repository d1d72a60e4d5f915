-- What a store holds before the first event.
use Rattle.std.specs.Prelude.{◌≡◌, false, None}
use Rattle.terms.specs.declared.name.Inst.{Inst}
use Rattle.terms.specs.Facts.{Fact}
use Rattle.graph.specs.Graph.{Graph}
use Rattle.instances.specs.Known.{state_at}
use Rattle.machine.specs.declared.memory.Memory.{Memory}
use Rattle.machine.specs.Memory.{IsOf, environment_of, facts_of}

-- it is of this graph, and has no facts and no instances
pub record HoldsNothing (g : Graph) (m : Memory) : Type 0 where
  pub is_of : IsOf g m
  pub facts : (fact : Fact) → facts_of m fact ≡ false
  pub environment : (fact : Fact) → environment_of m fact ≡ false
  pub instances : (instance : Inst) → state_at m.instances instance ≡ None
