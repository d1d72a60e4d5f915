use Rattle.std.proofs.Common.{subst}
use Rattle.machine.specs.Machine.{Machine}
use Rattle.machine.specs.Status.{TellsFault}
use Rattle.machine.proofs.Told.{tells_fault}
use Rattle.machine.proofs.machine.Machine.fault.Goals as goal

pub returns : goal.returns
returns c = subst (λ (m : Machine). TellsFault m c.self.inside.memory.fault) c.self.view_is (tells_fault c.facts_are_told_apart.ensures.one c.self.inside.memory.fault)
