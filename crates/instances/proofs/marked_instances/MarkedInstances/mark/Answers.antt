use Rattle.std.proofs.Common.{subst, sym}
use Rattle.maps.specs.Marked.{MarkedPlaces}
use Rattle.instances.specs.declared.standing.Standing.{Standing}
use Rattle.instances.specs.Known.{inst_place}
use Rattle.instances.specs.MarkedDone.{LeftAreDone}
use Rattle.instances.proofs.DoneLeft.{still_done}
use Rattle.instances.proofs.marked_instances.MarkedInstances.mark.Goals as goal

pub invariant_of-self : goal.invariant_of-self
invariant_of-self c = subst (λ (m : MarkedPlaces Standing). LeftAreDone m) (sym c.mark.ensures.after) (still_done c.self.inside.marks (inst_place c.args.inst) c.self.invariant)
