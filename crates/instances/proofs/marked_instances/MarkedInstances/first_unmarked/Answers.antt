use Rattle.std.proofs.Common.{◌≡◌, Some, false, subst, sym}
use Rattle.maps.specs.Marked.{MarkedPlaces}
use Rattle.terms.specs.declared.name.Inst.{Inst}
use Rattle.instances.specs.declared.standing.Standing.{Standing}
use Rattle.instances.specs.Known.{instance_at}
use Rattle.instances.specs.MarkedDone.{done_mark}
use Rattle.instances.proofs.DoneLeft.{left_is_done}
use Rattle.instances.proofs.marked_instances.MarkedInstances.first_unmarked.Goals as goal

pub returns-in-Some-clause-some : goal.returns-in-Some-clause-some
returns-in-Some-clause-some c =
    let instance : Inst = instance_at c.in-Some.place.0 c.in-Some.place.1 in
    subst (λ (m : MarkedPlaces Standing). done_mark m c.inst_at.result ≡ Some false) c.self.view_is
    (subst (λ (i : Inst). done_mark c.self.inside.marks i ≡ Some false) (sym c.inst_at.ensures) (left_is_done c.self.inside.marks c.self.invariant instance c.in-Some.ensures.some))
