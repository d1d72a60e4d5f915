use Rattle.std.proofs.Common.{subst}
use Rattle.maps.specs.Keyed.{Keyed}
use Rattle.instances.specs.declared.state.State.{State}
use Rattle.instances.specs.MarkedDone.{MarksDone}
use Rattle.instances.proofs.Settling.{are_done}
use Rattle.instances.proofs.states.States.done_marks.Goals as goal

pub returns-in-Ok : goal.returns-in-Ok
returns-in-Ok c =
    subst (λ (s : Keyed State). MarksDone s.items c.mark_others.new.marks) c.self.view_is
    (are_done c.self.inside.standings.items c.self.inside.addresses.entries c.mark_others.new.marks (c.mark_others.ensures c.self.inside.standings.items c.walk.ensures c.in-Ok.ensures))
