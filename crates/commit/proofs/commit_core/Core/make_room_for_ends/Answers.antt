use Rattle.std.proofs.Common.{sym, subst}
use Rattle.machine.specs.State.{AreLegalFrom}
use Rattle.commit.specs.Core.{Core, facts, graph}
use Rattle.commit.specs.Doubt.{events_in}
use Rattle.commit.proofs.Allowed.{behind_room}
use Rattle.commit.proofs.Taken.{all_fit, kept_alike}
use Rattle.commit.proofs.commit_core.Core.make_room_for_ends.Goals as goal

pub make_room_for_ends-requires : goal.make_room_for_ends-requires
make_room_for_ends-requires g c =
    let legal = subst (λ (old : Core g.row.D.Denot). AreLegalFrom (graph old) (facts old) c.args.ends.now) (sym c.self.view_is) c.requires in
    (all_fit c.fit_in_turn.ensures c.self.inside.machine c.is_kept.ensures c.args.ends.now legal).of_graph

pub invariant_of-self : goal.invariant_of-self
invariant_of-self g c = (
  c.self.invariant.0,
  λ honest.
      kept_alike g.D.Disk (g.met.D.Disk.at_now honest) c.self.inside.vault c.self.inside.machine c.make_room_for_ends.new.self (events_in c.self.inside.in_doubt) (events_in c.self.inside.latest) c.self.inside.allowance c.self.inside.allowance
      c.make_room_for_ends.ensures.grows.graph c.make_room_for_ends.ensures.grows.environment c.make_room_for_ends.ensures.grows.facts (c.self.invariant.1 honest),
  behind_room c.runs_are_counted.ensures.no_more c.self.inside.machine c.make_room_for_ends.new.self c.self.inside.allowance c.make_room_for_ends.ensures.grows.states c.self.invariant.2,
)
