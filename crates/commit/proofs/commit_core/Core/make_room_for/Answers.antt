use Rattle.std.proofs.Common.{sym, subst}
use Rattle.terms.specs.declared.event.Event.TheVariants.{Done}
use Rattle.machine.specs.Legal.{IsLegal}
use Rattle.machine.specs.Machine.{facts as facts_of}
use Rattle.commit.specs.Core.{Core, facts, graph}
use Rattle.commit.specs.Doubt.{events_in}
use Rattle.commit.proofs.Allowed.{behind_room}
use Rattle.commit.proofs.Taken.{kept_alike}
use Rattle.commit.proofs.commit_core.Core.make_room_for.Goals as goal

pub make_room-requires : goal.make_room-requires
make_room-requires g c =
    let legal = subst (λ (old : Core g.row.D.Denot). IsLegal (graph old) (facts old) (Done c.args.task.now c.args.puts.now)) (sym c.self.view_is) c.requires in
    (c.given_are_of_graph.ensures c.self.inside.machine.graph (facts_of c.self.inside.machine) c.args.task.now c.args.puts.now c.is_kept.ensures.graph legal.event_is_legal.2).0

pub invariant_of-self : goal.invariant_of-self
invariant_of-self g c = (
  c.self.invariant.0,
  λ honest.
      kept_alike g.D.Disk (g.met.D.Disk.at_now honest) c.self.inside.vault c.self.inside.machine c.make_room.new.self (events_in c.self.inside.in_doubt) (events_in c.self.inside.latest) c.self.inside.allowance c.self.inside.allowance
      c.make_room.ensures.grows.graph c.make_room.ensures.grows.environment c.make_room.ensures.grows.facts (c.self.invariant.1 honest),
  behind_room c.runs_are_counted.ensures.no_more c.self.inside.machine c.make_room.new.self c.self.inside.allowance c.make_room.ensures.grows.states c.self.invariant.2,
)

pub returns-clause-legal : goal.returns-clause-legal
returns-clause-legal g c =
    let legal = subst (λ (old : Core g.row.D.Denot). IsLegal (graph old) (facts old) (Done c.args.task.now c.args.puts.now)) (sym c.self.view_is) c.requires in
    c.make_room.ensures.grows.legal (Done c.args.task.now c.args.puts.now) legal
