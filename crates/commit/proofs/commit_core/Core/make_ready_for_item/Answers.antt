use Rattle.std.proofs.Common.{rules, subst}
use Rattle.terms.specs.declared.event.Event.TheVariants.{EnvItem}
use Rattle.machine.specs.Legal.{IsLegal}
use Rattle.commit.specs.Core.{Core, facts, graph}
use Rattle.commit.specs.Doubt.{events_in}
use Rattle.commit.proofs.Allowed.{behind_room}
use Rattle.commit.proofs.Taken.{kept_alike}
use Rattle.commit.proofs.commit_core.Core.make_ready_for_item.Goals as goal

pub invariant_of-self : goal.invariant_of-self
invariant_of-self g c = (
  c.self.invariant.0,
  λ honest.
      kept_alike g.D.Disk (g.met.D.Disk.at_now honest) c.self.inside.vault c.self.inside.machine c.make_room.new.self (events_in c.self.inside.in_doubt) (events_in c.self.inside.latest) c.self.inside.allowance c.self.inside.allowance
      c.make_room.ensures.grows.graph c.make_room.ensures.grows.environment c.make_room.ensures.grows.facts (c.self.invariant.1 honest),
  behind_room c.runs_are_counted.ensures.no_more c.self.inside.machine c.make_room.new.self c.self.inside.allowance c.make_room.ensures.grows.states c.self.invariant.2,
)

pub invariant_of-self-2 : goal.invariant_of-self-2
invariant_of-self-2 g c = (
  c.self.invariant.0,
  λ honest.
      kept_alike g.D.Disk (g.met.D.Disk.at_now honest) c.self.inside.vault c.self.inside.machine c.make_room.new.self (events_in c.self.inside.in_doubt) (events_in c.self.inside.latest) c.self.inside.allowance c.self.inside.allowance
      c.make_room.ensures.grows.graph c.make_room.ensures.grows.environment c.make_room.ensures.grows.facts (c.self.invariant.1 honest),
  behind_room c.runs_are_counted.ensures.no_more c.self.inside.machine c.make_room.new.self c.self.inside.allowance c.make_room.ensures.grows.states c.self.invariant.2,
)

pub returns-clause-legal : goal.returns-clause-legal
returns-clause-legal g c = c.make_room.ensures.grows.legal (EnvItem c.args.addr c.args.value) (c.in_ok-may_put_item.ensures.legal c.args.value)

pub make_room-requires : goal.make_room-requires
make_room-requires g c = ((c.in_ok-may_put_item.ensures.legal c.args.value).event_is_legal.0.0, tt)

pub returns-in_err-make_room-clause-refused : goal.returns-in_err-make_room-clause-refused
returns-in_err-make_room-clause-refused g c =
    let legal : IsLegal (graph c.args.self.now) (facts c.args.self.now) (EnvItem c.args.addr c.args.value) =
    subst (λ (old : Core g.row.D.Denot). IsLegal (graph old) (facts old) (EnvItem c.args.addr c.args.value)) c.self.view_is (c.in_ok-may_put_item.ensures.legal c.args.value)
    in search rules
