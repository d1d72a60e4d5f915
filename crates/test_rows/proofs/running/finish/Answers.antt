use Rattle.terms.specs.declared.event.Event.TheVariants.{Done}
use Rattle.machine.specs.Machine.{facts}
use Rattle.test_rows.proofs.running.finish.Goals as goal

pub make_room-requires : goal.make_room-requires
make_room-requires c =
    (c.given_are_of_graph.ensures c.args.machine.now.graph (facts c.args.machine.now) c.args.task c.args.puts.now c.is_kept.ensures.graph c.requires.legal.event_is_legal.2).0

pub take_end-requires-clause-legal : goal.take_end-requires-clause-legal
take_end-requires-clause-legal c =
    c.make_room.ensures.grows.legal (Done c.args.task c.args.puts.now) c.requires.legal
