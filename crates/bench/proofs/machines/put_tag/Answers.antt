use Rattle.terms.specs.declared.event.Event.TheVariants.{EnvTag}
use Rattle.bench.proofs.machines.put_tag.Goals as goal

pub take_tag-requires-clause-legal : goal.take_tag-requires-clause-legal
take_tag-requires-clause-legal c = c.make_room.ensures.grows.legal (EnvTag (record { collection = record { 0 = 0 }; key = c.new.result })) c.in_ok-may_put_tag.ensures.legal
