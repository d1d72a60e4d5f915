use Rattle.std.proofs.Common.{◌≡◌, ◌-◌}
use Rattle.codec.specs.Reading.{several, event}
use Rattle.codec.proofs.Several.{behind}
use Rattle.codec.proofs.decode.read_group.Given as goal

abbrev pub invariant-loop : goal.invariant-loop
invariant-loop l = behind l.events.items (several (l.count - l.counter) (event l.most) l.reader.rest.now) ≡ several l.count (event l.most) l.initial.reader.rest.now
