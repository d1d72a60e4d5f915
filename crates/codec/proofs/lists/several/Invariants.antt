use Rattle.std.proofs.Common.{◌≡◌, ◌-◌}
use Rattle.codec.specs.Reading.{several}
use Rattle.codec.proofs.Several.{behind}
use Rattle.codec.proofs.lists.several.Given as goal

abbrev pub invariant-loop : goal.invariant-loop
invariant-loop g l = behind l.elements.items (several (l.count - l.counter) (g.T.Element.reading l.most) l.reader.rest.now) ≡ several l.count (g.T.Element.reading l.fn.most) l.fn.reader.rest.now
