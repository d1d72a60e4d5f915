use Rattle.std.proofs.Common.{◌≡◌, ◌≤◌, ◌-◌, length, take}
use Rattle.codec.specs.Reading.{several, value}
use Rattle.codec.proofs.Several.{behind}
use Rattle.codec.proofs.reader.Reader.key.Given as goal

abbrev pub invariant-loop-place : goal.invariant-loop-place
invariant-loop-place l = record {
  places : l.count ≤ length l.components;
  so_far : behind (take l.place l.components) (several (l.count - l.place) value l.self.rest.now) ≡ several l.count value l.initial.self.rest.now;
}
