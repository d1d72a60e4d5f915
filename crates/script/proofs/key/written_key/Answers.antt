use Rattle.std.proofs.Common.{[], ◌∷◌, ◌++◌}
use Rattle.script.specs.Lexemes.{left}
use Rattle.script.specs.Requests.{key_of}
use Rattle.script.proofs.Keys.{to_come}
use Rattle.script.proofs.key.written_key.Goals as goal

pub loop-close-preserved : goal.loop-close-preserved
loop-close-preserved c =
    let so_far = c.loop-close.invariant in
    let value = c.in-Some.ensures.taken in
    record {
      sound = c.in-Some.ensures.sound;
      key = so_far.key ++ value.0 ∷ [];
      read = c.with-written.ensures so_far.key value.0 so_far.read value.2;
      to_come = to_come c.loop-close.mark c.args.close so_far.key (key_of 58 c.args.close (left c.args.cursor.now)) (left c.loop-close.cursor) (left c.takes.new.self) (left c.takes-in-loop-close.new.self) value.0 (left c.number.new.self) so_far.to_come c.if-takes.ensures.taken.0 c.if-takes.ensures.taken.1 c.if-not-takes.ensures.taken value.1;
    }
