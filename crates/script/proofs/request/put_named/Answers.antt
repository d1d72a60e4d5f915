use Rattle.std.proofs.Common.{refl}
use Rattle.script.specs.Forms.{put}
use Rattle.script.specs.Lexemes.{left}
use Rattle.script.proofs.Keys.{put_read}
use Rattle.script.proofs.request.put_named.Goals as goal

pub returns-then-is_at_end : goal.returns-then-is_at_end
returns-then-is_at_end c = λ key read.
    let name = c.args.named.name.now in
    let value = c.in-Some.ensures.taken in (
      put name key value.0,
      put_read name key value.0 (left c.args.cursor.now) (left c.takes.new.self) (left c.number.new.self) c.if-not-takes.ensures.taken value.1 c.if-is_at_end.ensures,
      c.requires.kept,
      (refl, read, value.2),
    )
