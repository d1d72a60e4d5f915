use Rattle.std.proofs.Common.{add-one}
use Rattle.syntax.proofs.Moves.{passed_one}
use Rattle.syntax.proofs.cursor.Cursor.advance.Goals as goal

pub returns-then-self-len : goal.returns-then-self-len
returns-then-self-len c = rw (add-one) (passed_one c.args.self.now.passed c.args.self.now.tokens.items)
