use Rattle.std.proofs.Common.{sym, ap, subst}
use Rattle.syntax.specs.Tokens.{lexeme_of}
use Rattle.syntax.specs.Statements.{Begins, part_of}
use Rattle.syntax.proofs.part.Part.beginning.Goals as goal

pub returns-in-Name : goal.returns-in-Name
returns-in-Name c = (c.in-Name.field-0.now, ap lexeme_of c.in-Name.is)

pub returns-in-Word : goal.returns-in-Word
returns-in-Word c = subst (λ lexeme. Begins (part_of c.args.self) lexeme c.beginning_of.result) (sym (ap lexeme_of c.in-Word.is)) c.beginning_of.ensures
