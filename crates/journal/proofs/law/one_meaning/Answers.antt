use Rattle.journal.proofs.Spelling.{one_meaning}
use Rattle.journal.proofs.law.one_meaning.Goals as goal

pub returns : goal.returns
returns c = λ bytes one two. one_meaning one two bytes
