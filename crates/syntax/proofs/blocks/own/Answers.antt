use Rattle.std.proofs.Common.{◌≡◌, Ok, sym, ◌∙◌}
use Rattle.syntax.proofs.StatementSteps.{get_read, put_read}
use Rattle.syntax.proofs.blocks.own.Goals.{in-Reading+in_ok-keyword-in-Reading, in-Writing+in_ok-keyword-in-Writing}
use Rattle.syntax.proofs.blocks.own.Goals as goal

pub returns-clause-reads : goal.returns-clause-reads
returns-clause-reads c = elim c.match-part.branch [
  | in-Reading+in_ok-keyword-in-Reading w ↦ let ok : w.get.result ≡ Ok c.in_ok-statement.statement = sym w.branch'-is ∙ c.in_ok-statement.was in
      rw (w.cursor-is, w.in-Reading.is) (get_read w.in_ok-keyword-in-Reading.ensures.reads (rw ok at w.get.ensures.reads))
  | in-Writing+in_ok-keyword-in-Writing w ↦ let ok : w.put.result ≡ Ok c.in_ok-statement.statement = sym w.branch'-is ∙ c.in_ok-statement.was in
      rw (w.cursor-is, w.in-Writing.is) (put_read w.in_ok-keyword-in-Writing.ensures.reads (rw ok at w.put.ensures.reads))
]
