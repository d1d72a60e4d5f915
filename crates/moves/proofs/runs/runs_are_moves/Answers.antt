use Rattle.std.proofs.Common.{sym, ◌∙◌}
use Rattle.std.proofs.lemmas.Bool.{false≢true}
use Rattle.commit.proofs.Went.{of_run}
use Rattle.moves.proofs.runs.runs_are_moves.Goals as goal

pub returns : goal.returns
returns g c old new may_be_asked may_spawn limit result works run keeps = record {
  went = λ _. of_run g.D.Disk old new limit run.commits run.runs;
  stays = λ halted. absurd (false≢true (sym works ∙ halted));
  settled = keeps.settled;
  later = run.runs.later;
}
