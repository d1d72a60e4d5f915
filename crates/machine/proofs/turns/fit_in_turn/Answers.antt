use Rattle.machine.proofs.GroupFit.{legal_fit_in_turn}
use Rattle.machine.proofs.turns.fit_in_turn.Goals as goal

pub returns : goal.returns
returns c = legal_fit_in_turn c.keeps_to_its_sheet.ensures c.ends_within_limits.ensures.puts c.fitting.ensures.state_keeps
