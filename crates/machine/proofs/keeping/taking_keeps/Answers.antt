use Rattle.machine.proofs.Taken.{still_of}
use Rattle.machine.proofs.keeping.taking_keeps.Goals as goal

pub returns : goal.returns
returns c g old new event is legal comes =
    still_of c.facts_are_told_apart.ensures.one c.ends_within_limits.ensures.puts c.keeps_to_its_sheet.ensures c.fitting.ensures.state_keeps c.unfinished_wait.ensures.stays g old new event is legal comes
