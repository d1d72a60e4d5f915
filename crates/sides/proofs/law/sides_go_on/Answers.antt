use Rattle.sides.proofs.BeginsSides.{side_as_set, side_fits, begins_side}
use Rattle.sides.proofs.GoesOn.{has_journal, stays_alike, grows_by_commits}
use Rattle.sides.proofs.law.sides_go_on.Goals as goal

pub returns-clause-journal : goal.returns-clause-journal
returns-clause-journal c = has_journal

pub returns-clause-alike : goal.returns-clause-alike
returns-clause-alike c = stays_alike

pub returns-clause-grows : goal.returns-clause-grows
returns-clause-grows c =
    grows_by_commits c.facts_are_told_apart.ensures.among c.facts_go_on.ensures.all c.facts_go_on.ensures.environment c.fitting.ensures.parts

pub returns-clause-as_set : goal.returns-clause-as_set
returns-clause-as_set c = side_as_set

pub returns-clause-fits : goal.returns-clause-fits
returns-clause-fits c = side_fits c.fitting.ensures.all_keep c.fitting.ensures.state_as_set

pub returns-clause-begins : goal.returns-clause-begins
returns-clause-begins c = begins_side
