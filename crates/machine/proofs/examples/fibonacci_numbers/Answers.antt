use Rattle.machine.proofs.Rows.{one_number_row, five_numbers_row, conflict_row}
use Rattle.machine.proofs.examples.fibonacci_numbers.Goals as goal

pub returns-clause-five_numbers : goal.returns-clause-five_numbers
returns-clause-five_numbers c = five_numbers_row c.facts_are_told_apart.ensures.one c.facts_are_told_apart.ensures.among c.ends_once.ensures.one

pub returns-clause-one_number : goal.returns-clause-one_number
returns-clause-one_number c = one_number_row c.facts_are_told_apart.ensures.one

pub returns-clause-conflict : goal.returns-clause-conflict
returns-clause-conflict c = conflict_row c.facts_are_told_apart.ensures.one c.facts_are_told_apart.ensures.among c.ends_once.ensures.one
