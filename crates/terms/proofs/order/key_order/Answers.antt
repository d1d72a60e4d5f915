use Rattle.terms.proofs.Components.{beginning_first, first_difference_decides}
use Rattle.terms.proofs.order.key_order.Goals as goal

pub returns-clause-beginning : goal.returns-clause-beginning
returns-clause-beginning c = beginning_first

pub returns-clause-first_difference : goal.returns-clause-first_difference
returns-clause-first_difference c = first_difference_decides
