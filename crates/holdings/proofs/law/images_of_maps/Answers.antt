use Rattle.holdings.proofs.Listed.{done_tell, images_tell, rest_told}
use Rattle.holdings.proofs.Within.{fitting_is_within}
use Rattle.holdings.proofs.law.images_of_maps.Goals as goal

pub returns-clause-maps : goal.returns-clause-maps
returns-clause-maps c = images_tell c.facts_are_told_apart.ensures.among

pub returns-clause-done : goal.returns-clause-done
returns-clause-done c = done_tell c.facts_are_told_apart.ensures.among c.orders_are_total.ensures.instances

pub returns-clause-rest : goal.returns-clause-rest
returns-clause-rest c = rest_told c.facts_are_told_apart.ensures.among c.orders_are_total.ensures.instances

pub returns-clause-within : goal.returns-clause-within
returns-clause-within c = fitting_is_within c.facts_are_told_apart.ensures.one c.facts_are_told_apart.ensures.among
