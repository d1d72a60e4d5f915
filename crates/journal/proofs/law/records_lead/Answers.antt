use Rattle.journal.proofs.Standing.{begins_with_first, one_in_front, first_and_others}
use Rattle.journal.proofs.law.records_lead.Goals as goal

pub returns-clause-first : goal.returns-clause-first
returns-clause-first c = first_and_others

pub returns-clause-begins : goal.returns-clause-begins
returns-clause-begins c = begins_with_first

pub returns-clause-one : goal.returns-clause-one
returns-clause-one c = one_in_front
