use Rattle.sides.proofs.Once.{one_meaning, any_rest, has_generation, one_generation}
use Rattle.sides.proofs.law.one_meaning_of_a_side.Goals as goal

pub returns-clause-one : goal.returns-clause-one
returns-clause-one c = one_meaning c.spellings_of_commits.ensures.one c.spellings_of_images.ensures.one c.one_meaning.ensures c.one_reading.ensures

pub returns-clause-rest : goal.returns-clause-rest
returns-clause-rest c = any_rest

pub returns-clause-generation : goal.returns-clause-generation
returns-clause-generation c = has_generation

pub returns-clause-one_generation : goal.returns-clause-one_generation
returns-clause-one_generation c = one_generation
