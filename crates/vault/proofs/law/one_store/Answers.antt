use Rattle.vault.proofs.Live.{one_store, any_tail}
use Rattle.vault.proofs.law.one_store.Goals as goal

pub returns-clause-one : goal.returns-clause-one
returns-clause-one c =
    one_store c.one_meaning_of_a_side.ensures.one c.one_meaning_of_a_side.ensures.generation
    c.one_meaning_of_a_side.ensures.one_generation

pub returns-clause-tail : goal.returns-clause-tail
returns-clause-tail c = any_tail c.one_meaning_of_a_side.ensures.rest
