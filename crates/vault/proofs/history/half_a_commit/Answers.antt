use Rattle.vault.proofs.GoesOn.{half_is_no_beginning}
use Rattle.vault.proofs.history.half_a_commit.Goals as goal

pub returns : goal.returns
returns c = half_is_no_beginning c.one_store.ensures.one
