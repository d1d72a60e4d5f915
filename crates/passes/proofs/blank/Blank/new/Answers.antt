use Rattle.passes.proofs.Moves.{begins}
use Rattle.passes.proofs.blank.Blank.new.Goals as goal

pub of_words-requires : goal.of_words-requires
of_words-requires c = begins
