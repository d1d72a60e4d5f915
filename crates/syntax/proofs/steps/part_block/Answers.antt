use Rattle.std.proofs.Common.{[], ◌∷◌, subst}
use Rattle.syntax.specs.Expected.{keyword}
use Rattle.syntax.specs.Spelled.{a_word}
use Rattle.syntax.specs.Parsed.{left, Reads}
use Rattle.syntax.proofs.Moves.{◌⨟◌}
use Rattle.syntax.proofs.steps.part_block.Goals as goal

pub returns-clause-reads : goal.returns-clause-reads
returns-clause-reads c =
    let begins = subst (λ it. Reads (keyword it ∷ []) [] (a_word it) (left c.args.cursor.now) (left c.keyword.new.self)) c.word.ensures c.in_ok-keyword.ensures.reads in
    let read = c.in_ok-block.ensures.reads in
    record { block = read.read; reads = begins ⨟ (c.in_ok-sign.ensures.reads ⨟ (read.reads ⨟ c.in_ok-sign-2.ensures.reads)); are = read.are; within = read.within }
