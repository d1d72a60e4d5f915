use Rattle.std.proofs.Common.{refl, rules}
use Rattle.syntax.specs.Expected.{possible}
use Rattle.syntax.proofs.level.Level.set_aside.Goals as goal

pub returns-then-waits-clause-opened : goal.returns-then-waits-clause-opened
returns-then-waits-clause-opened c =
    search (rules, c.opened.ensures.opened possible refl tt)
