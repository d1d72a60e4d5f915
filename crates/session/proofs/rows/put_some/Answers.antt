use Rattle.session.proofs.Tried.{first_alone}
use Rattle.session.proofs.rows.put_some.Goals as goal

pub returns-in-Apart-clause-answers : goal.returns-in-Apart-clause-answers
returns-in-Apart-clause-answers g c =
    first_alone g.D.Disk c.facts_are_told_apart.ensures.among (λ on. (c.stores_go_on.ensures.gates on).stay) c.args.core.now c.put_together.new.core c.put_first.new.core
    c.in-Apart.ensures.answers.0 c.in-Apart.ensures.answers.1 c.args.commands.now c.index-commands-0.result c.put_first.result c.requires.some c.requires.puts c.index-commands-0.is c.put_first.ensures.answers
