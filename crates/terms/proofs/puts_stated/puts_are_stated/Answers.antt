use Rattle.terms.proofs.ListedPuts.{go_on, items_of_puts, tags_of_puts, puts_end_nothing}
use Rattle.terms.proofs.puts_stated.puts_are_stated.Goals as goal

pub returns-clause-go_on : goal.returns-clause-go_on
returns-clause-go_on c = go_on

pub returns-clause-items : goal.returns-clause-items
returns-clause-items c = items_of_puts

pub returns-clause-tags : goal.returns-clause-tags
returns-clause-tags c = tags_of_puts

pub returns-clause-end_nothing : goal.returns-clause-end_nothing
returns-clause-end_nothing c = puts_end_nothing
