use Rattle.terms.specs.Same.{tells_same}
use Rattle.terms.proofs.Equals as equals
use Rattle.terms.proofs.equal.equals_are_one.Goals as goal

pub returns-clause-keys : goal.returns-clause-keys
returns-clause-keys c = equals.keys

pub returns-clause-addresses : goal.returns-clause-addresses
returns-clause-addresses c = equals.addresses

pub returns-clause-by_order : goal.returns-clause-by_order
returns-clause-by_order c = tells_same

pub returns-clause-tags : goal.returns-clause-tags
returns-clause-tags c = equals.tags

pub returns-clause-instances : goal.returns-clause-instances
returns-clause-instances c = equals.instances

pub returns-clause-kinds : goal.returns-clause-kinds
returns-clause-kinds c = equals.kinds

pub returns-clause-producers : goal.returns-clause-producers
returns-clause-producers c = equals.producers

pub returns-clause-puts : goal.returns-clause-puts
returns-clause-puts c = equals.puts

pub returns-clause-put_lists : goal.returns-clause-put_lists
returns-clause-put_lists c = equals.put_lists

pub returns-clause-events : goal.returns-clause-events
returns-clause-events c = equals.events
