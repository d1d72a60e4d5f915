use Rattle.terms.proofs.Numbered.{keys_total, keys_tie, addresses_total, addresses_tie, tags_total, tags_tie, instances_total, instances_tie}
use Rattle.terms.proofs.TwoKinds.{puts_total, puts_tie, producers_total, producers_tie}
use Rattle.terms.proofs.order.orders_are_total.Goals as goal

pub returns-clause-keys : goal.returns-clause-keys
returns-clause-keys c = keys_total

pub returns-clause-keys_tie : goal.returns-clause-keys_tie
returns-clause-keys_tie c = keys_tie

pub returns-clause-addresses : goal.returns-clause-addresses
returns-clause-addresses c = addresses_total

pub returns-clause-addresses_tie : goal.returns-clause-addresses_tie
returns-clause-addresses_tie c = addresses_tie

pub returns-clause-tags : goal.returns-clause-tags
returns-clause-tags c = tags_total

pub returns-clause-tags_tie : goal.returns-clause-tags_tie
returns-clause-tags_tie c = tags_tie

pub returns-clause-instances : goal.returns-clause-instances
returns-clause-instances c = instances_total

pub returns-clause-instances_tie : goal.returns-clause-instances_tie
returns-clause-instances_tie c = instances_tie

pub returns-clause-puts : goal.returns-clause-puts
returns-clause-puts c = puts_total

pub returns-clause-puts_tie : goal.returns-clause-puts_tie
returns-clause-puts_tie c = puts_tie

pub returns-clause-producers : goal.returns-clause-producers
returns-clause-producers c = producers_total

pub returns-clause-producers_tie : goal.returns-clause-producers_tie
returns-clause-producers_tie c = producers_tie
