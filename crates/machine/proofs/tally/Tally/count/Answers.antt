use Rattle.machine.proofs.Tallied.{all_counted, as_many, none_above, places_stay, still_up_to}
use Rattle.std.proofs.Common.{◌-◌, ◌^◌, arith}
use Rattle.machine.proofs.tally.Tally.count.Goals as goal

pub add_puts-requires-clause-places : goal.add_puts-requires-clause-places
add_puts-requires-clause-places c = places_stay c.args.self.now c.clear.new.self c.args.puts.now c.clear.ensures.collections c.requires

pub add_puts-requires-clause-below : goal.add_puts-requires-clause-below
add_puts-requires-clause-below c = still_up_to 0 (2 ^ 128 - 2 ^ 64) c.clear.new.self (omega arith) (none_above c.clear.new.self c.clear.ensures.counts)

pub returns-clause-counts : goal.returns-clause-counts
returns-clause-counts c = all_counted c.clear.new.self c.add_puts.new.self c.args.puts.now c.clear.ensures.counts c.add_puts.ensures.adds

pub returns-clause-collections : goal.returns-clause-collections
returns-clause-collections c = as_many c.args.self.now c.clear.new.self c.add_puts.new.self c.clear.ensures.collections c.add_puts.ensures.adds.collections
