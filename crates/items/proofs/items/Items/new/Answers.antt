use Rattle.items.proofs.Waiting.{none_wait}
use Rattle.items.proofs.items.Items.new.Goals as goal

pub invariant_of-result : goal.invariant_of-result
invariant_of-result c = none_wait c.in_ok-new.field-0 c.new-2.result.entries c.new-2.ensures.empty
