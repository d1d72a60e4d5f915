use Rattle.audit.specs.Replayed.{IsBegun}
use Rattle.audit.proofs.Beginning.{GivenItem, HasGivenItem}
use Rattle.audit.proofs.Left.{Left}
use Rattle.audit.proofs.begin.mark_items.Given as goal

abbrev pub invariant-loop-addr : goal.invariant-loop-addr
invariant-loop-addr l = IsBegun l.fn.store l.marks × Left (GivenItem l.fn.store) (HasGivenItem l.marks) l.addr-iterator
