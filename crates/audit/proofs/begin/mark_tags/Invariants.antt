use Rattle.audit.specs.Replayed.{Grows, IsBegun}
use Rattle.audit.proofs.Beginning.{GivenTag, HasGivenTag}
use Rattle.audit.proofs.Left.{Left}
use Rattle.audit.proofs.begin.mark_tags.Given as goal

abbrev pub invariant-loop-tag : goal.invariant-loop-tag
invariant-loop-tag l = IsBegun l.fn.store l.marks × Left (GivenTag l.fn.store) (HasGivenTag l.marks) l.tag-iterator × Grows l.fn.marks l.marks
