use Rattle.instances.proofs.Restoring.{Restores}
use Rattle.instances.proofs.restored.restored_instances.Given as goal

abbrev pub invariant-loop-key : goal.invariant-loop-key
invariant-loop-key l = Restores l.fn.tags.items l.fn.ended.items l.fn.prescriber.0 l.fn.number l.key-iterator l.ended l.instances.states
