-- Outcomes of instances that are kept, to be committed together.
use Rattle.std.specs.Prelude.{◌≡◌, false}
use Rattle.terms.specs.declared.name.Inst.{Inst}
use Rattle.items.specs.Once.{is_one_of}
use Rattle.commit.specs.Batch.{AreOutcomesOf, Batch}
use Rattle.commit.specs.Core.{Core}

-- the outcomes of a batch may be committed, and the instance is none of theirs
pub record AreOutcomesApart {D : Type 0} (c : Core D) (task : Inst) (batch : Batch) : Type 0 where
  pub may : AreOutcomesOf c batch
  pub apart : is_one_of task batch.tasks ≡ false
