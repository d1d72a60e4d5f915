-- What a crash may leave while a disk is only read.
use Rattle.std.proofs.Common.{◌≡◌, ◌∙◌, subst}
use Rattle.std.specs.Prelude.{◌↔◌}
use Rattle.disk.specs.declared.side.Side.{Side}
use Rattle.disk.specs.declared.storage.Disk.{Ghosts}
use Rattle.disk.specs.File.{File, MayLeave}
use Rattle.disk.specs.Time.{Contents, Elapses, LeavesOnly, MayLeaveNow}
use Rattle.disk.specs.Storage.{KeepsFiles}
use Rattle.disk.specs.Moments.{begun, goes_on}

module _ {D : Type 0} (storage : Ghosts D) (at_now : (disk : D) (contents : Contents) → storage.left_at disk (storage.moment disk) contents ↔ MayLeaveNow (storage.files disk) contents) where
  -- after one more call that changes no file
  read_on : (old mid new : D) → LeavesOnly storage.moment storage.left_at old mid (MayLeaveNow (storage.files old)) → Elapses (storage.moment mid) (storage.moment new) (storage.left_at mid) (storage.left_at new)
      → ((each : Side) → storage.files new each ≡ storage.files old each) → KeepsFiles storage old new
  read_on old mid new so_far time same = record {
    same = same;
    any_moment = goes_on storage.moment storage.left_at old mid new (MayLeaveNow (storage.files old)) so_far time
        (λ contents left side. subst (λ (file : File). MayLeave file.durable (contents side)) (same side) ((at_now new contents).0 left side));
  }

  -- after one call
  pub read_once : (old new : D) → Elapses (storage.moment old) (storage.moment new) (storage.left_at old) (storage.left_at new) → ((each : Side) → storage.files new each ≡ storage.files old each)
      → KeepsFiles storage old new
  read_once old new = read_on old old new (begun storage.moment storage.left_at old (MayLeaveNow (storage.files old)) (λ contents left. (at_now old contents).0 left))

  -- after two calls
  pub read_twice : (old mid new : D) → Elapses (storage.moment old) (storage.moment mid) (storage.left_at old) (storage.left_at mid) → ((each : Side) → storage.files mid each ≡ storage.files old each)
      → Elapses (storage.moment mid) (storage.moment new) (storage.left_at mid) (storage.left_at new) → ((each : Side) → storage.files new each ≡ storage.files mid each)
      → KeepsFiles storage old new
  read_twice old mid new time same time_2 same_2 =
      read_on old mid new ((read_once old mid time same).any_moment) time_2 (λ each. same_2 each ∙ same each)
