-- Files of which everything is on the disk, and what a crash may leave after a sync.
use Rattle.std.specs.Prelude.{◌≡◌, ℕ, zero, suc, List, [], ◌∷◌, refl, slice_get}
use Rattle.std.specs.Prelude.{Result, Ok, Err}
use Rattle.std.proofs.Common.{inl, inr, sym, subst}
use Rattle.disk.specs.declared.side.Side.{Side}
use Rattle.disk.specs.declared.error.DiskError.{DiskError}
use Rattle.disk.specs.Side.{which}
use Rattle.disk.specs.File.{File, MayLeave, Syncs, settled}
use Rattle.disk.specs.Time.{Contents, MayLeaveNow, OtherStays}

-- lists that have the same at each place are equal
pub same_places : (xs ys : List ℕ) → ((i : ℕ) → slice_get xs i ≡ slice_get ys i) → xs ≡ ys
same_places [] [] same = refl
same_places [] (y ∷ ys) same = let none = same zero in cc
same_places (x ∷ xs) [] same = let none = same zero in cc
same_places (x ∷ xs) (y ∷ ys) same = let first = same zero in let rest = same_places xs ys (λ i. same (suc i)) in cc

-- if everything is on the disk, a crash leaves exactly that
pub settled_only : (synced bytes : List ℕ) → MayLeave (settled synced) bytes → bytes ≡ synced
settled_only synced bytes left = same_places bytes synced (λ at. left.agrees.elsewhere at refl)

-- after a sync a crash leaves nothing that it might not have left before
pub sync_leaves : (T : Type 0) (result : Result T DiskError) (old new : File) → Syncs result old new → MayLeave old.durable old.content → (bytes : List ℕ) → MayLeave new.durable bytes → MayLeave old.durable bytes
sync_leaves T (Ok _) old new syncs reads bytes left =
    subst (MayLeave old.durable) (sym (settled_only old.content bytes (subst (λ (f : File). MayLeave f.durable bytes) syncs left))) reads
sync_leaves T (Err _) old new syncs reads bytes left = subst (λ (f : File). MayLeave f.durable bytes) syncs left

-- the same for both files, after a sync of one of them, whatever it returned
pub now_after_sync : (T : Type 0) (side : Side) (result : Result T DiskError) (mid new : Side → File) → Syncs result (mid side) (new side) → OtherStays side mid new → MayLeave (mid side).durable (mid side).content
    → (contents : Contents) → MayLeaveNow new contents → MayLeaveNow mid contents
now_after_sync T side result mid new syncs others reads contents left each = elim (which side each) [
  | inl it ↦ subst (λ (s : Side). MayLeave (mid s).durable (contents s)) it (sync_leaves T result (mid side) (new side) syncs reads (contents side) (left side))
  | inr differs ↦ subst (λ (f : File). MayLeave f.durable (contents each)) (others each differs) (left each)
]
