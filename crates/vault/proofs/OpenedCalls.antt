-- Calls that sync and read a store's files, one after another.
use Rattle.std.proofs.Common.{◌≡◌, inl, inr, ap, subst, ◌∙◌}
use Rattle.std.specs.Prelude.{◌↔◌, Result, Ok, Err, OnOk}
use Rattle.disk.specs.declared.side.Side.{Side}
use Rattle.disk.specs.declared.side.Side.TheVariants.{A, B}
use Rattle.disk.specs.declared.storage.Disk.{Ghosts}
use Rattle.disk.specs.declared.error.DiskError.{DiskError}
use Rattle.disk.specs.Side.{which}
use Rattle.disk.specs.File.{File, MayLeave, Syncs, at_rest}
use Rattle.disk.specs.Time.{Contents, MayLeaveNow, OtherStays, Elapses}
use Rattle.disk.specs.Moments.{begun, goes_on, joined}
use Rattle.disk.specs.Settled.{now_after_sync}
use Rattle.vault.specs.Opened.{OnlyReads, contents_of}

-- a sync leaves what reads return
sync_reads : (T : Type 0) (result : Result T DiskError) (old new : File) → Syncs result old new → new.content ≡ old.content
sync_reads T (Ok _) old new syncs = ap (λ (f : File). f.content) syncs
sync_reads T (Err _) old new syncs = ap (λ (f : File). f.content) syncs

-- so it does for both files, if the other one stays
reads_stay : (side : Side) (old new : Side → File) → (new side).content ≡ (old side).content → OtherStays side old new → (each : Side) → (new each).content ≡ (old each).content
reads_stay side old new here stays each = elim (which side each) [
  | inl it ↦ subst (λ (s : Side). (new s).content ≡ (old s).content) it here
  | inr differs ↦ ap (λ (f : File). f.content) (stays each differs)
]

-- what reads return, as one function
pub same_contents : (old new : Side → File) → ((side : Side) → (new side).content ≡ (old side).content) → contents_of new ≡ contents_of old
same_contents old new same = λ i side. same side i

-- after a sync of each file both are at rest
both_rest : (old mid new : Side → File) → mid A ≡ at_rest (old A).content → OtherStays A old mid → new B ≡ at_rest (mid B).content → OtherStays B mid new → (side : Side) → new side ≡ at_rest (old side).content
both_rest old mid new a other_a b other_b A = other_b A (λ (e : A ≡ B). cc) ∙ a
both_rest old mid new a other_a b other_b B = b ∙ ap (λ (f : File). at_rest f.content) (other_a B (λ (e : B ≡ A). cc))

-- where the second sync succeeds
pub both_synced : (T : Type 0) (result : Result T DiskError) (old mid new : Side → File) → mid A ≡ at_rest (old A).content → OtherStays A old mid → Syncs result (mid B) (new B) → OtherStays B mid new
    → OnOk result ((side : Side) → new side ≡ at_rest (old side).content)
both_synced T (Ok _) old mid new a other_a b other_b = both_rest old mid new a other_a b other_b
both_synced T (Err _) old mid new a other_a b other_b = tt

module _ {D : Type 0} (storage : Ghosts D) where
  -- calls after others
  pub then_reads : (old mid new : D) → OnlyReads storage old mid → OnlyReads storage mid new → OnlyReads storage old new
  then_reads old mid new first last = record {
    reads = λ side. last.reads side ∙ first.reads side;
    any_moment = joined storage.moment storage.left_at old mid new _ _ _ first.any_moment last.any_moment (λ c left. left) first.left;
    left = λ c left. first.left c (last.left c left);
  }

  module _ (at_now : (disk : D) (c : Contents) → storage.left_at disk (storage.moment disk) c ↔ MayLeaveNow (storage.files disk) c) where
    -- one call after which a crash leaves nothing more
    one_call : (old new : D) → ((side : Side) → (storage.files new side).content ≡ (storage.files old side).content) → Elapses (storage.moment old) (storage.moment new) (storage.left_at old) (storage.left_at new)
        → ((c : Contents) → MayLeaveNow (storage.files new) c → MayLeaveNow (storage.files old) c) → OnlyReads storage old new
    one_call old new reads time left = record {
      reads = reads;
      any_moment =
          goes_on storage.moment storage.left_at old old new (MayLeaveNow (storage.files old)) (begun storage.moment storage.left_at old (MayLeaveNow (storage.files old)) (λ c now. (at_now old c).0 now)) time
          (λ c now. left c ((at_now new c).0 now));
      left = left;
    }

    -- a call that changes no file
    pub looked : (old new : D) → ((each : Side) → storage.files new each ≡ storage.files old each) → Elapses (storage.moment old) (storage.moment new) (storage.left_at old) (storage.left_at new) → OnlyReads storage old new
    looked old new same time =
        one_call old new (λ side. ap (λ (f : File). f.content) (same side)) time
        (λ c left each. subst (λ (f : File). MayLeave f.durable (c each)) (same each) (left each))

    -- a sync, whatever it returned
    pub synced : (T : Type 0) (side : Side) (result : Result T DiskError) (old new : D) → MayLeave (storage.files old side).durable (storage.files old side).content → Syncs result (storage.files old side) (storage.files new side)
        → OtherStays side (storage.files old) (storage.files new) → Elapses (storage.moment old) (storage.moment new) (storage.left_at old) (storage.left_at new) → OnlyReads storage old new
    synced T side result old new reads syncs stays time =
        one_call old new (reads_stay side (storage.files old) (storage.files new) (sync_reads T result (storage.files old side) (storage.files new side) syncs) stays) time
        (now_after_sync T side result (storage.files old) (storage.files new) syncs stays reads)
