-- What a write and the sync after it may leave.
use Rattle.std.proofs.Common.{◌≡◌, ℕ, ◌+◌, ◌≤◌, ◌<◌, Bool, true, false, ◌||◌, List, length, take, refl, ap, subst, ◌∙◌, arith, length-take}
use Rattle.std.specs.Prelude.{Result, Ok, Err}
use Rattle.std.proofs.lemmas.Bool.Decides.{nat_tests}
use Rattle.disk.specs.declared.side.Side.{Side}
use Rattle.disk.specs.declared.error.DiskError.{DiskError}
use Rattle.disk.specs.declared.error.DiskError.TheVariants.{Device, NoMemory}
use Rattle.disk.specs.File.{Durable, File, MayLeave, Changes, WriteLeaves, at_rest, settled, touching, write_touches}
use Rattle.disk.specs.Time.{Contents, MayLeaveNow, OtherStays, OtherMayBe}
use Rattle.disk.proofs.Left.{touching_left}
use Rattle.disk.proofs.Fronts.{front_from_places, back_from_places}

either_false : (a b : Bool) → a ≡ false → b ≡ false → (a || b) ≡ false
either_false a b left right = ap (λ (x : Bool). x || b) left ∙ right

-- if more is touched, a crash may leave at least as much
more_touched : (d : Durable) (some all : ℕ → Bool) → ((at : ℕ) → some at ≡ true → all at ≡ true) → (bytes : List ℕ) → MayLeave (touching some d) bytes → MayLeave (touching all d) bytes
more_touched d some all within bytes left = record {
  are_bytes = left.are_bytes;
  agrees = record {
    elsewhere = λ at h. left.agrees.elsewhere at (fewer (d.touched at) at h);
    length_stays = λ h. left.agrees.length_stays (λ at le. fewer (d.touched at) at (h at le));
  };
}
  where
    not_all : (at : ℕ) (b : Bool) → some at ≡ b → all at ≡ false → b ≡ false
    not_all at true is h = let e = within at is in cc
    not_all at false is h = refl

    fewer : (b : Bool) (at : ℕ) → (b || all at) ≡ false → (b || some at) ≡ false
    fewer true at h = h
    fewer false at h = not_all at (some at) refl h

-- whatever a write or a cut returned, it may leave at most what it may leave when it succeeds
pub changes_leave : (T : Type 0) (done : File → File) (touches : ℕ → Bool) (result : Result T DiskError) (old new : File) → (done old).durable ≡ touching touches old.durable → Changes done touches result old new
    → (bytes : List ℕ) → MayLeave new.durable bytes → MayLeave (touching touches old.durable) bytes
changes_leave T done touches (Ok _) old new is changes bytes left = subst (λ (d : Durable). MayLeave d bytes) (ap (λ (f : File). f.durable) changes ∙ is) left
changes_leave T done touches (Err Device) old new is changes bytes left = subst (λ (d : Durable). MayLeave d bytes) changes.durable left
changes_leave T done touches (Err NoMemory) old new is changes bytes left =
    more_touched old.durable changes.touched touches changes.within bytes (subst (λ (d : Durable). MayLeave d bytes) changes.fails.durable left)

-- what a write may leave of synced bytes, as lists
pub write_leaves : (synced : List ℕ) (from count : ℕ) (bytes : List ℕ) → from ≤ length synced → MayLeave (touching (write_touches (settled synced) from count) (settled synced)) bytes → WriteLeaves synced from count bytes
write_leaves synced from count bytes le left = record {
  front = front;
  reaches = omega (arith, ap length front, length-take from bytes, length-take from synced);
  length_stays = λ within. left.agrees.length_stays (λ at ge. behind within at ge);
  back = λ within. back_from_places bytes synced (from + count) (λ at ge. left.agrees.elsewhere at (past within at ge));
}
  where
    before : (at : ℕ) → at < from → write_touches (settled synced) from count at ≡ false
    before at lt = grind (arith, nat_tests)

    front : take from bytes ≡ take from synced
    front = front_from_places bytes synced from (λ at lt. left.agrees.elsewhere at (before at lt))

    past : from + count ≤ length synced → (at : ℕ) → from + count ≤ at → write_touches (settled synced) from count at ≡ false
    past within at ge = grind (arith, nat_tests)

    behind : from + count ≤ length synced → (at : ℕ) → length synced ≤ at → write_touches (settled synced) from count at ≡ false
    behind within at ge = past within at (omega arith)

-- ---- a write and the sync after it

module _ (side : Side) (from count : ℕ) where
  -- what the write may leave of its file
  abbrev pub with_write : Durable → Durable
  with_write durable = touching (write_touches durable from count) durable

  -- what a crash may leave of both files
  abbrev pub Touches : (Side → File) → Contents → Type 0
  Touches files contents = MayLeave (with_write (files side).durable) (contents side) × OtherMayBe side files contents

  -- before the write
  pub touches_before : (old : Side → File) → (contents : Contents) → MayLeaveNow old contents → Touches old contents
  touches_before old contents left = (touching_left (old side).durable (contents side) (left side) (write_touches (old side).durable from count), λ other differs. left other)

  -- after the write, whatever it returned
  pub touches_after : (T : Type 0) (done : File → File) (result : Result T DiskError) (old mid : Side → File) → (done (old side)).durable ≡ with_write (old side).durable
      → Changes done (write_touches (old side).durable from count) result (old side) (mid side) → OtherStays side old mid → (contents : Contents) → MayLeaveNow mid contents → Touches old contents
  touches_after T done result old mid touches changes others contents left = (
    changes_leave T done (write_touches (old side).durable from count) result (old side) (mid side) touches changes (contents side) (left side),
    λ other differs. subst (λ (f : File). MayLeave f.durable (contents other)) (others other differs) (left other),
  )

  -- for a file of which everything was on the disk
  pub leaves_of : (old : Side → File) (synced : List ℕ) → old side ≡ at_rest synced → from ≤ length synced → (contents : Contents) → Touches old contents → WriteLeaves synced from count (contents side) × OtherMayBe side old contents
  leaves_of old synced is reach contents touches = (
    write_leaves synced from count (contents side) reach (subst (λ (f : File). MayLeave (with_write f.durable) (contents side)) is touches.0),
    touches.1,
  )
