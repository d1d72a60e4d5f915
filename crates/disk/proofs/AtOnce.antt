-- A write and the sync after it take effect at once; and what a crash may leave if one of them failed.
use Rattle.std.proofs.Common.{◌≡◌, inl, inr, ℕ, Bool, List, sym, ap, subst, ◌∙◌, arith}
use Rattle.std.specs.Prelude.{◌↔◌, Result, Ok, Err, OnErr}
use Rattle.std.proofs.lemmas.Bool.{cases_lt}
use Rattle.disk.specs.declared.side.Side.{Side}
use Rattle.disk.specs.declared.error.DiskError.{DiskError}
use Rattle.disk.specs.declared.error.DiskError.TheVariants.{Device, NoMemory}
use Rattle.disk.specs.Side.{which}
use Rattle.disk.specs.File.{Durable, File, MayLeave, Changes, Syncs, touching}
use Rattle.disk.specs.Time.{Contents, MayLeaveNow, OtherStays, Elapses, KeepsAll, AtOnce}
use Rattle.disk.specs.Moments.{call_keeps}
use Rattle.disk.proofs.Left.{touching_left}

-- if a call on one file takes back nothing that a crash might leave of that file, it takes back nothing of both files
nothing_back : (side : Side) (old new : Side → File) → ((bytes : List ℕ) → MayLeave (old side).durable bytes → MayLeave (new side).durable bytes) → OtherStays side old new
    → (contents : Contents) → MayLeaveNow old contents → MayLeaveNow new contents
nothing_back side old new here others contents left each = elim (which side each) [
  | inl it ↦ subst (λ (s : Side). MayLeave (new s).durable (contents s)) it (here (contents side) (left side))
  | inr differs ↦ subst (λ (f : File). MayLeave f.durable (contents each)) (sym (others each differs)) (left each)
]

changes_keep : (T : Type 0) (done : File → File) (touches : ℕ → Bool) (result : Result T DiskError) (old new : File) → (done old).durable ≡ touching touches old.durable → Changes done touches result old new
    → (bytes : List ℕ) → MayLeave old.durable bytes → MayLeave new.durable bytes
changes_keep T done touches (Ok _) old new is changes bytes left = subst (λ (d : Durable). MayLeave d bytes) (sym (ap (λ (f : File). f.durable) changes ∙ is)) (touching_left old.durable bytes left touches)
changes_keep T done touches (Err Device) old new is changes bytes left = subst (λ (d : Durable). MayLeave d bytes) (sym changes.durable) (touching_left old.durable bytes left touches)
changes_keep T done touches (Err NoMemory) old new is changes bytes left = subst (λ (d : Durable). MayLeave d bytes) (sym changes.fails.durable) (touching_left old.durable bytes left changes.touched)

-- a write or a cut, whatever it returned, takes nothing back
pub write_keeps : (T : Type 0) (side : Side) (done : File → File) (touches : ℕ → Bool) (result : Result T DiskError) (old new : Side → File) → (done (old side)).durable ≡ touching touches (old side).durable
    → Changes done touches result (old side) (new side) → OtherStays side old new → (contents : Contents) → MayLeaveNow old contents → MayLeaveNow new contents
write_keeps T side done touches result old new is changes others = nothing_back side old new (changes_keep T done touches result (old side) (new side) is changes) others

-- nor does a sync that failed
pub failed_sync_keeps : (T : Type 0) (side : Side) (result : Result T DiskError) (first old new : Side → File) → Syncs result (old side) (new side) → OtherStays side old new
    → ((contents : Contents) → MayLeaveNow first contents → MayLeaveNow old contents) → OnErr result ((contents : Contents) → MayLeaveNow first contents → MayLeaveNow new contents)
failed_sync_keeps T side (Ok _) first old new syncs others so_far = tt
failed_sync_keeps T side (Err _) first old new syncs others so_far =
    λ contents left. nothing_back side old new (λ bytes. subst (λ (f : File). MayLeave f.durable bytes) (sym syncs)) others contents (so_far contents left)

module _ {D : Type 0} (files : D → Side → File) (moment : D → ℕ) (left_at : D → ℕ → Contents → Type 0)
    (at_now : (disk : D) (c : Contents) → left_at disk (moment disk) c ↔ MayLeaveNow (files disk) c) where
  -- a call that takes nothing back
  pub call_keeps_all : (old new : D) → Elapses (moment old) (moment new) (left_at old) (left_at new)
      → ((contents : Contents) → MayLeaveNow (files old) contents → MayLeaveNow (files new) contents) → KeepsAll files moment left_at old new
  call_keeps_all old new time keeps k contents from to left = call_keeps moment left_at files at_now old new time contents left (keeps contents left) k from to

  -- and another call after it
  both_keep_all : (old mid new : D) → Elapses (moment old) (moment mid) (left_at old) (left_at mid) → ((contents : Contents) → MayLeaveNow (files old) contents → MayLeaveNow (files mid) contents)
      → Elapses (moment mid) (moment new) (left_at mid) (left_at new) → ((contents : Contents) → MayLeaveNow (files mid) contents → MayLeaveNow (files new) contents) → KeepsAll files moment left_at old new
  both_keep_all old mid new first first_keeps second second_keeps k contents from to left = elim (cases_lt (moment mid) k) [
    | inl behind ↦ call_keeps_all mid new second second_keeps k contents (omega (arith, behind)) to (first_keeps contents left)
    | inr before ↦ (second.stays k contents before).1 (call_keeps_all old mid first first_keeps k contents from before left)
  ]

  -- the same, if the second call is a sync that failed
  pub failed_sync_keeps_all : (T : Type 0) (side : Side) (result : Result T DiskError) (old mid new : D) → Elapses (moment old) (moment mid) (left_at old) (left_at mid)
      → ((contents : Contents) → MayLeaveNow (files old) contents → MayLeaveNow (files mid) contents) → Elapses (moment mid) (moment new) (left_at mid) (left_at new)
      → Syncs result (files mid side) (files new side) → OtherStays side (files mid) (files new) → OnErr result (KeepsAll files moment left_at old new)
  failed_sync_keeps_all T side (Ok _) old mid new first keeps second syncs others = tt
  failed_sync_keeps_all T side (Err e) old mid new first keeps second syncs others =
      both_keep_all old mid new first keeps second (failed_sync_keeps T side (Err e) (files mid) (files mid) (files new) syncs others (λ contents left. left))

  pub kept_at_once : (old new : D) → Elapses (moment old) (moment new) (left_at old) (left_at new)
      → ((contents : Contents) → MayLeaveNow (files old) contents → MayLeaveNow (files new) contents) → AtOnce files moment left_at old new
  kept_at_once old new time keeps t from to =
      inl (λ k begins ends contents left. call_keeps moment left_at files at_now old new time contents left (keeps contents left) k begins (omega (arith, ends, to)))

  -- a call that takes nothing back, and any call after it: a moment is within the first, or a crash leaves only what it may in the end
  pub call_at_once : (old mid new : D) → Elapses (moment old) (moment mid) (left_at old) (left_at mid)
      → ((contents : Contents) → MayLeaveNow (files old) contents → MayLeaveNow (files mid) contents)
      → Elapses (moment mid) (moment new) (left_at mid) (left_at new) → AtOnce files moment left_at old new
  call_at_once old mid new first keeps time t from to = elim (cases_lt (moment mid) t) [
    | inl behind ↦ inr (λ k begins ends contents left.
        (at_now new contents).0 (subst (λ (n : ℕ). left_at new n contents) (omega (arith, behind, begins, ends, time.by_one)) left))
    | inr before ↦ inl (λ k begins ends contents left.
        (time.stays k contents (omega (arith, before, ends))).1
        (call_keeps moment left_at files at_now old mid first contents left (keeps contents left) k begins (omega (arith, before, ends))))
  ]
