-- What a crash leaves at each moment while a side is written anew.
use Rattle.std.proofs.Common.{◌≡◌, ◌≢◌, ◌∙◌, inl, inr, ℕ, List, [], ◌∷◌, subst}
use Rattle.std.specs.Prelude.{◌↔◌}
use Rattle.disk.specs.declared.side.Side.{Side}
use Rattle.disk.specs.declared.storage.Disk.{Ghosts}
use Rattle.disk.specs.Storage.{KeepsFiles}
use Rattle.disk.specs.File.{File, MayLeave, WriteLeaves}
use Rattle.disk.specs.Time.{Contents, MayLeaveNow, OtherStays, OtherMayBe, Elapses, LeavesOnly}
use Rattle.disk.specs.Moments.{begun, goes_on, weakened, joined, other_before}
use Rattle.disk.specs.Settled.{settled_only}
use Rattle.vault.specs.Turned.{IsUnshut, Rests, MayShut, MayTurn}
use Rattle.vault.proofs.GatesBytes.{closing_leaves, opening_leaves}
use Rattle.vault.proofs.PiecesMoments.{StaysShut}

module _ {D : Type 0} (files : D → Side → File) (moment : D → ℕ) (left_at : D → ℕ → Contents → Type 0)
    (at_now : (disk : D) (c : Contents) → left_at disk (moment disk) c ↔ MayLeaveNow (files disk) c) where
  now_same : (old new : D) → ((each : Side) → files new each ≡ files old each) → (c : Contents) → MayLeaveNow (files new) c → MayLeaveNow (files old) c
  now_same old new same c left each = subst (λ (f : File). MayLeave f.durable (c each)) (same each) (left each)

  -- a call that only reads
  look_moments : (old new : D) → ((each : Side) → files new each ≡ files old each) → Elapses (moment old) (moment new) (left_at old) (left_at new) → LeavesOnly moment left_at old new (MayLeaveNow (files old))
  look_moments old new same time =
      goes_on moment left_at old old new (MayLeaveNow (files old)) (begun moment left_at old (MayLeaveNow (files old)) (λ c left. (at_now old c).0 left)) time
      (λ c left. now_same old new same c ((at_now new c).0 left))

  -- two such calls
  looks_moments : (old mid new : D) → ((each : Side) → files mid each ≡ files old each) → ((each : Side) → files new each ≡ files mid each)
      → Elapses (moment old) (moment mid) (left_at old) (left_at mid) → Elapses (moment mid) (moment new) (left_at mid) (left_at new) → LeavesOnly moment left_at old new (MayLeaveNow (files old))
  looks_moments old mid new first second time later =
      joined moment left_at old mid new _ _ _ (look_moments old mid first time) (look_moments mid new second later) (λ c left. left) (now_same old mid first)

  module _ (side : Side) where
    -- ---- the gate is closed

    -- where nothing was written
    pub unwritten_moments : (old new : D) → Rests (files old side) → LeavesOnly moment left_at old new (MayLeaveNow (files old))
        → LeavesOnly moment left_at old new (λ c. MayShut (files old side).content (c side) × OtherMayBe side (files old) c)
    unwritten_moments old new rests looked = weakened moment left_at old new _ _ looked (λ c left.
        (inl (settled_only (files old side).content (c side) (subst (λ (f : File). MayLeave f.durable (c side)) rests (left side))), λ other differs. left other))

    -- and where a closed gate was written over an open one
    pub closing_moments : (old mid new : D) → Rests (files old side) → IsUnshut (files old side).content → (files old side).content ≢ [] → ((each : Side) → files mid each ≡ files old each)
        → LeavesOnly moment left_at old mid (MayLeaveNow (files old))
        → LeavesOnly moment left_at mid new (λ c. WriteLeaves (files old side).content 0 1 (c side) × OtherMayBe side (files mid) c)
        → LeavesOnly moment left_at old new (λ c. MayShut (files old side).content (c side) × OtherMayBe side (files old) c)
    closing_moments old mid new rests unshut there same looked wrote =
        joined moment left_at old mid new _ _ _ (unwritten_moments old mid rests looked) wrote (λ c left. left)
        (λ c left. (closing_leaves (files old side).content (c side) unshut there left.0, other_before side (files old) (files mid) (λ other differs. same other) c left.1))

    -- ---- the whole of it

    module _ (old : D) (behind : List ℕ) where
      abbrev pub Turns : Contents → Type 0
      Turns c = MayTurn (files old side).content (1 ∷ behind) (c side) × OtherMayBe side (files old) c

      module _ (closed : D) (stays : OtherStays side (files old) (files closed)) where
        pub closed_moments : LeavesOnly moment left_at old closed (λ c. MayShut (files old side).content (c side) × OtherMayBe side (files old) c) → LeavesOnly moment left_at old closed Turns
        closed_moments first = weakened moment left_at old closed _ _ first (λ c left. (inl left.0, left.1))

        pub written_moments : (wrote : D) → LeavesOnly moment left_at old closed (λ c. MayShut (files old side).content (c side) × OtherMayBe side (files old) c)
            → LeavesOnly moment left_at closed wrote (StaysShut side (files closed)) → LeavesOnly moment left_at old wrote Turns
        written_moments wrote first second =
            joined moment left_at old closed wrote _ _ _ (closed_moments first) second (λ c left. left) (λ c left. (inl (inr left.0), other_before side (files old) (files closed) stays c left.1))

        pub opened_moments : (wrote new : D) (gate : ℕ) → OtherStays side (files closed) (files wrote) → LeavesOnly moment left_at old wrote Turns
            → LeavesOnly moment left_at wrote new (λ c. WriteLeaves (gate ∷ behind) 0 1 (c side) × OtherMayBe side (files wrote) c) → LeavesOnly moment left_at old new Turns
        opened_moments wrote new gate later first second =
            joined moment left_at old wrote new _ _ _ first second (λ c left. left) (λ c left. (
              opening_leaves gate behind (files old side).content (c side) left.0,
              other_before side (files old) (files closed) stays c (other_before side (files closed) (files wrote) later c left.1),
            ))

-- calls that only read, on a disk
module _ {D : Type 0} (storage : Ghosts D) (at_now : (disk : D) (c : Contents) → storage.left_at disk (storage.moment disk) c ↔ MayLeaveNow (storage.files disk) c) where
  pub look_kept : (old new : D) → ((each : Side) → storage.files new each ≡ storage.files old each)
      → Elapses (storage.moment old) (storage.moment new) (storage.left_at old) (storage.left_at new) → KeepsFiles storage old new
  look_kept old new same time = record { same = same; any_moment = look_moments storage.files storage.moment storage.left_at at_now old new same time }

  pub looks_kept : (old mid new : D) → ((each : Side) → storage.files mid each ≡ storage.files old each) → ((each : Side) → storage.files new each ≡ storage.files mid each)
      → Elapses (storage.moment old) (storage.moment mid) (storage.left_at old) (storage.left_at mid)
      → Elapses (storage.moment mid) (storage.moment new) (storage.left_at mid) (storage.left_at new) → KeepsFiles storage old new
  looks_kept old mid new first second time later = record {
    same = λ each. second each ∙ first each;
    any_moment = looks_moments storage.files storage.moment storage.left_at at_now old mid new first second time later;
  }
