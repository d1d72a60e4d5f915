-- What a crash leaves at each moment while bytes are written after a gate, piece by piece.
use Rattle.std.proofs.Common.{◌≡◌, ◌≢◌, inl, inr, ℕ, ◌+◌, List, [], ◌++◌, length, length-append, append_assoc, refl, sym, ap, subst, ◌∙◌, arith}
use Rattle.std.proofs.lemmas.Bool.{cases_lt}
use Rattle.std.specs.Prelude.{◌↔◌, Result, Ok}
use Rattle.disk.specs.declared.side.Side.{Side}
use Rattle.disk.specs.declared.error.DiskError.{DiskError}
use Rattle.disk.specs.File.{File, Changes, Syncs, at_rest, write_touches, written, cut, cut_touches}
use Rattle.disk.specs.Time.{Contents, MayLeaveNow, OtherStays, OtherMayBe, Elapses, LeavesOnly, HasCause}
use Rattle.disk.specs.Moments.{begun, goes_on, joined, other_before}
use Rattle.vault.specs.Turned.{IsShut, RestsShut, KeepsGate, HasAfterGate}
use Rattle.vault.proofs.GatesBytes.{gate_left, rest_keeps, cut_keeps, write_keeps, sync_keeps, written_on}

-- calls one after another that leave the other file as it was
pub stays_on : (side : Side) (old mid new : Side → File) → OtherStays side old mid → OtherStays side mid new → OtherStays side old new
stays_on side old mid new first second other differs = second other differs ∙ first other differs

-- the gate of this file is there, and not open
abbrev pub StaysShut : Side → (Side → File) → Contents → Type 0
StaysShut side before c = IsShut (c side) × OtherMayBe side before c

-- a call that returned `Ok` did not fail
pub not_failed : {T : Type 0} (before now : ℕ) (value : T) → HasCause before now (Ok value) → now ≡ before
not_failed before now value cause = elim (cases_lt before now) [
  | inl less ↦ (let never = cause.told less in absurd cc)
  | inr most ↦ omega (arith, most, cause.later)
]

module _ {D : Type 0} (files : D → Side → File) (moment : D → ℕ) (left_at : D → ℕ → Contents → Type 0) (side : Side) where
  -- What was written piece by piece from `old` to `now`, up to this place: the first bytes of the whole, of which some are still to come.
  pub record SoFar (whole left : List ℕ) (place : ℕ) (old now : D) : Type 0 where
    pub bytes : List ℕ
    pub parts : whole ≡ bytes ++ left
    pub place_is : place ≡ 1 + length bytes
    pub has : HasAfterGate (files now side) bytes
    pub other : OtherStays side (files old) (files now)
    pub moments : LeavesOnly moment left_at old now (StaysShut side (files old))

  module _ (at_now : (disk : D) (c : Contents) → left_at disk (moment disk) c ↔ MayLeaveNow (files disk) c) where
    -- a file whose gate stays on the disk
    gate_begun : (old : D) (gate : ℕ) → gate ≢ 1 → KeepsGate gate (files old side).durable → LeavesOnly moment left_at old old (StaysShut side (files old))
    gate_begun old gate closed keeps = begun moment left_at old (StaysShut side (files old)) (λ c left. let now = (at_now old c).0 left in
        (gate_left gate (files old side).durable closed keeps (c side) (now side), λ other differs. now other))

    gate_goes_on : (old mid new : D) (gate : ℕ) → gate ≢ 1 → KeepsGate gate (files new side).durable → OtherStays side (files old) (files new) → LeavesOnly moment left_at old mid (StaysShut side (files old))
        → Elapses (moment mid) (moment new) (left_at mid) (left_at new) → LeavesOnly moment left_at old new (StaysShut side (files old))
    gate_goes_on old mid new gate closed keeps stays first time = goes_on moment left_at old mid new (StaysShut side (files old)) first time (λ c left. let now = (at_now new c).0 left in
        (gate_left gate (files new side).durable closed keeps (c side) (now side), other_before side (files old) (files new) stays c (λ other differs. now other)))

    -- the cut to the gate
    pub cut_moments : (old mid : D) → RestsShut (files old side) → OtherStays side (files old) (files mid) → Elapses (moment old) (moment mid) (left_at old) (left_at mid)
        → (T : Type 0) (result : Result T DiskError) → Changes (cut 1) (cut_touches 1) result (files old side) (files mid side) → LeavesOnly moment left_at old mid (StaysShut side (files old))
    cut_moments old mid shut stays time T result changes =
        let keeps : KeepsGate shut.1.gate (files old side).durable = subst (λ (f : File). KeepsGate shut.1.gate f.durable) (sym (shut.0 ∙ ap at_rest shut.1.spelled)) (rest_keeps shut.1.gate shut.1.rest) in
        gate_goes_on old old mid shut.1.gate shut.1.closed (cut_keeps T result shut.1.gate (files old side) (files mid side) keeps changes) stays (gate_begun old shut.1.gate shut.1.closed keeps) time

    pub nothing_so_far : (whole : List ℕ) (old : D) → HasAfterGate (files old side) [] → SoFar whole whole 1 old old
    nothing_so_far whole old has = record {
      bytes = [];
      parts = refl;
      place_is = refl;
      has = has;
      other = λ other differs. refl;
      moments = gate_begun old has.gate has.closed has.keeps;
    }

    module _ (whole left : List ℕ) (place : ℕ) (old mid : D) (so_far : SoFar whole left place old mid) where
      module _ (piece rest : List ℕ) (new : D) (stays : OtherStays side (files mid) (files new)) (time : Elapses (moment mid) (moment new) (left_at mid) (left_at new)) where
        others : OtherStays side (files old) (files new)
        others = stays_on side (files old) (files mid) (files new) so_far.other stays

        -- at each moment of one more write
        pub piece_moments : (T : Type 0) (result : Result T DiskError)
            → Changes (written place piece) (write_touches (files mid side).durable place (length piece)) result (files mid side) (files new side) → LeavesOnly moment left_at old new (StaysShut side (files old))
        piece_moments T result changes =
            gate_goes_on old mid new so_far.has.gate so_far.has.closed
            (write_keeps T result so_far.has.gate (files mid side) (files new side) so_far.has.keeps place piece (omega (arith, so_far.place_is)) changes)
            others so_far.moments time

        -- and after it
        pub piece_so_far : (next : ℕ) → next ≡ place + length piece → left ≡ piece ++ rest → files new side ≡ written place piece (files mid side)
            → LeavesOnly moment left_at old new (StaysShut side (files old)) → SoFar whole rest next old new
        piece_so_far next next_is splits is moments = record {
          bytes = so_far.bytes ++ piece;
          parts = so_far.parts ∙ ap (λ (l : List ℕ). so_far.bytes ++ l) splits ∙ sym (append_assoc so_far.bytes piece rest);
          place_is = omega (arith, next_is, so_far.place_is, length-append so_far.bytes piece);
          has = subst (λ (f : File). HasAfterGate f (so_far.bytes ++ piece)) (sym is) (written_on (files mid side) so_far.bytes piece place so_far.place_is so_far.has);
          other = others;
          moments = moments;
        }

    -- a call that only reads changes nothing of this
    pub look_so_far : (whole left : List ℕ) (place : ℕ) (old mid new : D) → SoFar whole left place old mid → ((each : Side) → files new each ≡ files mid each)
        → Elapses (moment mid) (moment new) (left_at mid) (left_at new) → SoFar whole left place old new
    look_so_far whole left place old mid new so_far same time =
        let others : OtherStays side (files old) (files new) = λ each differs. same each ∙ so_far.other each differs in
        record {
          bytes = so_far.bytes;
          parts = so_far.parts;
          place_is = so_far.place_is;
          has = subst (λ (f : File). HasAfterGate f so_far.bytes) (sym (same side)) so_far.has;
          other = others;
          moments = gate_goes_on old mid new so_far.has.gate so_far.has.closed (subst (λ (f : File). KeepsGate so_far.has.gate f.durable) (sym (same side)) so_far.has.keeps) others so_far.moments time;
        }

    -- the pieces after the cut
    pub pieces_moments : (old mid new : D) → OtherStays side (files old) (files mid) → LeavesOnly moment left_at old mid (StaysShut side (files old))
        → LeavesOnly moment left_at mid new (StaysShut side (files mid)) → LeavesOnly moment left_at old new (StaysShut side (files old))
    pieces_moments old mid new stays first second =
        joined moment left_at old mid new _ _ _ first second (λ c left. left) (λ c left. (left.0, other_before side (files old) (files mid) stays c left.1))

    -- and the sync
    pub synced_moments : (old mid new : D) (bytes : List ℕ) → HasAfterGate (files mid side) bytes → OtherStays side (files old) (files new) → LeavesOnly moment left_at old mid (StaysShut side (files old))
        → Elapses (moment mid) (moment new) (left_at mid) (left_at new) → (T : Type 0) (result : Result T DiskError) → Syncs result (files mid side) (files new side) → LeavesOnly moment left_at old new (StaysShut side (files old))
    synced_moments old mid new bytes has stays first time T result syncs =
        gate_goes_on old mid new has.gate has.closed (sync_keeps T result has.gate bytes (files mid side) (files new side) has.content has.keeps syncs) stays first time
