-- What a crash leaves of a gate, as lists of bytes.
use Rattle.std.proofs.Common.{◌≡◌, ◌≢◌, inl, inr, ◌⊎◌, ℕ, ◌+◌, ◌≤◌, Bool, true, false, ◌&&◌, List, [], ◌∷◌, ◌++◌, length, take, drop, refl, sym, ap, subst, ◌∙◌, arith, append-nil, Some}
use Rattle.std.specs.Prelude.{◌||◌, Result, Ok, Err, slice_get, nat_lt, nat_le}
use Rattle.std.proofs.lemmas.List.{take_all, drop_all}
use Rattle.std.proofs.lemmas.Bool.{cases_eq}
use Rattle.std.proofs.lemmas.Bool.Decides.{nat_tests}
use Rattle.disk.specs.declared.error.DiskError.{DiskError}
use Rattle.disk.specs.declared.error.DiskError.TheVariants.{Device, NoMemory}
use Rattle.disk.specs.File.{Durable, File, MayLeave, Changes, Syncs, WriteLeaves, at_rest, settled, overwritten, written, touching, write_touches, cut, cut_touches}
use Rattle.sides.specs.Side.{IsOpen}
use Rattle.vault.specs.Turned.{IsShut, IsUnshut, KeepsGate, HasAfterGate, MayShut, MayTurn}

-- bytes that begin with another gate are not open
pub not_open : (bytes : List ℕ) → IsShut bytes → IsOpen bytes → ⊥
not_open bytes shut open_one = let is = shut.spelled in let same = open_one.1 in shut.closed cc

-- bytes after any gate: either the gate is open, and just these bytes follow it, or the gate is not open
pub by_gate : (gate : ℕ) (rest bytes : List ℕ) → bytes ≡ gate ∷ rest → (bytes ≡ 1 ∷ rest) ⊎ IsShut bytes
by_gate gate rest bytes is = elim (cases_eq gate 1) [
  | inl one ↦ inl (is ∙ ap (λ (g : ℕ). g ∷ rest) one)
  | inr other ↦ inr (record { gate = gate; closed = other; rest = rest; spelled = is })
]

-- a write of the first byte leaves the others
pub first_only : (gate : ℕ) (rest bytes : List ℕ) → WriteLeaves (gate ∷ rest) 0 1 bytes → (first : ℕ) × (bytes ≡ first ∷ rest)
first_only gate rest [] left = let long = left.length_stays (omega arith) in absurd (omega (arith, long))
first_only gate rest (first ∷ more) left = (first, ap (λ (l : List ℕ). first ∷ l) (left.back (omega arith)))

-- a write of a gate's byte over an open one leaves the old bytes, or a gate that is not open
pub closing_leaves : (old bytes : List ℕ) → IsUnshut old → old ≢ [] → WriteLeaves old 0 1 bytes → MayShut old bytes
closing_leaves old bytes (inl none) there left = absurd (there none)
closing_leaves old bytes (inr open_one) there left =
    let it = first_only 1 open_one.0 bytes (subst (λ (l : List ℕ). WriteLeaves l 0 1 bytes) open_one.1 left) in
    elim (by_gate it.0 open_one.0 bytes it.1) [
      | inl opened ↦ inl (opened ∙ sym open_one.1)
      | inr closed ↦ inr closed
    ]

-- such a write over a gate that is not open leaves its bytes after an open gate, or after a gate that is not open
pub opening_leaves : (gate : ℕ) (rest old bytes : List ℕ) → WriteLeaves (gate ∷ rest) 0 1 bytes → MayTurn old (1 ∷ rest) bytes
opening_leaves gate rest old bytes left =
    let it = first_only gate rest bytes left in
    elim (by_gate it.0 rest bytes it.1) [
      | inl opened ↦ inr opened
      | inr closed ↦ inl (inr closed)
    ]

-- a closed gate written over the first byte
pub closed_over : (old : List ℕ) → IsShut (overwritten old 0 (0 ∷ []))
closed_over old = record { gate = 0; closed = omega arith; rest = drop 1 old; spelled = refl }

-- ---- while bytes are written after the gate

-- what a crash leaves begins with the gate
pub gate_left : (gate : ℕ) (durable : Durable) → gate ≢ 1 → KeepsGate gate durable → (bytes : List ℕ) → MayLeave durable bytes → IsShut bytes
gate_left gate durable closed keeps bytes left = begins bytes (left.agrees.elsewhere 0 keeps.untouched ∙ keeps.synced)
  where
    begins : (bytes : List ℕ) → slice_get bytes 0 ≡ Some gate → IsShut bytes
    begins [] is = absurd cc
    begins (first ∷ rest) is = record { gate = first; closed = λ one. closed cc; rest = rest; spelled = refl }

-- the gate of a file at rest is on the disk
pub rest_keeps : (gate : ℕ) (rest : List ℕ) → KeepsGate gate (settled (gate ∷ rest))
rest_keeps gate rest = record { synced = refl; untouched = refl }

-- it stays there, whatever is touched after it
touched_keeps : (gate : ℕ) (durable : Durable) (touches : ℕ → Bool) → KeepsGate gate durable → touches 0 ≡ false → KeepsGate gate (touching touches durable)
touched_keeps gate durable touches keeps after = record { synced = keeps.synced; untouched = ap (λ (b : Bool). b || touches 0) keeps.untouched ∙ after }

-- a write after the gate does not touch it
write_after : (gate : ℕ) (durable : Durable) → KeepsGate gate durable → (at count : ℕ) → 1 ≤ at → write_touches durable at count 0 ≡ false
write_after gate durable keeps at count after =
    neither (nat_le at 0) (nat_lt 0 (at + count)) (nat_lt (length durable.synced) (at + count)) (nat_le (length durable.synced) 0) (grind (arith, nat_tests)) (there durable.synced keeps.synced)
  where
    there : (synced : List ℕ) → slice_get synced 0 ≡ Some gate → nat_le (length synced) 0 ≡ false
    there [] is = absurd cc
    there (first ∷ rest) is = let long : 1 ≤ length (first ∷ rest) = omega arith in grind (arith, nat_tests)

    neither : (a b c d : Bool) → a ≡ false → d ≡ false → ((a && b) || (c && d)) ≡ false
    neither true b c d is last = absurd cc
    neither false b true d is last = last
    neither false b false d is last = refl

-- nor does a write or a cut that failed, or was done
change_keeps : (T : Type 0) (result : Result T DiskError) (done : File → File) (touches : ℕ → Bool) (gate : ℕ) (old new : File) → KeepsGate gate old.durable → touches 0 ≡ false
    → (done old).durable ≡ touching touches old.durable → Changes done touches result old new → KeepsGate gate new.durable
change_keeps T (Ok _) done touches gate old new keeps after is changes =
    subst (KeepsGate gate) (sym (ap (λ (f : File). f.durable) changes ∙ is)) (touched_keeps gate old.durable touches keeps after)
change_keeps T (Err Device) done touches gate old new keeps after is changes = subst (KeepsGate gate) (sym changes.durable) (touched_keeps gate old.durable touches keeps after)
change_keeps T (Err NoMemory) done touches gate old new keeps after is changes =
    subst (KeepsGate gate) (sym changes.fails.durable) (touched_keeps gate old.durable changes.touched keeps (untouched (changes.touched 0) refl))
  where
    untouched : (b : Bool) → changes.touched 0 ≡ b → b ≡ false
    untouched true is = let within = changes.within 0 is in cc
    untouched false is = refl

pub cut_keeps : (T : Type 0) (result : Result T DiskError) (gate : ℕ) (old new : File) → KeepsGate gate old.durable → Changes (cut 1) (cut_touches 1) result old new → KeepsGate gate new.durable
cut_keeps T result gate old new keeps changes = change_keeps T result (cut 1) (cut_touches 1) gate old new keeps refl refl changes

pub write_keeps : (T : Type 0) (result : Result T DiskError) (gate : ℕ) (old new : File) → KeepsGate gate old.durable → (at : ℕ) (bytes : List ℕ) → 1 ≤ at
    → Changes (written at bytes) (write_touches old.durable at (length bytes)) result old new → KeepsGate gate new.durable
write_keeps T result gate old new keeps at bytes after changes =
    change_keeps T result (written at bytes) (write_touches old.durable at (length bytes)) gate old new keeps (write_after gate old.durable keeps at (length bytes) after) refl changes

pub sync_keeps : (T : Type 0) (result : Result T DiskError) (gate : ℕ) (rest : List ℕ) (old new : File) → old.content ≡ gate ∷ rest → KeepsGate gate old.durable → Syncs result old new → KeepsGate gate new.durable
sync_keeps T (Ok _) gate rest old new is keeps syncs = subst (λ (f : File). KeepsGate gate f.durable) (sym (syncs ∙ ap at_rest is)) (rest_keeps gate rest)
sync_keeps T (Err _) gate rest old new is keeps syncs = subst (λ (f : File). KeepsGate gate f.durable) (sym syncs) keeps

-- a write at the end adds its bytes
written_at_end : (old bytes : List ℕ) (at : ℕ) → at ≡ length old → overwritten old at bytes ≡ old ++ bytes
written_at_end old bytes at is =
    ap (λ (l : List ℕ). take at old ++ bytes ++ l) (drop_all (at + length bytes) old (omega (arith, is))) ∙ append-nil (take at old ++ bytes) ∙ ap (λ (l : List ℕ). l ++ bytes) (take_all at old (omega (arith, is)))

pub written_on : (file : File) (bytes more : List ℕ) (at : ℕ) → at ≡ 1 + length bytes → HasAfterGate file bytes → HasAfterGate (written at more file) (bytes ++ more)
written_on file bytes more at is has = record {
  gate = has.gate;
  closed = has.closed;
  content = ap (λ (l : List ℕ). overwritten l at more) has.content ∙ written_at_end (has.gate ∷ bytes) more at (omega (arith, is));
  keeps = touched_keeps has.gate file.durable (write_touches file.durable at (length more)) has.keeps (write_after has.gate file.durable has.keeps at (length more) (omega (arith, is)));
}
