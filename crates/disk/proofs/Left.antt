-- After a call, a crash may leave what reads give.
use Rattle.std.proofs.Common.{◌≡◌, ◌⊎◌, inl, inr, ℕ, ◌+◌, ◌≤◌, ◌<◌, Bool, true, false, ◌||◌, ◌&&◌, List, ◌++◌, length, take, max, refl, ◌∙◌, arith, get_or, Fits, w8}
use Rattle.std.specs.Prelude.{nat_lt, nat_le, slice_get}
use Rattle.std.proofs.lemmas.Bool.{cases_lt}
use Rattle.std.proofs.lemmas.Bool.Decides.{nat_tests}
use Rattle.std.proofs.lemmas.List.{get_or_default}
use Rattle.std.proofs.lemmas.List.Elements.{All-append, All-take, All-drop}
use Rattle.disk.specs.File.{Durable, IsByte, AreBytes, MayLeave, settled, touching, write_touches, cut_touches, overwritten}
use Rattle.disk.proofs.Places.{slice_get-take, overwritten-before, overwritten-behind, length-overwritten}

either_false_left : (a b : Bool) → (a || b) ≡ false → a ≡ false
either_false_left true b h = h
either_false_left false b h = refl

either_false_right : (a b : Bool) → (a || b) ≡ false → b ≡ false
either_false_right true b h = cc
either_false_right false b h = h

-- a position that a write leaves alone
pub alone : (d : Durable) (from count at : ℕ) → write_touches d from count at ≡ false → (at < from) ⊎ (from + count ≤ at)
alone d from count at h = elim (cases_lt at from) [
  | inl before ↦ inl before
  | inr ge ↦ elim (cases_lt at (from + count)) [
    | inl within ↦ let range = either_false_left (nat_le from at && nat_lt at (from + count)) _ h in absurd (grind (arith, nat_tests))
    | inr behind ↦ inr behind
  ]
]

-- a write that touches nothing at the synced end ends before it
pub short : (d : Durable) (from count : ℕ) → ((at : ℕ) → length d.synced ≤ at → write_touches d from count at ≡ false) → from + count ≤ length d.synced
short d from count h = elim (cases_lt (length d.synced) (from + count)) [
  | inl past ↦ let tail = either_false_right (nat_le from (length d.synced) && nat_lt (length d.synced) (from + count)) _ (h (length d.synced) (omega arith)) in absurd (grind (arith, nat_tests))
  | inr le ↦ le
]

module _ (d : Durable) (content : List ℕ) (left : MayLeave d content) where
  -- if more is touched, a crash may leave at least as much
  pub touching_left : (touches : ℕ → Bool) → MayLeave (touching touches d) content
  touching_left touches = record {
    are_bytes = left.are_bytes;
    agrees = record {
      elsewhere = λ at h. left.agrees.elsewhere at (either_false_left (d.touched at) (touches at) h);
      length_stays = λ h. left.agrees.length_stays (λ at le. either_false_left (d.touched at) (touches at) (h at le));
    };
  }

  pub written_left : (from : ℕ) (bytes : List ℕ) → from ≤ length content → AreBytes bytes → MayLeave (touching (write_touches d from (length bytes)) d) (overwritten content from bytes)
  written_left from bytes le are = record {
    are_bytes = All-append IsByte (take from content ++ bytes) _ (All-append IsByte (take from content) bytes (All-take IsByte from content left.are_bytes) are) (All-drop IsByte (from + length bytes) content left.are_bytes);
    agrees = record {
      elsewhere = λ at h. same at (alone d from (length bytes) at (either_false_right (d.touched at) _ h)) ∙ left.agrees.elsewhere at (either_false_left (d.touched at) _ h);
      length_stays = λ h.
          let end = short d from (length bytes) (λ at ge. either_false_right (d.touched at) _ (h at ge)) in
          let long = left.agrees.length_stays (λ at ge. either_false_left (d.touched at) _ (h at ge)) in
          omega (arith, length-overwritten content bytes from le);
    };
  }
    where
      same : (at : ℕ) → (at < from) ⊎ (from + length bytes ≤ at) → slice_get (overwritten content from bytes) at ≡ slice_get content at
      same at (inl before) = overwritten-before content bytes from at le before
      same at (inr behind) = overwritten-behind content bytes from at le behind

  pub cut_left : (count : ℕ) → MayLeave (touching (cut_touches count) d) (take count content)
  cut_left count = record {
    are_bytes = All-take IsByte count content left.are_bytes;
    agrees = record {
      elsewhere = λ at h. slice_get-take content count at (below at (either_false_right (d.touched at) _ h)) ∙ left.agrees.elsewhere at (either_false_left (d.touched at) _ h);
      length_stays = λ h.
          let end = either_false_right (d.touched (max count (length d.synced))) _ (h (max count (length d.synced)) (omega arith)) in
          let far = below (max count (length d.synced)) end in
          absurd (omega arith);
    };
  }
    where
      below : (at : ℕ) → nat_le count at ≡ false → at < count
      below at h = grind (arith, nat_tests)

  pub settled_left : MayLeave (settled content) content
  settled_left = record { are_bytes = left.are_bytes; agrees = record { elsewhere = λ at h. refl; length_stays = λ h. refl } }

-- the elements of a slice of bytes are bytes
pub bytes_from_fits : (bytes : List ℕ) → ((i : ℕ) → Fits w8 (get_or bytes i 0)) → AreBytes bytes
bytes_from_fits bytes fits k d lt = let fit = (fits k).fits in let same = get_or_default bytes k d 0 lt in omega (arith, same, fit)
