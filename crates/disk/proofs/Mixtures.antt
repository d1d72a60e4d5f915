-- What a crash may leave after several writes and cuts with no sync between.
use Rattle.std.proofs.Common.{◌≡◌, ◌≢◌, ◌⊎◌, inl, inr, ℕ, zero, suc, ◌≤◌, ◌<◌, Bool, true, false, ◌||◌, List, [], ◌∷◌, length, get_or, refl, sym, ap, subst, ◌∙◌, arith}
use Rattle.std.specs.Prelude.{slice_get, Some}
use Rattle.std.proofs.Math.ListN.{set, length-set}
use Rattle.std.proofs.lemmas.Bool.{cases_lt, cases_Bool, or_parts, or_from, or_right, false≢true}
use Rattle.std.proofs.lemmas.Option.{slice_get-get_or, slice_get_past}
use Rattle.std.proofs.lemmas.List.Elements.{All-set}
use Rattle.disk.specs.File.{Durable, IsByte, AreBytes, MayLeave, touching}
use Rattle.disk.specs.Laws.{HasFrom}

slice_get-set_same : (xs : List ℕ) (i v : ℕ) → i < length xs → slice_get (set xs i v) i ≡ Some v
slice_get-set_same [] i v lt = absurd (omega arith)
slice_get-set_same (x ∷ xs) zero v lt = refl
slice_get-set_same (x ∷ xs) (suc i) v lt = slice_get-set_same xs i v (omega arith)

slice_get-set_other : (xs : List ℕ) (i j v : ℕ) → j ≢ i → slice_get (set xs i v) j ≡ slice_get xs j
slice_get-set_other [] i j v differs = refl
slice_get-set_other (x ∷ xs) zero zero v differs = absurd (differs refl)
slice_get-set_other (x ∷ xs) zero (suc j) v differs = refl
slice_get-set_other (x ∷ xs) (suc i) zero v differs = refl
slice_get-set_other (x ∷ xs) (suc i) (suc j) v differs = slice_get-set_other xs i j v (λ same. differs (ap suc same))

module _ (d : Durable) (first second : ℕ → Bool) (bytes : List ℕ) (long : length bytes ≡ length d.synced) where
  -- one of the two may leave what these bytes have at a position
  abbrev Has : ℕ → Type 0
  Has at = HasFrom (touching first d) bytes at ⊎ HasFrom (touching second d) bytes at

  agrees_at : (at : ℕ) → Has at → (d.touched at || first at || second at) ≡ false → slice_get bytes at ≡ slice_get d.synced at
  agrees_at at (inl has) none = has.3 ∙ has.1.agrees.elsewhere at (or_parts (d.touched at || first at) (second at) none).0
  agrees_at at (inr has) none =
      let parts = or_parts (d.touched at || first at) (second at) none in
      has.3 ∙ has.1.agrees.elsewhere at (or_from (d.touched at) (second at) (or_parts (d.touched at) (first at) parts.0).0 parts.1)

  byte_of : (left : List ℕ) (at e : ℕ) → AreBytes left → length left ≡ length bytes → at < length bytes → slice_get bytes at ≡ slice_get left at → IsByte (get_or bytes at e)
  byte_of left at e are same_length lt same =
      let has = slice_get-get_or bytes at e lt in
      let had = slice_get-get_or left at e (omega arith) in
      let value : get_or bytes at e ≡ get_or left at e = cc in
      subst IsByte (sym value) (are at e (omega arith))

  byte_at : (at e : ℕ) → at < length bytes → Has at → IsByte (get_or bytes at e)
  byte_at at e lt (inl has) = byte_of has.0 at e has.1.are_bytes has.2 lt has.3
  byte_at at e lt (inr has) = byte_of has.0 at e has.1.are_bytes has.2 lt has.3

  pub mixture_left : ((at : ℕ) → at < length bytes → Has at) → MayLeave (touching second (touching first d)) bytes
  mixture_left has = record {
    are_bytes = λ at e lt. byte_at at e lt (has at lt);
    agrees = record { elsewhere = λ at none. by at (cases_lt at (length bytes)) none; length_stays = λ h. long };
  }
    where
      by : (at : ℕ) → (at < length bytes) ⊎ (length bytes ≤ at) → (d.touched at || first at || second at) ≡ false → slice_get bytes at ≡ slice_get d.synced at
      by at (inl lt) none = agrees_at at (has at lt) none
      by at (inr le) none = slice_get_past bytes at le ∙ sym (slice_get_past d.synced at (omega arith))

  -- the synced bytes, changed at one touched position to what these bytes have there
  one_changed : (touches : ℕ → Bool) (at : ℕ) → AreBytes d.synced → AreBytes bytes → at < length bytes → (d.touched at || touches at) ≡ true → HasFrom (touching touches d) bytes at
  one_changed touches at were are lt touched =
      let byte = get_or bytes at 0 in (
        set d.synced at byte,
        record {
          are_bytes = All-set IsByte d.synced at byte (are at 0 lt) were;
          agrees = record {
            elsewhere = λ other none. slice_get-set_other d.synced at other byte (λ same. false≢true (sym none ∙ ap (λ (n : ℕ). d.touched n || touches n) same ∙ touched));
            length_stays = λ h. length-set d.synced at byte;
          };
        },
        length-set d.synced at byte ∙ sym long,
        slice_get-get_or bytes at 0 lt ∙ sym (slice_get-set_same d.synced at byte (omega arith)),
      )

  pub mixture_has : AreBytes d.synced → MayLeave (touching second (touching first d)) bytes → (at : ℕ) → at < length bytes → Has at
  mixture_has were left at lt = by (cases_Bool (d.touched at || first at)) (cases_Bool (second at))
    where
      by : ((d.touched at || first at) ≡ true) ⊎ ((d.touched at || first at) ≡ false) → (second at ≡ true) ⊎ (second at ≡ false) → Has at
      by (inl touched) also = inl (one_changed first at were left.are_bytes lt touched)
      by (inr none) (inl touched) = inr (one_changed second at were left.are_bytes lt (or_right (d.touched at) (second at) touched))
      by (inr none) (inr neither) = inl (
        d.synced,
        record { are_bytes = were; agrees = record { elsewhere = λ other h. refl; length_stays = λ h. refl } },
        sym long,
        left.agrees.elsewhere at (or_from (d.touched at || first at) (second at) none neither),
      )
