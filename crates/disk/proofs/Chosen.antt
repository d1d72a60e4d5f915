-- What a choice makes of a file is what a crash may leave of it.
use Rattle.std.proofs.Common.{◌≡◌, ℕ, zero, suc, ◌+◌, ◌<◌, Bool, true, false, List, [], ◌∷◌, ◌++◌, length, take, get_or, length-take, if◌then◌else◌, refl, sym, ap, subst, ◌∙◌, arith}
use Rattle.std.proofs.lemmas.List.{take_more}
use Rattle.std.specs.Prelude.{slice_get, Result, Ok, Err, IfOk, Vec}
use Rattle.std.specs.declared.alloc.Global.{Global}
use Rattle.disk.specs.declared.choice.Choice.{Choice}
use Rattle.disk.specs.declared.choice.Choice.TheVariants.{Synced, Written, Byte}
use Rattle.disk.specs.File.{File, IsByte, AreBytes, Agrees, MayLeave}
use Rattle.disk.specs.Choice.{painted, chosen}

-- one byte more
pub painted-push : (touched : ℕ → Bool) (byte from : ℕ) (bytes : List ℕ) (old : ℕ)
    → painted touched byte from (bytes ++ old ∷ []) ≡ painted touched byte from bytes ++ (if touched (from + length bytes) then byte else old) ∷ []
painted-push touched byte from [] old = ap (λ (n : ℕ). (if touched n then byte else old) ∷ []) (omega arith)
painted-push touched byte from (first ∷ bytes) old =
    ap (λ (list : List ℕ). (if touched from then byte else first) ∷ list)
    (painted-push touched byte (from + 1) bytes old
    ∙ ap (λ (n : ℕ). painted touched byte (from + 1) bytes ++ (if touched n then byte else old) ∷ []) (omega arith))

-- the first bytes, and the one after them
pub painted-more : (touched : ℕ → Bool) (byte : ℕ) (bytes : List ℕ) (at : ℕ) → at < length bytes
    → painted touched byte 0 (take (at + 1) bytes) ≡ painted touched byte 0 (take at bytes) ++ (if touched at then byte else get_or bytes at 0) ∷ []
painted-more touched byte bytes at within =
    ap (painted touched byte 0) (take_more bytes at 0 within) ∙ painted-push touched byte 0 (take at bytes) (get_or bytes at 0)
    ∙ ap (λ (n : ℕ). painted touched byte 0 (take at bytes) ++ (if touched n then byte else get_or bytes at 0) ∷ []) (omega (arith, length-take at bytes))

length-painted : (touched : ℕ → Bool) (byte from : ℕ) (bytes : List ℕ) → length (painted touched byte from bytes) ≡ length bytes
length-painted touched byte from [] = refl
length-painted touched byte from (old ∷ bytes) = ap suc (length-painted touched byte (from + 1) bytes)

pub painted_bytes : (touched : ℕ → Bool) (byte from : ℕ) (bytes : List ℕ) → IsByte byte → AreBytes bytes → AreBytes (painted touched byte from bytes)
painted_bytes touched byte from [] is are k d lt = absurd (omega arith)
painted_bytes touched byte from (old ∷ bytes) is are zero d lt = here (touched from)
  where
    here : (b : Bool) → IsByte (if b then byte else old)
    here true = is
    here false = are 0 0 (omega arith)
painted_bytes touched byte from (old ∷ bytes) is are (suc k) d lt = painted_bytes touched byte (from + 1) bytes is (λ j e within. are (suc j) e (omega arith)) k d (omega arith)

-- what is equal to bytes are bytes
pub bytes_of_same : {E : Type 0} (result : Result (Vec ℕ Global) E) (bytes : List ℕ) → AreBytes bytes → IfOk result (λ copy. copy.items ≡ bytes) → IfOk result (λ copy. AreBytes copy.items)
bytes_of_same (Ok copy) bytes are same = subst AreBytes (sym same) are
bytes_of_same (Err error) bytes are same = tt

painted_elsewhere : (touched : ℕ → Bool) (byte from : ℕ) (bytes : List ℕ) (at : ℕ) → touched (from + at) ≡ false → slice_get (painted touched byte from bytes) at ≡ slice_get bytes at
painted_elsewhere touched byte from [] at none = refl
painted_elsewhere touched byte from (old ∷ bytes) zero none =
    let here : touched from ≡ false = ap touched (omega arith) ∙ none in
    ap (λ (b : Bool). slice_get ((if b then byte else old) ∷ painted touched byte (from + 1) bytes) 0) here
painted_elsewhere touched byte from (old ∷ bytes) (suc at) none = painted_elsewhere touched byte (from + 1) bytes at (ap touched (omega arith) ∙ none)

module _ (file : File) (left : MayLeave file.durable file.content) where
  chosen_agrees : (choice : Choice) → Agrees file.durable.touched file.durable.synced (chosen choice file)
  chosen_agrees Synced = record { elsewhere = λ at none. refl; length_stays = λ none. refl }
  chosen_agrees Written = left.agrees
  chosen_agrees (Byte byte) = record {
    elsewhere = λ at none. painted_elsewhere file.durable.touched byte 0 file.content at (ap file.durable.touched (omega arith) ∙ none) ∙ left.agrees.elsewhere at none;
    length_stays = λ none. length-painted file.durable.touched byte 0 file.content ∙ left.agrees.length_stays none;
  }

  -- bytes that a choice makes of a file of which a crash may leave what reads give
  pub chosen_left : (choice : Choice) (bytes : List ℕ) → AreBytes bytes → bytes ≡ chosen choice file → MayLeave file.durable bytes
  chosen_left choice bytes are is = record {
    are_bytes = are;
    agrees = subst (λ (list : List ℕ). Agrees file.durable.touched file.durable.synced list) (sym is) (chosen_agrees choice);
  }
