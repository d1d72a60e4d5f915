-- From values that are read as they are spelled, whatever follows, to the laws of whole spellings.
use Rattle.std.proofs.Common.{◌≡◌, ℕ, List, [], ◌∷◌, Result, Ok, Err, refl, sym, ap, ◌∙◌}
use Rattle.std.proofs.lemmas.List.{append-nil}
use Rattle.codec.specs.declared.error.CodecError.{CodecError}
use Rattle.codec.specs.Laws.{ReadsBack, SpellsOne, BeginsNoOther}
use Rattle.codec.specs.Reading.{Reading, all_used, whole}
use Rattle.codec.proofs.Agreeing.{Agrees, exactly, same_read}

-- a value that was read from all of the bytes left nothing
pub nothing_left : {V : Type 0} (v value : V) (rest : List ℕ) → all_used v rest ≡ Ok value → (v ≡ value) × (rest ≡ [])
nothing_left v value [] is = (cc, refl)
nothing_left v value (byte ∷ rest) is = absurd (cc)

was_whole : {V : Type 0} (read : Result (V × List ℕ) CodecError) (value : V) → whole read ≡ Ok value → read ≡ Ok (value, [])
was_whole {V = V} (Ok read) value is =
    let left = nothing_left read.0 value read.1 is in
    let same : (let one : Result (V × List ℕ) CodecError = Ok (read.0, read.1) in one) ≡ Ok (value, []) = ap (λ v. Ok (v, read.1)) left.0 ∙ ap (λ rest. Ok (value, rest)) left.1 in
    same
was_whole (Err error) value is = absurd (cc)

module _ {V : Type 0} (Is : V → Type 0) (spelling : V → List ℕ) (reading : Reading V) (agrees : Agrees Is spelling reading) where
  whole_back : (v : V) → Is v → reading (spelling v) ≡ Ok (v, [])
  whole_back v is = ap reading (sym (append-nil (spelling v))) ∙ agrees.back v [] is

  pub reads_back : ReadsBack Is spelling (λ bytes. whole (reading bytes))
  reads_back = record {
    spelled = λ v is. ap whole (whole_back v is);
    only = λ bytes v are is. let found = exactly Is spelling reading agrees bytes v [] are (was_whole (reading bytes) v is) in (found.0, found.1 ∙ append-nil (spelling v));
  }

  pub spells_one : SpellsOne (λ bytes v. Is v × (bytes ≡ spelling v))
  spells_one bytes one two first second =
      let same = same_read one two [] [] (sym (whole_back one first.0) ∙ ap reading (sym first.1 ∙ second.1) ∙ whole_back two second.0) in
      same.0

  pub begins_no_other : BeginsNoOther Is spelling
  begins_no_other one two rest is_one is_two begins =
      let same = same_read one two rest [] (sym (agrees.back one rest is_one) ∙ ap reading begins ∙ whole_back two is_two) in
      same.1
