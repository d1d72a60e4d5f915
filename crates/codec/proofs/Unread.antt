-- A list that is read element by element is read as the whole list is.
use Rattle.std.specs.Prelude.{if◌then◌else◌}
use Rattle.std.proofs.Common.{◌≡◌, ◌∙◌, ap, refl, ℕ, zero, suc, Bool, true, false, List, ◌∷◌, Option, Some, Result, Ok, Err}
use Rattle.std.specs.declared.cmp.Ordering.{Ordering}
use Rattle.codec.specs.declared.error.CodecError.{CodecError}
use Rattle.codec.specs.declared.error.CodecError.TheVariants.{Order}
use Rattle.codec.specs.Lists.{ListRead, from_first, led_by, read_of, stops, unread, with_end}
use Rattle.codec.specs.Reading.{Reading, always, comes_after, fails, go_on, next, rising}

module _ {X : Type 0} (cmp : X → X → Ordering) (element : Reading X) where
  behind_first : (x : X) (elements : List X) (ends : Result (List ℕ) CodecError) → with_end (x ∷ elements) ends ≡ go_on (with_end elements ends) (λ xs. always (x ∷ xs))
  behind_first x elements (Ok rest) = refl
  behind_first x elements (Err error) = refl

  pub read_whole : (count : ℕ) (before : Option X) (bytes : List ℕ) → read_of (unread cmp element before count bytes) ≡ rising cmp element before count bytes
  read_whole zero before bytes = refl
  read_whole (suc count) before bytes = by_first (element bytes) (λ x rest. read_whole count (Some x) rest)
    where
      by_order : (x : X) (rest : List ℕ) (follows : Bool) → read_of (unread cmp element (Some x) count rest) ≡ rising cmp element (Some x) count rest
          → read_of (if follows then led_by x (unread cmp element (Some x) count rest) else stops Order)
          ≡ (if follows then next (rising cmp element (Some x) count) (λ xs. always (x ∷ xs)) else fails Order) rest
      by_order x rest true others = behind_first x (unread cmp element (Some x) count rest).elements (unread cmp element (Some x) count rest).ends ∙ ap (λ (r : ListRead X). go_on r (λ xs. always (x ∷ xs))) others
      by_order x rest false others = refl

      by_first : (first : Result (X × List ℕ) CodecError) → ((x : X) (rest : List ℕ) → read_of (unread cmp element (Some x) count rest) ≡ rising cmp element (Some x) count rest)
          → read_of (from_first first (λ x rest. if comes_after cmp before x then led_by x (unread cmp element (Some x) count rest) else stops Order))
          ≡ go_on first (λ x. if comes_after cmp before x then next (rising cmp element (Some x) count) (λ xs. always (x ∷ xs)) else fails Order)
      by_first (Ok read) others = by_order read.0 read.1 (comes_after cmp before read.0) (others read.0 read.1)
      by_first (Err error) others = refl
