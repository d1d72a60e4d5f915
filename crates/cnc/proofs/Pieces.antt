-- A buffer that is filled piece by piece.
use Rattle.std.proofs.Common.{◌≡◌, ◌≤◌, ◌+◌, ◌-◌, ◌∙◌, ◌++◌, ℕ, List, length, take, drop, ap, sym, arith, length-take, length-drop}
use Rattle.std.proofs.Math.Seq.{take-add}
use Rattle.std.proofs.lemmas.List.{drop-drop}
use Rattle.std.proofs.lemmas.Slice.{take-put_mid}
use borrow.Rule.Slice.PartMut.{put_mid}

-- the front of a buffer is what a file has from a position on, and the next piece is what the file has then: so is a longer front
pub front_grows : (content held piece : List ℕ) (at from count : ℕ) → from + count ≤ length held → at + (from + count) ≤ length content
    → take from held ≡ take from (drop at content) → piece ≡ take (length (take (from + count - from) (drop from held))) (drop (at + from) content)
    → take (from + count) (put_mid from (from + count - from) held piece) ≡ take (from + count) (drop at content)
front_grows content held piece at from count fits there front given =
    let room : length (take (from + count - from) (drop from held)) ≡ count = omega (arith, length-take (from + count - from) (drop from held), length-drop from held) in
    let same : piece ≡ take count (drop (at + from) content) = given ∙ ap (λ (n : ℕ). take n (drop (at + from) content)) room in
    let all : length (take count (drop (at + from) content)) ≡ count = omega (arith, length-take count (drop (at + from) content), length-drop (at + from) content) in
    let long : length piece ≡ count = ap (λ (list : List ℕ). length list) same ∙ all in
    take-put_mid from (from + count - from) held piece (from + count) (omega (arith, long)) (omega (arith, fits))
    ∙ ap (λ (list : List ℕ). list ++ piece) front
    ∙ ap (λ (list : List ℕ). take from (drop at content) ++ list) (same ∙ ap (λ (list : List ℕ). take count list) (sym (drop-drop from at content)))
    ∙ sym (take-add from count (drop at content))
