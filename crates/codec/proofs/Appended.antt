-- Bytes that are appended to others.
use Rattle.std.proofs.Common.{◌≡◌, ◌+◌, ◌<◌, ◌≤◌, ℕ, List, [], ◌∷◌, ◌++◌, length, take, drop, get_or, sym, ap, refl, subst, zero, suc, ◌∙◌, arith}
use Rattle.std.specs.List.{flat_map, AllByRecursion}
use Rattle.std.proofs.lemmas.List.{length-append, take-take, take-append-le, take_all, take-append-drop, take_more, flat_map_more}

-- a prefix of what was kept was kept too
pub kept_in_front : (old more new : List ℕ) → take (length (old ++ more)) new ≡ old ++ more → take (length old) new ≡ old
kept_in_front old more new kept =
    let within : length old ≤ length (old ++ more) = omega (arith, length-append old more) in
    sym (take-take (length old) (length (old ++ more)) new within) ∙ ap (take (length old)) kept ∙ take-append-le (length old) old more (omega arith) ∙ take_all (length old) old (omega arith)

-- what one call keeps, and then another
pub kept_both : (old mid new : List ℕ) → take (length old) mid ≡ old → take (length mid) new ≡ mid → take (length old) new ≡ old
kept_both old mid new first second =
    let front : old ++ drop (length old) mid ≡ mid = ap (λ (l : List ℕ). l ++ drop (length old) mid) (sym first) ∙ take-append-drop (length old) mid in
    kept_in_front old (drop (length old) mid) new (rw front second)

-- one more element was appended
pub element_appended : {X : Type 0} (spelling : X → List ℕ) (front mid new : List ℕ) (xs : List X) (i : ℕ) (x : X) → i < length xs → x ≡ get_or xs i x
    → mid ≡ front ++ flat_map spelling (take i xs) → new ≡ mid ++ spelling x → new ≡ front ++ flat_map spelling (take (i + 1) xs)
element_appended spelling front mid new xs i x within is so_far appended =
    let grown : take (i + 1) xs ≡ take i xs ++ x ∷ [] = take_more xs i x within ∙ ap (λ y. take i xs ++ y ∷ []) (sym is) in
    appended ∙ ap (λ (bytes : List ℕ). bytes ++ spelling x) so_far ∙ flat_map_more spelling front (take i xs) x ∙ ap (λ ys. front ++ flat_map spelling ys) (sym grown)

-- an element within a list is the same, whatever would be taken beyond it
pub get_or_any : {X : Type 0} (xs : List X) (i : ℕ) (a b : X) → i < length xs → get_or xs i a ≡ get_or xs i b
get_or_any [] i a b within = absurd (omega (arith, within))
get_or_any (x ∷ xs) zero a b within = refl
get_or_any (x ∷ xs) (suc i) a b within = get_or_any xs i a b (omega (arith, within))

-- what all of the first elements have, and the next one
pub all_take : {X : Type 0} (P : X → Type 0) (xs : List X) (i : ℕ) (x : X) → i < length xs → x ≡ get_or xs i x → AllByRecursion P (take i xs) → P x → AllByRecursion P (take (suc i) xs)
all_take P [] i x within is all has = absurd (omega (arith, within))
all_take P (y ∷ xs) zero x within is all has = (subst P is has, tt)
all_take P (y ∷ xs) (suc i) x within is all has = (all.0, all_take P xs i x (omega (arith, within)) is all.1 has)
