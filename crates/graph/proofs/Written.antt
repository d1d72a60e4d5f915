-- The canonical text, one part after another.
use Rattle.std.proofs.Common.{◌≡◌, ◌+◌, ◌-◌, ◌<◌, ℕ, zero, suc, min, Bool, true, false, List, [], ◌∷◌, ◌++◌, length, map, get_or, drop, take, Option, Some, None, refl, sym, ap, subst, ◌∙◌, Result, OnOk, slice_get, arith, append_assoc, length-append}
use Rattle.std.proofs.Math.Seq.{drop-nil}
use Rattle.std.specs.Prelude.{codes, unwrap_or}
use Rattle.std.proofs.lemmas.Option.{unwrap_or-slice_get}
use Rattle.std.proofs.lemmas.List.{take_min, take-map, drop-map, take_rest}
use Rattle.std.specs.List.{flat_map, zip}
use Rattle.std.proofs.lemmas.List.{append-nil}
use Rattle.steptree.specs.Names.{Text}
use Rattle.graph.specs.Canonical.{line, marked, joined, with_colon, letters, component_names, declaration_lines, in_rounds, variables_line}
use Rattle.graph.specs.Collected.{collections_numbered}
use Rattle.graph.specs.Pieces.{indentation, where_marked, after_colon, declaration_at, where_there}
use Rattle.std.proofs.lemmas.List.Folds.{flat_map-map}

-- what is written, with what is still to come, stays the same
pub goes_on : (text piece left more whole new : Text) → new ≡ text ++ piece → left ≡ piece ++ more → text ++ left ≡ whole → new ++ more ≡ whole
goes_on text piece left more whole new is parts so = ap (λ (t : Text). t ++ more) is ∙ append_assoc text piece more ∙ sym (ap (λ (t : Text). text ++ t) parts) ∙ so

pub is_line : (level : ℕ) (text : Text) → line level text ≡ indentation level ++ text ++ codes "\n"
is_line zero text = refl
is_line (suc level) text = ap (λ (t : Text). codes "  " ++ t) (is_line level text)

-- a line has more bytes than levels
pub longer_than_its_level : (level : ℕ) (text : Text) → level < length (line level text)
longer_than_its_level zero [] = omega arith
longer_than_its_level zero (byte ∷ text) = omega arith
longer_than_its_level (suc level) text = let shorter : level < length (line level text) = longer_than_its_level level text in omega (arith, shorter)

-- and so has a text that ends in such a line
pub longer_behind : {level : ℕ} (text before : Text) {after : Text} → after ≡ before ++ line level text → level < length after
longer_behind {level} text before {after} is =
    let shorter : level < length (line level text) = longer_than_its_level level text in
    let parts : length after ≡ length before + length (line level text) = ap (λ (t : Text). length t) is ∙ length-append before (line level text) in
    omega (arith, shorter, parts)

pub one_level_more : (level : ℕ) → indentation (level + 1) ≡ indentation level ++ codes "  "
one_level_more level =
    let e : level + 1 ≡ suc level = omega arith in
    ap indentation e ∙ at_end level
  where
    at_end : (level : ℕ) → indentation (suc level) ≡ indentation level ++ codes "  "
    at_end zero = refl
    at_end (suc level) = ap (λ (t : Text). codes "  " ++ t) (at_end level)

-- ---- marks

marked_none : (names : List Text) → marked (zip names []) ≡ []
marked_none [] = refl
marked_none (name ∷ names) = refl

unmarked : (text : Text → Text) (name : Option Text) → where_marked text name false ≡ []
unmarked text None = refl
unmarked text (Some name) = refl

-- the text of the names that are left: that of the first of them, and that of those after it
pub marked_left : (text : Text → Text) (names : List Text) (marks : List Bool) (number : ℕ)
    → flat_map text (marked (zip (drop number names) (drop number marks)))
    ≡ where_marked text (slice_get names number) (get_or marks number false) ++ flat_map text (marked (zip (drop (number + 1) names) (drop (number + 1) marks)))
marked_left text [] marks number = simp drop-nil
marked_left text (name ∷ names) [] zero = simp marked_none
marked_left text (name ∷ names) [] (suc number) = simp (drop-nil, marked_none, unmarked)
marked_left text (name ∷ names) (true ∷ marks) zero = refl
marked_left text (name ∷ names) (false ∷ marks) zero = refl
marked_left text (name ∷ names) (mark ∷ marks) (suc number) = grind (arith, marked_left text names marks number)

-- ---- names and what follows them

pub colon_behind : (name : Text) (texts : List Text) → with_colon name texts ≡ name ++ after_colon texts
colon_behind name [] = sym (append-nil name)
colon_behind name (first ∷ more) = append_assoc name (codes ": ") (joined (first ∷ more))

-- the texts of the first `count` of these
taken : {X : Type 0} (text : X → Text) (count : ℕ) (xs : List X) → flat_map (λ (t : Text). t) (take count (map text xs)) ≡ flat_map text (take count xs)
taken text count xs = ap (flat_map (λ (t : Text). t)) (take-map text count xs) ∙ flat_map-map (λ (t : Text). t) text (take count xs)

pub letters_behind : (components : ℕ) → flat_map (λ (t : Text). t) (take components (codes ": i" ∷ map (λ t. codes ", " ++ t) (drop 1 letters))) ≡ after_colon (component_names components)
letters_behind zero = refl
letters_behind (suc more) = ap (λ (t : Text). codes ": i" ++ t) (taken (λ t. codes ", " ++ t) more (drop 1 letters))

-- the first letters, each after its colon or comma
letters_taken : {X : Type 0} (now : X → Text) (pieces : List X) (count components : ℕ) → count ≡ min components 8 → map now pieces ≡ codes ": i" ∷ map (λ t. codes ", " ++ t) (drop 1 letters)
    → flat_map now (take count pieces) ≡ after_colon (component_names components)
letters_taken now pieces count components few are =
    sym (taken now count pieces) ∙ ap (λ (l : List Text). flat_map (λ (t : Text). t) (take count l)) are
    ∙ ap (λ (n : ℕ). flat_map (λ (t : Text). t) (take n (codes ": i" ∷ map (λ t. codes ", " ++ t) (drop 1 letters)))) few
    ∙ ap (λ (l : List Text). flat_map (λ (t : Text). t) l) (take_min components (codes ": i" ∷ map (λ t. codes ", " ++ t) (drop 1 letters))) ∙ letters_behind components

pub letters_put : {T E X : Type 0} (now : X → Text) (pieces : List X) (count : ℕ) (result : Result T E) (text new : Text) (components : ℕ) → OnOk result (new ≡ text ++ flat_map now (take count pieces))
    → count ≡ min components 8 → map now pieces ≡ codes ": i" ∷ map (λ t. codes ", " ++ t) (drop 1 letters) → OnOk result (new ≡ text ++ after_colon (component_names components))
letters_put now pieces count result text new components wrote few are =
    subst (λ (t : Text). OnOk result (new ≡ text ++ t)) (letters_taken now pieces count components few are) wrote

-- nothing is written if there is no name
pub no_name : (text : Text) (names : List Text) (number : ℕ) → None ≡ slice_get names number → text ≡ text ++ get_or names number []
no_name text names number none =
    sym (ap (λ (t : Text). text ++ t) (sym (unwrap_or-slice_get names number []) ∙ ap (λ (o : Option Text). unwrap_or o []) (sym none)) ∙ append-nil text)

-- ---- declarations

pub declarations_left : (brackets : Text → Text) (collections : List (Text × ℕ)) (number : ℕ)
    → declaration_lines brackets (collections_numbered (drop number collections)) ≡ declaration_at brackets (slice_get collections number) ++ declaration_lines brackets (collections_numbered (drop (number + 1) collections))
declarations_left brackets [] number = simp drop-nil
declarations_left brackets (first ∷ collections) zero = refl
declarations_left brackets (first ∷ collections) (suc number) = grind (arith, declarations_left brackets collections number)

-- ---- steps

module _ {X : Type 0} (text_of : X → Text) where
  -- the first `count` names are the parameters
  pub heading : (text one two name : Text) (names : List X) (count : ℕ) → one ≡ text ++ line 0 (codes "step " ++ name ++ in_rounds (joined (map text_of (take count names))) ++ codes " {")
      → two ≡ one ++ variables_line (map text_of (take (length names - count) (drop count names)))
      → two ≡ text ++ (line 0 (codes "step " ++ name ++ in_rounds (joined (take count (map text_of names))) ++ codes " {") ++ variables_line (drop count (map text_of names)))
  heading text one two name names count first second =
      second ∙ ap (λ (l : List X). one ++ variables_line (map text_of l)) (take_rest names count)
      ∙ ap (λ (t : Text). t ++ variables_line (map text_of (drop count names))) first
      ∙ append_assoc text (line 0 (codes "step " ++ name ++ in_rounds (joined (map text_of (take count names))) ++ codes " {")) (variables_line (map text_of (drop count names)))
      ∙ (λ i. text ++ (line 0 (codes "step " ++ name ++ in_rounds (joined (sym (take-map text_of count names) i)) ++ codes " {") ++ variables_line (sym (drop-map text_of count names) i)))

-- ---- lists of which each element is written

-- the text of the elements that are left: that of the first of them, and that of those after it
pub steps_left : {X : Type 0} (text : X → Text) (steps : List X) (number : ℕ) → flat_map text (drop number steps) ≡ where_there text (slice_get steps number) ++ flat_map text (drop (number + 1) steps)
steps_left text [] number = simp drop-nil
steps_left text (step ∷ steps) zero = refl
steps_left text (step ∷ steps) (suc number) = grind (arith, steps_left text steps number)
