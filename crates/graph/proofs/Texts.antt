-- When two texts are equal; the place of a text in a list of names, and the names of entries; texts all of whose bytes are below 128.
use Rattle.std.proofs.Common.{◌≡◌, Bool, true, ◌&&◌, [], ◌∷◌, refl, sym, ap, ◌∙◌, ℕ, zero, suc, ◌+◌, false, List, map, Some, Option, arith, slice_get, None, subst, ◌<◌, length, get_or, lit<}
use Rattle.std.specs.Prelude.{◌==◌, option_map, position}
use Rattle.std.specs.Str.{bytes_eq, IsAscii}
use Rattle.std.specs.Cmp.Lexicographic.{nat_list_eq_equiv}
use Rattle.std.proofs.lemmas.Slice.Eq.{bytes_eq-Decides}
use Rattle.steptree.specs.Names.{Text, is_text, place_of}
use Rattle.std.specs.List.{position_from, IsDistinct}
use Rattle.std.proofs.lemmas.Iterator.Adapters.{position_from-zero}
use Rattle.graph.proofs.Lists.{each_found, each_mapped}
use Rattle.std.specs.Map.{keys_of, lookup}
use Rattle.graph.specs.Numbered.{names_numbered, found}

pub texts_are_bytes : (one two : Text) → is_text one two ≡ bytes_eq one two
texts_are_bytes [] [] = refl
texts_are_bytes [] (y ∷ ys) = refl
texts_are_bytes (x ∷ xs) [] = refl
texts_are_bytes (x ∷ xs) (y ∷ ys) = ap (λ (rest : Bool). (x == y) && rest) (texts_are_bytes xs ys)

pub same_both_ways : (one two : Text) → is_text one two ≡ is_text two one
same_both_ways one two = texts_are_bytes one two ∙ nat_list_eq_equiv.symm one two ∙ sym (texts_are_bytes two one)

pub one_text : (one two : Text) → is_text one two ≡ true → one ≡ two
one_text one two same = (bytes_eq-Decides one two).0 (sym (texts_are_bytes one two) ∙ same)

pub itself : (text : Text) → is_text text text ≡ true
itself text = texts_are_bytes text text ∙ nat_list_eq_equiv.refl text

-- an option of a place, moved on by this number of places
abbrev pub further : ℕ → Option ℕ → Option ℕ
further count place = option_map (λ k. count + k) place

module _ {X : Type 0} (name : X → Text) (text : Text) where
  from_there : (keys : List X) (index : ℕ) → position_from (λ key. bytes_eq text (name key)) index keys ≡ further index (place_of (map name keys) text)
  from_there [] index = refl
  from_there (key ∷ keys) index = grind (arith, texts_are_bytes text (name key), same_both_ways text (name key), from_there keys (index + 1))

  -- the position at which the bytes are found is the place of the text
  pub position_is_place : (keys : List X) → position (λ key. bytes_eq text (name key)) keys ≡ place_of (map name keys) text
  position_is_place keys = position_from-zero (λ key. bytes_eq text (name key)) keys ∙ from_there keys 0 ∙ at_zero (place_of (map name keys) text)
    where
      at_zero : (place : Option ℕ) → further 0 place ≡ place
      at_zero place = grind arith

-- the name at a place is not the same as any before it
pub own_place : (names : List Text) (number : ℕ) (text : Text) → IsDistinct bytes_eq names → slice_get names number ≡ Some text → place_of names text ≡ Some number
unfolding IsDistinct
own_place [] number text distinct there = absurd (cc)
own_place (name ∷ names) zero text distinct there = grind (arith, itself name)
own_place (name ∷ names) (suc number) text distinct there =
    grind (arith, texts_are_bytes name text, each_found (λ y. bytes_eq name y ≡ false) names number text there distinct.0, own_place names number text distinct.1 there)

module _ {K : Type 0} (text : K → Text) where
  pub distinct_names : (keys : List K) → IsDistinct (λ one two. bytes_eq (text one) (text two)) keys → IsDistinct bytes_eq (map text keys)
  unfolding IsDistinct
  distinct_names [] distinct = tt
  distinct_names (key ∷ keys) distinct = (each_mapped (λ other. bytes_eq (text key) other ≡ false) text keys distinct.0, distinct_names keys distinct.1)

module _ {K V : Type 0} (text : K → Text) where
  abbrev pub seen : List (K × V) → List (Text × V)
  seen entries = map (λ entry. (text entry.0, entry.1)) entries

  pub names_seen : (entries : List (K × V)) → names_numbered (seen entries) ≡ map text (keys_of entries)
  names_seen [] = refl
  names_seen (entry ∷ entries) = ap (λ names. text entry.0 ∷ names) (names_seen entries)

  -- the position at which the bytes are found is the number of the name
  pub position_of_name : (entries : List (K × V)) (name : Text) → position (λ key. bytes_eq name (text key)) (keys_of entries) ≡ place_of (names_numbered (seen entries)) name
  position_of_name entries name = position_is_place text name (keys_of entries) ∙ ap (λ (names : List Text). place_of names name) (sym (names_seen entries))

  -- the name of the entry with a number
  name_there : (entries : List (K × V)) (number : ℕ) → slice_get (names_numbered (seen entries)) number ≡ option_map (λ entry. text entry.0) (slice_get entries number)
  name_there [] number = refl
  name_there (entry ∷ entries) zero = refl
  name_there (entry ∷ entries) (suc number) = name_there entries number

  pub name_of_entry : (entries : List (K × V)) (number : ℕ) (entry : K × V) → Some entry ≡ slice_get entries number → Some (text entry.0) ≡ slice_get (names_numbered (seen entries)) number
  name_of_entry entries number entry there = ap (option_map (λ entry. text entry.0)) there ∙ sym (name_there entries number)

  pub no_name : (entries : List (K × V)) (number : ℕ) → None ≡ slice_get entries number → None ≡ slice_get (names_numbered (seen entries)) number
  no_name entries number none = ap (option_map (λ entry. text entry.0)) none ∙ sym (name_there entries number)

  -- an entry with a number has a name that no other entry has
  pub once : (entries : List (K × V)) (number : ℕ) (entry : K × V) → IsDistinct (λ one two. bytes_eq (text one) (text two)) (keys_of entries) → slice_get entries number ≡ Some entry
      → place_of (names_numbered (seen entries)) (text entry.0) ≡ Some number
  once entries number entry distinct there =
      let names = distinct_names text (keys_of entries) distinct in
      let here : slice_get (names_numbered (seen entries)) number ≡ Some (text entry.0) = name_there entries number ∙ ap (option_map (λ entry. text entry.0)) there in
      own_place (names_numbered (seen entries)) number (text entry.0) (subst (IsDistinct bytes_eq) (sym (names_seen entries)) names) here

  -- the lookup of a text that is no name finds nothing
  pub absent : (entries : List (K × V)) (name : K) → place_of (names_numbered (seen entries)) (text name) ≡ None → lookup (λ key. bytes_eq (text name) (text key)) entries ≡ None
  absent [] name none = refl
  absent (entry ∷ entries) name none = grind (arith, texts_are_bytes (text name) (text entry.0), same_both_ways (text name) (text entry.0), absent entries name)

  -- a lookup finds the value with that name
  pub looked_up : (entries : List (K × V)) (name : Text) → lookup (λ key. bytes_eq name (text key)) entries ≡ found (seen entries) name
  looked_up [] name = refl
  looked_up (entry ∷ entries) name = grind (arith, texts_are_bytes name (text entry.0), same_both_ways name (text entry.0), looked_up entries name)

pub everywhere : (bytes : List ℕ) → ((index : ℕ) → index < length bytes → get_or bytes index 0 < 128) → IsAscii bytes
everywhere [] below index = lit< tt
everywhere (first ∷ bytes) below zero = below 0 (omega arith)
everywhere (first ∷ bytes) below (suc index) = everywhere bytes (λ other less. below (suc other) (omega (arith, less))) index
