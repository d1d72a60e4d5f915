-- The names of a step and what they stand for.
use Rattle.std.specs.Prelude.{ℕ, zero, suc, Bool, true, false, ◌==◌, ◌&&◌, List, [], ◌∷◌, ◌++◌, map, Option, Some, None, option_map, if◌then◌else◌}
use Rattle.steptree.specs.Nameable.{Collection}
use Rattle.steptree.specs.declared.step.Name.{Name}
use Rattle.steptree.specs.declared.step.Step.{Step}

-- the bytes of a name
abbrev pub Text : Type 0
Text = List ℕ

-- whether two texts are equal
abbrev pub is_text : Text → Text → Bool
is_text [] [] = true
is_text [] (y ∷ ys) = false
is_text (x ∷ xs) [] = false
is_text (x ∷ xs) (y ∷ ys) = (x == y) && is_text xs ys

-- the first place of a text among others
abbrev pub place_of : List Text → Text → Option ℕ
place_of [] text = None
place_of (first ∷ rest) text = if is_text first text then Some zero else option_map suc (place_of rest text)

-- the names of a step by slot: the parameters, and after them the variables
abbrev pub names_of : Step → List Text
names_of step = map (λ name. name.text.now) (step.parameters.items ++ step.variables.items)

-- the names of collections
abbrev pub names_in : List Collection → List Text
names_in collections = map (λ collection. collection.name) collections

-- the slot of a variable
abbrev pub slot_of : List Text → Name → Option ℕ
slot_of names name = place_of names name.text.now

-- the number of a collection
abbrev pub number_of : List Collection → Name → Option ℕ
number_of collections name = place_of (names_in collections) name.text.now
