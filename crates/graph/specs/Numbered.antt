-- Names with values, in the order of their numbers.
use Rattle.std.specs.Prelude.{ℕ, List, [], ◌∷◌, map, Option, Some, None, if◌then◌else◌}
use Rattle.steptree.specs.Names.{is_text}

-- the names alone
abbrev pub names_numbered : {V : Type 0} → List (List ℕ × V) → List (List ℕ)
names_numbered numbered = map (λ entry. entry.0) numbered

-- the value with a name
abbrev pub found : {V : Type 0} → List (List ℕ × V) → List ℕ → Option V
found [] text = None
found (entry ∷ entries) text = if is_text entry.0 text then Some entry.1 else found entries text
