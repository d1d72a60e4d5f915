-- The order of keys, each seen as the list of its components.
use Rattle.std.specs.Prelude.{◌≡◌, ◌≢◌, ◌-◌, ℤ, pos, List, ◌∷◌, ◌++◌, length, replicate}
use Rattle.std.specs.declared.cmp.Ordering.{Ordering}
use Rattle.std.specs.declared.cmp.Ordering.TheVariants.{Less}
use Rattle.std.specs.Ordering.{int_cmp}
use Rattle.std.specs.Cmp.Lexicographic.{slice_cmp}
use Rattle.terms.specs.declared.key.TheConstants.{MAX_COMPONENTS}

-- the components, and zeros in the places after them
abbrev pub padded : List ℤ → List ℤ
padded components = components ++ replicate (MAX_COMPONENTS - length components) (pos 0)

-- component by component: the first two that differ decide, and a prefix comes before the longer key
abbrev pub key_cmp : List ℤ → List ℤ → Ordering
key_cmp = slice_cmp int_cmp

-- a key comes before every longer key that it is a prefix of
abbrev pub BeginningFirst : Type 0
BeginningFirst = (key : List ℤ) (next : ℤ) (rest : List ℤ) → key_cmp key (key ++ next ∷ rest) ≡ Less

-- the first two components that differ decide, whatever follows them
abbrev pub FirstDifferenceDecides : Type 0
FirstDifferenceDecides = (front : List ℤ) (x y : ℤ) (xs ys : List ℤ) → x ≢ y → key_cmp (front ++ x ∷ xs) (front ++ y ∷ ys) ≡ int_cmp x y
