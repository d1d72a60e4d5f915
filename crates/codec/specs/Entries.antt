-- What an image lists, and the orders of its lists.
use Rattle.std.specs.Prelude.{◌≡◌, ⊤, ℤ, Bool, List, [], ◌∷◌}
use Rattle.std.specs.declared.cmp.Ordering.{Ordering}
use Rattle.std.specs.declared.cmp.Ordering.TheVariants.{Less}
use Rattle.terms.specs.declared.name.Addr.{Addr}
use Rattle.terms.specs.declared.name.Tag.{Tag}
use Rattle.terms.specs.declared.producer.Producer.{Producer}
use Rattle.terms.specs.Name.{addr_cmp, tag_cmp}

-- an address, its value, and who put it
abbrev pub Item : Type 0
Item = Addr × ℤ × Producer

-- a tag, and whether the environment put it
abbrev pub MarkedTag : Type 0
MarkedTag = Tag × Bool

abbrev pub item_cmp : Item → Item → Ordering
item_cmp a b = addr_cmp a.0 b.0

abbrev pub marked_cmp : MarkedTag → MarkedTag → Ordering
marked_cmp a b = tag_cmp a.0 b.0

-- each element comes before the next
abbrev pub Rises : {X : Type 0} → (X → X → Ordering) → List X → Type 0
Rises cmp [] = ⊤
Rises cmp (x ∷ []) = ⊤
Rises cmp (x ∷ y ∷ rest) = (cmp x y ≡ Less) × Rises cmp (y ∷ rest)
