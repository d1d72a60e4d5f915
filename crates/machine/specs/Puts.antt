-- Puts of the environment that come together, each after those before it: how many of them come.
use Rattle.std.specs.Prelude.{◌≡◌, ◌≤◌, ◌<◌, ◌⊎◌, ℕ, suc, List, [], ◌∷◌, length, take}
use Rattle.terms.specs.declared.event.Event.{Event}
use Rattle.terms.specs.declared.event.Event.TheVariants as event
use Rattle.terms.specs.Sets.{Facts}
use Rattle.graph.specs.Graph.{Graph}
use Rattle.machine.specs.State.{AreLegalFrom}

-- The answer to a look at some puts: the first `count` of them are legal, each after those before it, and with one more they are not. So it is the longest
-- legal prefix.
pub record PutsTogether (g : Graph) (X : Facts) (puts : List Event) (count : ℕ) : Type 0 where
  pub within : count ≤ length puts
  pub legal : AreLegalFrom g X (take count puts)
  pub most : count < length puts → AreLegalFrom g X (take (suc count) puts) → ⊥

-- both put an item at one address, or both put one tag
abbrev pub AreOfOne : Event → Event → Type 0
AreOfOne (event.EnvItem address value) (event.EnvItem other second) = address ≡ other
AreOfOne (event.EnvTag name) (event.EnvTag other) = name ≡ other
AreOfOne one two = ⊥

-- one of these puts is of the same item, or of the same tag
abbrev pub IsRepeated : List Event → Event → Type 0
IsRepeated [] put = ⊥
IsRepeated (first ∷ before) put = AreOfOne first put ⊎ IsRepeated before put
