-- What the two files of a store stand for.
use Rattle.std.specs.Prelude.{◌≡◌, ◌⊎◌, ◌<◌, ◌+◌, ◌++◌, ℕ, List, length}
use Rattle.disk.specs.declared.side.Side.{Side}
use Rattle.disk.specs.declared.side.Side.TheVariants.{A, B}
use Rattle.disk.specs.Time.{Contents}
use Rattle.terms.specs.Sets.{Facts}
use Rattle.graph.specs.Graph.{Graph}
use Rattle.terms.specs.Facts.{Fact}
use Rattle.sides.specs.Side.{IsSide, IsOpen, HasGeneration, end_of}

abbrev pub other_side : Side → Side
other_side A = B
other_side B = A

-- the side is closed, or open with a smaller generation
abbrev pub IsBehind : List ℕ → ℕ → Type 0
IsBehind bytes generation = (IsOpen bytes → ⊥) ⊎ ((smaller : ℕ) × HasGeneration bytes smaller × (smaller < generation))

-- the live side, of this generation, stands for a graph and facts, and the other one is closed or has a smaller generation
pub record IsLive (contents : Contents) (live : Side) (generation : ℕ) (g : Graph) (E X : Facts) : Type 0 where
  pub is_side : IsSide (contents live) g generation E X
  pub behind : IsBehind (contents (other_side live)) generation

-- the two files stand for a graph and the facts X, of which the environment put E
abbrev pub Stands : Contents → Graph → Facts → Facts → Type 0
Stands contents g E X = (live : Side) × (generation : ℕ) × IsLive contents live generation g E X

-- ---- laws

-- two files stand for at most one graph and one set of facts
abbrev pub OneStore : Type 0
OneStore = (contents : Contents) (g h : Graph) (E F X Y : Facts) → Stands contents g E X → Stands contents h F Y
    → (g ≡ h) × ((fact : Fact) → E fact ≡ F fact) × ((fact : Fact) → X fact ≡ Y fact)

-- after the closed gate that ends the live side's journal any bytes may come; the other file may have any that are behind the live side
abbrev pub AnyTail : Type 0
AnyTail = (contents : Contents) (g : Graph) (E X : Facts) (live : Side) (generation : ℕ) (it : IsLive contents live generation g E X)
    → (front : List ℕ) × (rest : List ℕ) × (contents live ≡ front ++ rest) × (length front ≡ end_of it.is_side + 1)
    × ((other : Contents) (tail : List ℕ) → other live ≡ front ++ tail → IsBehind (other (other_side live)) generation → IsLive other live generation g E X)
