-- One side is live, and it stands for one thing.
use Rattle.std.proofs.Common.{◌≡◌, ◌<◌, ℕ, List, inl, inr, sym, subst, arith}
use Rattle.disk.specs.declared.side.Side.{Side}
use Rattle.disk.specs.declared.side.Side.TheVariants.{A, B}
use Rattle.disk.specs.Time.{Contents}
use Rattle.terms.specs.Facts.{Fact}
use Rattle.terms.specs.Sets.{Facts}
use Rattle.graph.specs.Graph.{Graph}
use Rattle.sides.specs.Side.{IsSide, IsOpen, OneMeaning, StandsWithGeneration, OneGeneration, AnyRest}
use Rattle.vault.specs.Stands.{IsBehind, IsLive, Stands, AnyTail}

module _ (one_meaning : OneMeaning) (generation : StandsWithGeneration) (one_generation : OneGeneration) where
  is_open : (bytes : List ℕ) (g : Graph) (n : ℕ) (E X : Facts) → IsSide bytes g n E X → IsOpen bytes
  is_open bytes g n E X side = (_, side.spelled)

  -- a side that is behind a generation has a smaller one, if it stands for something
  smaller : (bytes : List ℕ) (g : Graph) (m n : ℕ) (E X : Facts) → IsSide bytes g m E X → IsBehind bytes n → m < n
  smaller bytes g m n E X side (inl closed) = absurd (closed (is_open bytes g m E X side))
  smaller bytes g m n E X side (inr it) = subst (λ (k : ℕ). k < n) (one_generation bytes it.0 m it.1 (generation bytes g m E X side)) it.2

  not_both : (one two : List ℕ) (g h : Graph) (m n : ℕ) (E F X Y : Facts) → IsSide one g m E X → IsBehind two m → IsSide two h n F Y → IsBehind one n → ⊥
  not_both one two g h m n E F X Y first behind second front =
      omega (arith, smaller two h n m F Y second behind, smaller one g m n E X first front)

  pub one_store : (contents : Contents) (g h : Graph) (E F X Y : Facts) → Stands contents g E X → Stands contents h F Y
      → (g ≡ h) × ((fact : Fact) → E fact ≡ F fact) × ((fact : Fact) → X fact ≡ Y fact)
  one_store contents g h E F X Y one two = of_live one.0 two.0 one.1 two.1 one.2 two.2
    where
      same : (side : Side) (m n : ℕ) → IsLive contents side m g E X → IsLive contents side n h F Y
          → (g ≡ h) × ((fact : Fact) → E fact ≡ F fact) × ((fact : Fact) → X fact ≡ Y fact)
      same side m n first second =
          let it = one_meaning (contents side) g h m n E F X Y first.is_side second.is_side in (it.graph, it.environment, it.facts)

      of_live : (side other : Side) (m n : ℕ) → IsLive contents side m g E X → IsLive contents other n h F Y
          → (g ≡ h) × ((fact : Fact) → E fact ≡ F fact) × ((fact : Fact) → X fact ≡ Y fact)
      of_live A A m n first second = same A m n first second
      of_live B B m n first second = same B m n first second
      of_live A B m n first second = absurd (not_both (contents A) (contents B) g h m n E F X Y first.is_side first.behind second.is_side second.behind)
      of_live B A m n first second = absurd (not_both (contents B) (contents A) g h m n E F X Y first.is_side first.behind second.is_side second.behind)

-- whatever bytes come after its journal's end, it stands for the same, while the other side is behind it
pub any_tail : AnyRest → AnyTail
any_tail any_rest contents g E X live generation it =
    let found = any_rest (contents live) g generation E X it.is_side in (
      found.0,
      found.1,
      found.2,
      found.3,
      λ other tail begins behind. record {
        is_side = subst (λ (bytes : List ℕ). IsSide bytes g generation E X) (sym begins) (found.4 tail);
        behind = behind;
      },
    )
