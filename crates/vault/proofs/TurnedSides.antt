-- The side that a turnover writes stands for what the old one stands for, and the old one is behind it.
use Rattle.std.proofs.Common.{◌≡◌, ◌≢◌, inl, inr, ℕ, ◌+◌, ◌<◌, ◌^◌, List, [], ◌∷◌, length, refl, sym, subst, ◌∙◌, arith}
use Rattle.disk.specs.declared.side.Side.{Side}
use Rattle.disk.specs.declared.side.Side.TheVariants.{A, B}
use Rattle.disk.specs.Time.{Contents}
use Rattle.terms.specs.Sets.{Facts}
use Rattle.codec.specs.declared.image.Image.{Image}
use Rattle.codec.specs.Spelling.{image_bytes}
use Rattle.codec.specs.Image.{facts_in, environment_in, Lists}
use Rattle.graph.specs.Graph.{Graph}
use Rattle.graph.specs.Canonical.{canonical}
use Rattle.graph.specs.FitLaws.{StateAsSet}
use Rattle.sides.specs.Side.{IsSide, StandsWithGeneration, behind_gate, end_of}
use Rattle.sides.specs.SideLaws.{SideAsSet, SideFits, BeginsSide}
use Rattle.vault.specs.Calls.{SpellsFacts}
use Rattle.vault.specs.Stands.{IsBehind, IsLive, Stands, other_side}
use Rattle.vault.specs.Store.{new_side}
use Rattle.vault.specs.Turned.{MayTurn}
use Rattle.vault.proofs.GatesBytes.{not_open}
use Rattle.sides.specs.declared.gate.TheConstants.{FORMAT}

pub not_other : (side : Side) → side ≢ other_side side
not_other A e = cc
not_other B e = cc

-- a side of a generation is behind the next one
pub behind_next : StandsWithGeneration → (bytes : List ℕ) (g : Graph) (n : ℕ) (E X : Facts) → IsSide bytes g n E X → IsBehind bytes (n + 1)
behind_next stands bytes g n E X side = inr (n, stands bytes g n E X side, omega arith)

other_twice : (side : Side) → side ≡ other_side (other_side side)
other_twice A = refl
other_twice B = refl

-- the other side of the other side is the side itself
pub behind_other : (contents : Contents) (live : Side) (generation : ℕ) → IsBehind (contents live) generation → IsBehind (contents (other_side (other_side live))) generation
behind_other contents live generation = subst (λ (s : Side). IsBehind (contents s) generation) (other_twice live)

-- one side holds these facts, and the bytes spell an image of them
module _ (as_set : SideAsSet) (fits : SideFits) (begins : BeginsSide) (state_as_set : StateAsSet) (stands : StandsWithGeneration)
    (g : Graph) (E X : Facts) (bytes : List ℕ) (spells : SpellsFacts bytes E X) (short : length bytes < 2 ^ 32) where
  module _ (old : List ℕ) (n : ℕ) (small : n + 1 < 2 ^ 64) (side : IsSide old g n E X) where
    pub turned_side : (new : IsSide (new_side (n + 1) (canonical g) bytes) g (n + 1) E X) × (end_of new ≡ length (1 ∷ behind_gate FORMAT (n + 1) (canonical g) bytes []))
    turned_side = subst (λ (l : List ℕ). (new : IsSide (new_side (n + 1) (canonical g) l) g (n + 1) E X) × (end_of new ≡ length (1 ∷ behind_gate FORMAT (n + 1) (canonical g) l []))) (sym spells.1.1) spelled_side
      where
        image : Image
        image = spells.0

        lists : Lists image E X
        lists = spells.2

        spelled_side : (new : IsSide (new_side (n + 1) (canonical g) (image_bytes image)) g (n + 1) E X) × (end_of new ≡ length (1 ∷ behind_gate FORMAT (n + 1) (canonical g) (image_bytes image) []))
        spelled_side =
            let begun_side = begins g (n + 1) image small side.reads spells.1.0 (subst (λ (l : List ℕ). length l < 2 ^ 32) spells.1.1 short)
            (state_as_set g E (environment_in image) X (facts_in image) (λ fact. sym (lists.environment fact)) (λ fact. sym (lists.facts fact)) (fits old g n E X side)) in
            let same = as_set (new_side (n + 1) (canonical g) (image_bytes image)) g (n + 1) (environment_in image) E (facts_in image) X lists.environment lists.facts begun_side.0 in
            (same.0, same.1 ∙ begun_side.1)

  -- what a crash leaves while the other side is written
  pub passing : (contents : Contents) (live : Side) (n : ℕ) → n + 1 < 2 ^ 64 → IsLive contents live n g E X
      → (now : Contents) → now live ≡ contents live → MayTurn (contents (other_side live)) (new_side (n + 1) (canonical g) bytes) (now (other_side live)) → Stands now g E X
  passing contents live n small is_live now same turns = by turns
    where
      old_side : IsSide (now live) g n E X
      old_side = subst (λ (l : List ℕ). IsSide l g n E X) (sym same) is_live.is_side

      by : MayTurn (contents (other_side live)) (new_side (n + 1) (canonical g) bytes) (now (other_side live)) → Stands now g E X
      by (inl (inl as_was)) = (live, n, record { is_side = old_side; behind = subst (λ (l : List ℕ). IsBehind l n) (sym as_was) is_live.behind })
      by (inl (inr closed)) = (live, n, record { is_side = old_side; behind = inl (not_open (now (other_side live)) closed) })
      by (inr turned) =
          let new = turned_side (now live) n small old_side in (
            other_side live,
            n + 1,
            record {
              is_side = subst (λ (l : List ℕ). IsSide l g (n + 1) E X) (sym turned) new.0;
              behind = behind_other now live (n + 1) (behind_next stands (now live) g n E X old_side);
            },
          )
