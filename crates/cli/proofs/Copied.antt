-- A copy in memory of what a store was after the first of its commits.
use Rattle.std.proofs.Common.{◌≡◌, ◌⊎◌, ℕ, List, [], ◌∷◌, Option, inl, inr, refl, sym, subst, ◌∙◌}
use Rattle.disk.specs.declared.mem_disk.MemDisk.{MemDisk}
use Rattle.disk.specs.declared.side.Side.TheVariants.{A, B}
use Rattle.disk.specs.Time.{Contents}
use Rattle.terms.specs.Sets.{Facts}
use Rattle.graph.specs.Graph.{Graph}
use Rattle.commit.specs.Core.{Core, environment, facts, graph}
use Rattle.sides.specs.First.{HasFirst, environment_then, facts_then}
use Rattle.sides.specs.Side.{IsOpen, IsSide}
use Rattle.vault.specs.declared.reading.LiveSide.{LiveSide}
use Rattle.vault.specs.LiveSides.{IsLiveSide, IsSideOf, StoodAfter}
use Rattle.vault.specs.Stands.{OneStore, Stands}
use Rattle.report.specs.declared.format.Format.{Format}
use Rattle.cli.specs.Copies.{IsCopyAfter}
use Rattle.cli.specs.Obeyed.{WritesReport}
use Rattle.cli.specs.declared.outcome.Failure.TheVariants as failure
use Rattle.cli.specs.declared.outcome.Outcome.{Outcome}
use Rattle.cli.specs.declared.outcome.Outcome.TheVariants.{Failed}

-- no file without bytes is open
not_open : (bytes : List ℕ) → bytes ≡ [] → IsOpen bytes → ⊥
not_open bytes none opened = starts opened.0 (sym none ∙ opened.1)
  where
    starts : (rest : List ℕ) → ◌≡◌ {A = List ℕ} [] (1 ∷ rest) → ⊥
    starts rest same = cc

-- a file with the bytes of a side, beside one without bytes, stands for what the side stands for
copy_stands : (contents : Contents) (bytes : List ℕ) (g : Graph) (n : ℕ) (E X : Facts) → contents A ≡ bytes → contents B ≡ [] → IsSide bytes g n E X → Stands contents g E X
copy_stands contents bytes g n E X a b side =
    (A, n, record { is_side = subst (λ (list : List ℕ). IsSide list g n E X) (sym a) side; behind = inl (not_open (contents B) b) })

-- a core that found those files has what the side had after its first commits
pub is_copy : OneStore → {D : Type 0} (copy : Core D) (contents : Contents) (count : ℕ) (live : LiveSide) (first : List ℕ) (read : IsSideOf live) → HasFirst count read.is_side first
    → contents A ≡ first → contents B ≡ [] → Stands contents (graph copy) (environment copy) (facts copy) → IsCopyAfter count read copy
is_copy one copy contents count live first read has a b stands =
    let E : Facts = environment_then count read.is_side in
    let X : Facts = facts_then count read.is_side in
    let there = copy_stands contents first live.graph read.generation E X a b has.is_side in
    let same = one contents (graph copy) live.graph (environment copy) E (facts copy) X stands there in
    record { graph = same.0; environment = λ i fact. same.1 fact i; facts = λ i fact. same.2 fact i }

-- ---- the store that was copied

-- a side of the same bytes, with the same first commits
carried : (other bytes : List ℕ) → other ≡ bytes → (g : Graph) (n : ℕ) (E X : Facts) (count : ℕ) (side : IsSide bytes g n E X)
    → (it : IsSide other g n E X) × (environment_then count side ≡ environment_then count it) × (facts_then count side ≡ facts_then count it)
carried other bytes same g n E X count side =
    subst (λ (list : List ℕ). (it : IsSide list g n E X) × (environment_then count side ≡ environment_then count it) × (facts_then count side ≡ facts_then count it)) (sym same) (side, refl, refl)

-- of a store whose live side was read, the copy has what the store had after its first commits
pub stood_after : {D : Type 0} (copy : Core D) (contents : Contents) (count : ℕ) (live : LiveSide) (found : IsLiveSide contents live) → IsCopyAfter count found.read copy
    → StoodAfter count contents (graph copy) (environment copy) (facts copy)
stood_after copy contents count live found is =
    let read = found.read in
    let it = carried (contents found.side) live.bytes.items found.bytes live.graph read.generation read.environment read.facts count read.is_side in
    subst (λ (g : Graph). StoodAfter count contents g (environment copy) (facts copy)) (sym is.graph)
    (record {
      live = found.side;
      generation = read.generation;
      environment_now = read.environment;
      facts_now = read.facts;
      is_live = record { is_side = it.0; behind = found.behind };
      environment = is.environment ∙ it.1;
      facts = is.facts ∙ it.2;
    })

pub reports_at : (honest : Type 0) (contents : Contents) (count : ℕ) (live : LiveSide) (format : Format) (before behind : Option (List ℕ)) (outcome : Outcome) → (honest → IsLiveSide contents live)
    → ((copy : Core MemDisk) × ((read : IsSideOf live) → IsCopyAfter count read copy) × WritesReport copy format before behind outcome) ⊎ ((outcome ≡ Failed failure.NoMemory) × (behind ≡ before))
    → ((copy : Core MemDisk) × (honest → StoodAfter count contents (graph copy) (environment copy) (facts copy)) × WritesReport copy format before behind outcome) ⊎ ((outcome ≡ Failed failure.NoMemory) × (behind ≡ before))
reports_at honest contents count live format before behind outcome found (inl it) = inl (it.0, λ on. stood_after it.0 contents count live (found on) (it.1 (found on).read), it.2)
reports_at honest contents count live format before behind outcome found (inr refused) = inr refused
