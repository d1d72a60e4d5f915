-- Which side is live, by the generations of both, and when neither is.
use Rattle.std.proofs.Common.{◌≡◌, ◌<◌, ℕ, List, inl, inr, length, sym, ap, subst, ◌∙◌, arith}
use Rattle.disk.specs.declared.side.Side.{Side}
use Rattle.disk.specs.declared.side.Side.TheVariants.{A, B}
use Rattle.disk.specs.Time.{Contents}
use Rattle.terms.specs.Sets.{Facts}
use Rattle.codec.specs.Image.{facts_in, environment_in}
use Rattle.graph.specs.Graph.{Graph}
use Rattle.holdings.specs.Holdings.{image_of}
use Rattle.sides.specs.Side.{IsSide, IsOpen, HasGeneration, StandsWithGeneration, OneGeneration, end_of, IsNoSide}
use Rattle.vault.specs.declared.found.Found.{Found}
use Rattle.vault.specs.Stands.{IsLive, IsBehind, other_side}
use Rattle.vault.specs.Opened.{IsAhead, StandsForNothing, IsFoundIn, IsFound}
use Rattle.vault.proofs.OpenedHeads.{opens}

-- a side that is open and behind a generation has a smaller one
behind_open : (bytes : List ℕ) (n : ℕ) → IsOpen bytes → IsBehind bytes n → (m : ℕ) × HasGeneration bytes m × (m < n)
behind_open bytes n opened (inl closed) = absurd (closed opened)
behind_open bytes n opened (inr it) = it

module _ (generation : StandsWithGeneration) where
  -- where no side is open, the files stand for nothing
  pub none_open : (contents : Contents) → (IsOpen (contents A) → ⊥) → (IsOpen (contents B) → ⊥) → StandsForNothing contents
  none_open contents a b g E X (A, n, live) = a (opens (contents A) n (generation (contents A) g n E X live.is_side)).0
  none_open contents a b g E X (B, n, live) = b (opens (contents B) n (generation (contents B) g n E X live.is_side)).0

  not_short : (contents : Contents) (side live : Side) (n : ℕ) (g : Graph) (E X : Facts) → IsOpen (contents side) → length (contents side) < 10 → IsLive contents live n g E X → ⊥
  not_short contents A A n g E X opened short live = omega (arith, short, (opens (contents A) n (generation (contents A) g n E X live.is_side)).1)
  not_short contents B B n g E X opened short live = omega (arith, short, (opens (contents B) n (generation (contents B) g n E X live.is_side)).1)
  not_short contents A B n g E X opened short live = let it = behind_open (contents A) n opened live.behind in omega (arith, short, (opens (contents A) it.0 it.1).1)
  not_short contents B A n g E X opened short live = let it = behind_open (contents B) n opened live.behind in omega (arith, short, (opens (contents B) it.0 it.1).1)

  -- nor do they where an open side is too short to have a generation
  pub one_short : (contents : Contents) (side : Side) → IsOpen (contents side) → length (contents side) < 10 → StandsForNothing contents
  one_short contents side opened short g E X stands = not_short contents side stands.0 stands.1 g E X opened short stands.2

  module _ (once : OneGeneration) where
    -- nor where both have one generation
    pub one_of_both : (contents : Contents) (n : ℕ) → HasGeneration (contents A) n → HasGeneration (contents B) n → StandsForNothing contents
    one_of_both contents n a b g E X (A, m, live) =
        let it = behind_open (contents B) m (opens (contents B) n b).0 live.behind in
        omega (arith, it.2, once (contents B) it.0 n it.1 b, once (contents A) m n (generation (contents A) g m E X live.is_side) a)
    one_of_both contents n a b g E X (B, m, live) =
        let it = behind_open (contents A) m (opens (contents A) n a).0 live.behind in
        omega (arith, it.2, once (contents A) it.0 n it.1 a, once (contents B) m n (generation (contents B) g m E X live.is_side) b)

    not_behind : (contents : Contents) (side live : Side) (m n : ℕ) (g : Graph) (E X : Facts) → HasGeneration (contents side) m → IsBehind (contents (other_side side)) m → IsNoSide (contents side)
        → IsLive contents live n g E X → ⊥
    not_behind contents A A m n g E X has behind none live = none g n E X live.is_side
    not_behind contents B B m n g E X has behind none live = none g n E X live.is_side
    not_behind contents A B m n g E X has behind none live = omega (arith, more, less)
      where
        other : HasGeneration (contents B) n
        other = generation (contents B) g n E X live.is_side

        less : n < m
        less = let it = behind_open (contents B) m (opens (contents B) n other).0 behind in subst (λ (k : ℕ). k < m) (once (contents B) it.0 n it.1 other) it.2

        more : m < n
        more = let it = behind_open (contents A) n (opens (contents A) m has).0 live.behind in subst (λ (k : ℕ). k < n) (once (contents A) it.0 m it.1 has) it.2
    not_behind contents B A m n g E X has behind none live = omega (arith, more, less)
      where
        other : HasGeneration (contents A) n
        other = generation (contents A) g n E X live.is_side

        less : n < m
        less = let it = behind_open (contents A) m (opens (contents A) n other).0 behind in subst (λ (k : ℕ). k < m) (once (contents A) it.0 n it.1 other) it.2

        more : m < n
        more = let it = behind_open (contents B) n (opens (contents B) m has).0 live.behind in subst (λ (k : ℕ). k < n) (once (contents B) it.0 m it.1 has) it.2

    -- nor where the side that is ahead stands for nothing
    pub ahead_is_none : (contents : Contents) (side : Side) → IsAhead contents side → IsNoSide (contents side) → StandsForNothing contents
    ahead_is_none contents side ahead none g E X stands = not_behind contents side stands.0 ahead.generation stands.1 g E X ahead.has ahead.behind none stands.2

    -- they stand for what was found in the side that is ahead
    pub ahead_is_found : (contents : Contents) (side : Side) (bytes : List ℕ) (found : Found) → IsAhead contents side → bytes ≡ contents side → IsFoundIn side bytes found → IsFound contents found
    ahead_is_found contents side bytes found ahead is it = record {
      is_live = record { is_side = there.0; behind = subst (λ (n : ℕ). IsBehind (contents (other_side found.journal.side)) n) same front.behind };
      kept = it.kept ∙ is ∙ ap contents (sym it.side_is);
      ends = there.1;
      text = it.text;
    }
      where
        front : IsAhead contents found.journal.side
        front = subst (IsAhead contents) (sym it.side_is) ahead

        there : (s : IsSide (contents found.journal.side) found.graph found.generation (environment_in (image_of found.holdings)) (facts_in (image_of found.holdings))) × (found.journal.end ≡ end_of s)
        there =
            subst (λ (b : List ℕ). (s : IsSide b found.graph found.generation (environment_in (image_of found.holdings)) (facts_in (image_of found.holdings))) × (found.journal.end ≡ end_of s))
            (is ∙ ap contents (sym it.side_is)) (it.is_side, it.ends)

        same : front.generation ≡ found.generation
        same = once (contents found.journal.side) front.generation found.generation front.has (generation (contents found.journal.side) found.graph found.generation _ _ there.0)
