-- A store that was turned over holds what it held, and so does what a crash leaves of it on the way.
use Rattle.std.proofs.Common.{◌≡◌, ◌≢◌, inl, inr, ℕ, ◌+◌, ◌<◌, ◌^◌, List, [], ◌∷◌, length, sym, ap, subst, ◌∙◌}
use Rattle.std.specs.Prelude.{◌↔◌}
use Rattle.disk.specs.declared.side.Side.{Side}
use Rattle.disk.specs.Side.{which}
use Rattle.disk.specs.File.{File, MayLeave, at_rest}
use Rattle.disk.specs.Time.{Contents, MayLeaveNow, OtherStays, OtherMayBe, LeavesOnly}
use Rattle.disk.specs.Moments.{begun, weakened}
use Rattle.disk.specs.Settled.{settled_only}
use Rattle.terms.specs.Sets.{Facts}
use Rattle.graph.specs.Graph.{Graph}
use Rattle.graph.specs.Canonical.{canonical}
use Rattle.graph.specs.FitLaws.{StateAsSet}
use Rattle.sides.specs.Side.{IsSide, StandsWithGeneration, behind_gate, end_of}
use Rattle.sides.specs.SideLaws.{SideAsSet, SideFits, BeginsSide}
use Rattle.vault.specs.declared.vault.Vault.{Vault}
use Rattle.vault.specs.Calls.{SpellsFacts}
use Rattle.vault.specs.Stands.{IsBehind, Stands, other_side}
use Rattle.vault.specs.Store.{Holds, new_side}
use Rattle.vault.specs.Turned.{Rests, MayTurn}
use Rattle.vault.proofs.TurnedSides.{not_other, behind_next, behind_other, turned_side, passing}
use Rattle.sides.specs.declared.gate.TheConstants.{FORMAT}

module _ {D : Type 0} (files : D → Side → File) where
  -- both files of a store are at rest
  pub held_rests : (vault : Vault D) (g : Graph) (E X : Facts) → Holds files vault g E X → (side : Side) → Rests (files vault.disk side)
  held_rests vault g E X holds side = let is = holds.rests side in is ∙ ap (λ (f : File). at_rest f.content) (sym is)

  -- what a crash leaves of it now
  pub held_now : (vault : Vault D) (g : Graph) (E X : Facts) → Holds files vault g E X → (c : Contents) → MayLeaveNow (files vault.disk) c → Stands c g E X
  held_now vault g E X holds c left = (
    vault.journal.side,
    vault.generation,
    record {
      is_side = subst (λ (l : List ℕ). IsSide l g vault.generation E X) (sym (only vault.journal.side)) holds.is_live.is_side;
      behind = subst (λ (l : List ℕ). IsBehind l vault.generation) (sym (only (other_side vault.journal.side))) holds.is_live.behind;
    },
  )
    where
      only : (side : Side) → c side ≡ holds.contents side
      only side = settled_only (holds.contents side) (c side) (subst (λ (f : File). MayLeave f.durable (c side)) (holds.rests side) (left side))

  pub held_moments : (moment : D → ℕ) (left_at : D → ℕ → Contents → Type 0) (at_now : (disk : D) (c : Contents) → left_at disk (moment disk) c ↔ MayLeaveNow (files disk) c)
      → (vault : Vault D) (g : Graph) (E X : Facts) → Holds files vault g E X → LeavesOnly moment left_at vault.disk vault.disk (λ c. Stands c g E X)
  held_moments moment left_at at_now vault g E X holds =
      begun moment left_at vault.disk (λ c. Stands c g E X) (λ c left. held_now vault g E X holds c ((at_now vault.disk c).0 left))

  -- a vault by what its fields are
  module _ (vault : Vault D) (g : Graph) (E X : Facts) (contents : Contents) (rests : (side : Side) → files vault.disk side ≡ at_rest (contents side)) (text : vault.text.items ≡ canonical g) where
    abbrev LiveAs : Side → ℕ → List ℕ → Type 0
    LiveAs side generation bytes =
        (is_side : IsSide bytes g generation E X) → IsBehind (contents (other_side side)) generation → vault.journal.end ≡ end_of is_side → Holds files vault g E X

    own : LiveAs vault.journal.side vault.generation (contents vault.journal.side)
    own is_side behind ends = record { contents = contents; rests = rests; is_live = record { is_side = is_side; behind = behind }; ends = ends; text = text }

    pub holds_by : (side : Side) → vault.journal.side ≡ side → (generation : ℕ) → vault.generation ≡ generation → (bytes : List ℕ) → contents side ≡ bytes → LiveAs side generation bytes
    holds_by side is_live generation is_of bytes has =
        subst (LiveAs side generation) has
        (subst (λ (n : ℕ). LiveAs side n (contents side)) is_of
        (subst (λ (s : Side). LiveAs s vault.generation (contents s)) is_live own))

  module _ (as_set : SideAsSet) (fits : SideFits) (begins : BeginsSide) (state_as_set : StateAsSet) (stands : StandsWithGeneration)
      (old : Vault D) (g : Graph) (E X : Facts) (bytes : List ℕ) (holds : Holds files old g E X) (spells : SpellsFacts bytes E X) (short : length bytes < 2 ^ 32)
      (small : old.generation + 1 < 2 ^ 64) where
    -- while its other side is written
    pub turning_moments : (moment : D → ℕ) (left_at : D → ℕ → Contents → Type 0) (new : D) (side : Side) → side ≡ other_side old.journal.side
        → (behind : List ℕ) → behind ≡ behind_gate FORMAT (old.generation + 1) old.text.items bytes (0 ∷ [])
        → LeavesOnly moment left_at old.disk new (λ c. MayTurn (files old.disk side).content (1 ∷ behind) (c side) × OtherMayBe side (files old.disk) c)
        → LeavesOnly moment left_at old.disk new (λ c. Stands c g E X)
    turning_moments moment left_at new side is_other behind is leaves =
        let live = old.journal.side in
        let other = other_side live in
        weakened moment left_at old.disk new _ _ (subst (λ (s : Side). LeavesOnly moment left_at old.disk new (λ c. MayTurn (files old.disk s).content (1 ∷ behind) (c s) × OtherMayBe s (files old.disk) c)) is_other leaves) (λ c left.
        passing as_set fits begins state_as_set stands g E X bytes spells short holds.contents live old.generation small holds.is_live c
        (settled_only (holds.contents live) (c live) (subst (λ (f : File). MayLeave f.durable (c live)) (holds.rests live) (left.1 live (not_other live))))
        (subst (λ (was : List ℕ). MayTurn was (new_side (old.generation + 1) (canonical g) bytes) (c other)) (ap (λ (f : File). f.content) (holds.rests other))
        (subst (λ (l : List ℕ). MayTurn (files old.disk other).content l (c other))
        (ap (λ (l : List ℕ). 1 ∷ l) is ∙ ap (λ (l : List ℕ). new_side (old.generation + 1) l bytes) holds.text) left.0)))

    -- and after it was written
    pub turned_holds : (new : Vault D) → new.journal.side ≡ other_side old.journal.side → files new.disk new.journal.side ≡ at_rest (new_side (old.generation + 1) old.text.items bytes)
        → OtherStays new.journal.side (files old.disk) (files new.disk) → new.generation ≡ old.generation + 1
        → new.journal.end ≡ length (1 ∷ behind_gate FORMAT (old.generation + 1) old.text.items bytes []) → new.text.items ≡ old.text.items → Holds files new g E X
    turned_holds new side written others generation end text =
        let live = old.journal.side in
        let kept : contents live ≡ holds.contents live = ap (λ (f : File). f.content) (others live (subst (λ (s : Side). live ≢ s) (sym side) (not_other live)) ∙ holds.rests live) in
        let old_side : IsSide (contents live) g old.generation E X = subst (λ (l : List ℕ). IsSide l g old.generation E X) (sym kept) holds.is_live.is_side in
        let turned = turned_side as_set fits begins state_as_set stands g E X bytes spells short (contents live) old.generation small old_side in
        holds_by new g E X contents rests (text ∙ holds.text) (other_side live) side (old.generation + 1) generation (new_side (old.generation + 1) (canonical g) bytes)
        (ap contents (sym side) ∙ ap (λ (f : File). f.content) written ∙ ap (λ (l : List ℕ). new_side (old.generation + 1) l bytes) holds.text) turned.0
        (behind_other contents live (old.generation + 1) (behind_next stands (contents live) g old.generation E X old_side))
        (end ∙ ap (λ (l : List ℕ). length (1 ∷ behind_gate FORMAT (old.generation + 1) l bytes [])) holds.text ∙ sym turned.1)
      where
        contents : Contents
        contents each = (files new.disk each).content

        rests : (each : Side) → files new.disk each ≡ at_rest (contents each)
        rests each = elim (which new.journal.side each) [
          | inl it ↦ subst (λ (s : Side). Rests (files new.disk s)) it (written ∙ ap (λ (f : File). at_rest f.content) (sym written))
          | inr differs ↦ subst Rests (sym (others each differs)) (held_rests old g E X holds each)
        ]
