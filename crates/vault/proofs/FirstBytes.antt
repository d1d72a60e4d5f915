-- Each file keeps a first byte, from call to call.
use Rattle.std.proofs.Common.{◌≡◌, ◌≢◌, inl, inr, ℕ, List, [], ◌∷◌, length, take, refl, sym, ap, subst, ◌∙◌}
use Rattle.std.specs.Prelude.{◌↔◌, suc}
use Rattle.disk.specs.declared.side.Side.{Side}
use Rattle.disk.specs.Side.{which}
use Rattle.disk.specs.File.{File, MayLeave}
use Rattle.disk.specs.Time.{Contents, MayLeaveNow, OtherMayBe, LeavesOnly}
use Rattle.disk.specs.Moments.{begun, weakened}
use Rattle.disk.specs.Settled.{settled_only}
use Rattle.terms.specs.Sets.{Facts}
use Rattle.codec.specs.Spelling.{image_bytes}
use Rattle.journal.specs.Journal.{BeforeOrAfter}
use Rattle.graph.specs.Graph.{Graph}
use Rattle.graph.specs.Canonical.{canonical}
use Rattle.sides.specs.Side.{behind_gate}
use Rattle.sides.specs.SideLaws.{HasJournal}
use Rattle.vault.specs.declared.vault.Vault.{Vault}
use Rattle.vault.specs.Opened.{contents_of}
use Rattle.vault.specs.Store.{Holds, HasGates}
use Rattle.vault.specs.Turned.{Rests, MayTurn}
use Rattle.vault.proofs.Appended.{start, payloads}
use Rattle.vault.proofs.TurnedStores.{held_rests}
use Rattle.sides.specs.declared.gate.TheConstants.{FORMAT}

-- what begins as other bytes do has a first byte where they have one
front_there : (count : ℕ) (old bytes : List ℕ) → take (suc count) bytes ≡ take (suc count) old → old ≢ [] → bytes ≢ []
front_there count [] bytes front there none = there refl
front_there count (first ∷ rest) bytes front there none = let is = ap (take (suc count)) none in cc

-- a side that is written anew keeps one
turned_there : (old behind bytes : List ℕ) → old ≢ [] → MayTurn old (1 ∷ behind) bytes → bytes ≢ []
turned_there old behind bytes there (inl (inl as_was)) none = there (sym as_was ∙ none)
turned_there old behind bytes there (inl (inr shut)) none = let is = shut.spelled in cc
turned_there old behind bytes there (inr turned) none = cc

module _ {D : Type 0} (files : D → Side → File) (moment : D → ℕ) (left_at : D → ℕ → Contents → Type 0) where
  module _ (old : D) (rests : (side : Side) → Rests (files old side)) (gates : HasGates (contents_of (files old))) where
    -- a crash leaves the first byte of a file at rest
    rest_there : (side : Side) (bytes : List ℕ) → MayLeave (files old side).durable bytes → bytes ≢ []
    rest_there side bytes left none =
        gates side (sym (settled_only (files old side).content bytes (subst (λ (f : File). MayLeave f.durable bytes) (rests side) left)) ∙ none)

    begun_there : ((disk : D) (c : Contents) → left_at disk (moment disk) c ↔ MayLeaveNow (files disk) c) → LeavesOnly moment left_at old old HasGates
    begun_there at_now = begun moment left_at old HasGates (λ c left side. rest_there side (c side) ((at_now old c).0 left side))

    written_there : (new : D) (side : Side) (P : List ℕ → Type 0) → ((bytes : List ℕ) → P bytes → bytes ≢ [])
        → LeavesOnly moment left_at old new (λ c. P (c side) × OtherMayBe side (files old) c) → LeavesOnly moment left_at old new HasGates
    written_there new side P there only = weakened moment left_at old new _ _ only (λ c left each. elim (which side each) [
      | inl it ↦ subst (λ (s : Side). c s ≢ []) it (there (c side) left.0)
      | inr differs ↦ rest_there each (c each) (left.1 each differs)
    ])

  module _ (vault : Vault D) (g : Graph) (E X : Facts) (holds : Holds files vault g E X) (gates : HasGates (contents_of (files vault.disk))) where
    -- before any call of the disk
    pub gates_before : ((disk : D) (c : Contents) → left_at disk (moment disk) c ↔ MayLeaveNow (files disk) c) → LeavesOnly moment left_at vault.disk vault.disk HasGates
    gates_before = begun_there vault.disk (held_rests files vault g E X holds) gates

    -- while an event is appended
    pub gates_appended : (journal : HasJournal) (new : D) (added : List (List ℕ))
        → LeavesOnly moment left_at vault.disk new (λ c. BeforeOrAfter (start journal files vault g E X holds) (holds.contents vault.journal.side) (payloads journal files vault g E X holds) added (c vault.journal.side)
        × OtherMayBe vault.journal.side (files vault.disk) c)
        → LeavesOnly moment left_at vault.disk new HasGates
    gates_appended journal new added =
        let live = vault.journal.side in
        written_there vault.disk (held_rests files vault g E X holds) gates new live
        (BeforeOrAfter (start journal files vault g E X holds) (holds.contents live) (payloads journal files vault g E X holds) added)
        (λ bytes either. front_there (length (behind_gate FORMAT vault.generation (canonical g) (image_bytes holds.is_live.is_side.image) [])) (holds.contents live) bytes either.front (λ none. gates live (ap (λ (f : File). f.content) (holds.rests live) ∙ none)))

    -- while the other side is written
    pub gates_turned : (new : D) (side : Side) (behind : List ℕ)
        → LeavesOnly moment left_at vault.disk new (λ c. MayTurn (files vault.disk side).content (1 ∷ behind) (c side) × OtherMayBe side (files vault.disk) c)
        → LeavesOnly moment left_at vault.disk new HasGates
    gates_turned new side behind =
        written_there vault.disk (held_rests files vault g E X holds) gates new side
        (MayTurn (files vault.disk side).content (1 ∷ behind)) (λ bytes turns. turned_there (files vault.disk side).content behind bytes (gates side) turns)
