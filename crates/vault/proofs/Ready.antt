-- When a vault is ready for the next call.
use Rattle.std.proofs.Common.{◌≡◌, ◌+◌, ◌≤◌, ◌<◌, ℕ, List, ◌∷◌, ◌++◌, length, take, drop, inl, inr, sym, ap, subst, ◌∙◌, arith, length-append}
use Rattle.std.proofs.lemmas.List.{length-take-le}
use Rattle.disk.specs.declared.side.Side.{Side}
use Rattle.disk.specs.Side.{which}
use Rattle.disk.specs.File.{File, at_rest, overwritten}
use Rattle.disk.specs.Time.{OtherStays}
use Rattle.terms.specs.Sets.{Facts}
use Rattle.graph.specs.Graph.{Graph}
use Rattle.sides.specs.SideLaws.{HasJournal}
use Rattle.vault.specs.declared.vault.Vault.{Vault}
use Rattle.vault.specs.Store.{Holds, IsReady, IsSame}
use Rattle.vault.specs.Turned.{Rests}
use Rattle.vault.proofs.Appended.{end_within}
use Rattle.vault.proofs.TurnedStores.{held_rests}

at_rest_rests : (file : File) (content : List ℕ) → file ≡ at_rest content → Rests file
at_rest_rests file content is = is ∙ ap (λ (f : File). at_rest f.content) (sym is)

-- a file that was written, and one that stayed
all_rest : (side : Side) (old new : Side → File) (content : List ℕ) → ((each : Side) → Rests (old each)) → new side ≡ at_rest content → OtherStays side old new → (each : Side) → Rests (new each)
all_rest side old new content rests written others each = elim (which side each) [
  | inl it ↦ subst (λ (s : Side). Rests (new s)) it (at_rest_rests (new side) content written)
  | inr differs ↦ subst Rests (sym (others each differs)) (rests each)
]

-- the byte after bytes that were written lies within the file
within_written : (content bytes ahead : List ℕ) (end : ℕ) → end ≤ length content → end + length bytes < length (overwritten content end (bytes ++ 0 ∷ ahead))
within_written content bytes ahead end within =
    let written = bytes ++ 0 ∷ ahead in
    let rest = drop (end + length written) content in
    let front : length (take end content) ≡ end = length-take-le end content within in
    let whole : length (overwritten content end written) ≡ length (take end content) + length written + length rest =
    length-append (take end content ++ written) rest ∙ ap (λ (n : ℕ). n + length rest) (length-append (take end content) written) in
    omega (arith, front, whole, length-append bytes (0 ∷ ahead))

module _ {D : Type 0} (files : D → Side → File) where
  -- one that holds something
  pub held_is_ready : HasJournal → (vault : Vault D) (g : Graph) (E X : Facts) → Holds files vault g E X → IsReady files vault
  held_is_ready journal vault g E X holds = record { rests = held_rests files vault g E X holds; within = end_within journal files vault g E X holds }

  -- one of which nothing changed that the promises speak of
  pub same_is_ready : (old new : Vault D) → IsSame old new → IsReady files old → IsReady files new
  same_is_ready old new same ready = record {
    rests = λ side. subst (λ (disk : D). Rests (files disk side)) (sym same.disk) (ready.rests side);
    within =
        subst (λ (disk : D). new.journal.end < length (files disk new.journal.side).content) (sym same.disk)
        (subst (λ (side : Side). new.journal.end < length (files old.disk side).content) (sym same.side)
        (subst (λ (end : ℕ). end < length (files old.disk old.journal.side).content) (sym same.end) ready.within));
  }

  -- one to whose journal these bytes were added
  pub appended_is_ready : (old new : Vault D) (bytes ahead : List ℕ) → IsReady files old → new.journal.side ≡ old.journal.side → new.journal.end ≡ old.journal.end + length bytes
      → files new.disk old.journal.side ≡ at_rest (overwritten (files old.disk old.journal.side).content old.journal.end (bytes ++ 0 ∷ ahead))
      → OtherStays old.journal.side (files old.disk) (files new.disk) → IsReady files new
  appended_is_ready old new bytes ahead ready side moved written others = record {
    rests = all_rest old.journal.side (files old.disk) (files new.disk) _ ready.rests written others;
    within =
        let content = (files old.disk old.journal.side).content in
        let there = within_written content bytes ahead old.journal.end (omega (arith, ready.within)) in
        subst (λ (s : Side). new.journal.end < length (files new.disk s).content) (sym side)
        (subst (λ (f : File). new.journal.end < length f.content) (sym written) (subst (λ (n : ℕ). n < length (overwritten content old.journal.end (bytes ++ 0 ∷ ahead))) (sym moved) there));
  }

  -- one whose live side was written anew, with a journal that ends at its last byte
  pub written_is_ready : (old : D) (new : Vault D) (behind : List ℕ) → ((each : Side) → Rests (files old each)) → new.journal.end ≡ length behind
      → files new.disk new.journal.side ≡ at_rest (1 ∷ behind) → OtherStays new.journal.side (files old) (files new.disk) → IsReady files new
  written_is_ready old new behind rests end written others = record {
    rests = all_rest new.journal.side (files old) (files new.disk) (1 ∷ behind) rests written others;
    within = subst (λ (f : File). new.journal.end < length f.content) (sym written) (omega (arith, end));
  }
