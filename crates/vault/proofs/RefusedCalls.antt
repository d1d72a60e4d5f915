-- What a call leaves that was refused before any call of the disk.
use Rattle.std.proofs.Common.{◌≡◌, ◌∙◌, ◌+◌, ◌≤◌, ℕ, Bool, List, false, inl, length, sym, ap, subst}
use Rattle.std.specs.Prelude.{◌↔◌, Err, Ok, OnOk, Result, IsErr, IsErrOf}
use Rattle.std.proofs.lemmas.Bool.{false≢true}
use Rattle.disk.specs.declared.storage.Disk.{Ghosts}
use Rattle.disk.specs.Time.{Contents, MayLeaveNow}
use Rattle.disk.specs.Moments.{weakened}
use Rattle.disk.specs.Storage.{Leaves}
use Rattle.journal.specs.declared.error.AppendError.{AppendError}
use Rattle.journal.specs.declared.error.AppendError.TheVariants.{Before}
use Rattle.journal.specs.declared.error.JournalError.{JournalError}
use Rattle.journal.specs.declared.error.JournalError.TheVariants as journal
use Rattle.journal.specs.declared.journal.TheConstants.{LIMIT}
use Rattle.journal.specs.Journal.{RefusesBefore}
use Rattle.terms.specs.Commits.{Commit}
use Rattle.terms.specs.Sets.{Facts}
use Rattle.graph.specs.Graph.{Graph}
use Rattle.vault.specs.declared.vault.Vault.{Vault}
use Rattle.vault.specs.declared.error.VaultError.{VaultError}
use Rattle.vault.specs.declared.error.VaultError.TheVariants.{Full}
use Rattle.vault.specs.Calls.{Adds, IsFullWhere, TurnsFor, WritesRecords}
use Rattle.vault.specs.Stands.{Stands}
use Rattle.vault.specs.Store.{Holds, HasGates, IsReady, IsSame, StandsBeforeOrAfter}
use Rattle.vault.proofs.FirstBytes.{gates_before}
use Rattle.vault.proofs.HeadsFaults.{same_error}
use Rattle.vault.proofs.Ready.{same_is_ready}
use Rattle.vault.proofs.TurnedStores.{held_moments}

-- an error returns nothing of which a clause could hold
none_ok : {T E : Type 0} (P : Type 0) (result : Result T E) → IsErr result → OnOk result P
none_ok P (Ok value) is = absurd (false≢true is)
none_ok P (Err error) is = tt

module _ {D : Type 0} (storage : Ghosts D) (old new : Vault D) (same : IsSame old new) where
  module _ (at_now : (disk : D) (c : Contents) → storage.left_at disk (storage.moment disk) c ↔ MayLeaveNow (storage.files disk) c) (g : Graph) (E X : Facts) (holds : Holds storage.files old g E X) where
    -- what holds at this moment holds at each moment of the call
    only_now : (P : Contents → Type 0) → Leaves storage old.disk old.disk P → Leaves storage old.disk new.disk P
    only_now P = subst (λ (disk : D). Leaves storage old.disk disk P) (sym same.disk)

    held : Leaves storage old.disk old.disk (λ c. Stands c g E X)
    held = held_moments storage.files storage.moment storage.left_at at_now old g E X holds

    pub refused_adds : {T : Type 0} (commit : Commit) (result : Result T VaultError) → IsErr result → Adds storage old new g E X commit result
    refused_adds commit result is = record {
      added = λ fits. none_ok _ result is;
      any_moment = λ fits. only_now (StandsBeforeOrAfter g E X commit) (weakened storage.moment storage.left_at old.disk old.disk _ _ held (λ c stands. inl stands));
      gates = λ gates. only_now HasGates (gates_before storage.files storage.moment storage.left_at old g E X holds gates at_now);
    }

    pub refused_turns : {T : Type 0} (image : List ℕ) (error : VaultError) → TurnsFor {T = T} storage old new g E X image (Err error)
    refused_turns image error = record {
      turned = λ spells. tt;
      any_moment = λ spells there. only_now (λ c. Stands c g E X) held;
      gates = λ gates. only_now HasGates (gates_before storage.files storage.moment storage.left_at old g E X holds gates at_now);
    }

  pub refused_writes : {T : Type 0} → (old.halted ≡ false → IsReady storage.files old) → (bytes : List ℕ) (result : Result T VaultError) → IsErr result → WritesRecords storage.files old new bytes result
  refused_writes ready bytes result is = record {
    written = none_ok _ result is;
    other = λ other differs. ap (λ (disk : D). storage.files disk other) same.disk;
    ready = λ working. same_is_ready storage.files old new same (ready (sym same.halted ∙ working));
  }

-- the journal has no room for these bytes, or it has
pub full_before : {D S T : Type 0} (old new : D) (refusal : AppendError) (cause : JournalError) → refusal ≡ Before cause → (error : VaultError) (halted : Bool) (end : ℕ) (bytes all : List ℕ) → bytes ≡ all
    → RefusesBefore {T = S} old new (LIMIT ≤ end + length bytes) (Err refusal) → (error ≡ Full) ↔ (cause ≡ journal.Full) → IsFullWhere {T = T} halted (LIMIT ≤ end + length all) (Err error)
full_before {D} {S} {T} old new refusal cause is_before error halted end bytes all is before full = record {
  why = λ told. subst (λ (l : List ℕ). LIMIT ≤ end + length l) is (before.full.0 (ap (λ (it : AppendError). Err it) (is_before ∙ ap (λ (it : JournalError). Before it) (full.0 (same_error {T = T} error Full told)))));
  told = λ working long. inl (ap (λ (it : VaultError). Err it) (full.1 (same_cause (before.full.1 (subst (λ (l : List ℕ). LIMIT ≤ end + length l) (sym is) long)))));
}
  where
    same_cause : IsErrOf {T = S} (Err refusal) (Before journal.Full) → cause ≡ journal.Full
    same_cause same = cc
