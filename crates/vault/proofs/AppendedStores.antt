-- What the journal's append does to a store: the commit is added, all of it or nothing.
use Rattle.std.proofs.Common.{◌≡◌, ◌∙◌, ◌+◌, ◌++◌, ◌∷◌, ℕ, List, length, replicate, refl, sym, ap, subst}
use Rattle.std.specs.Prelude.{Err, Ok, Result}
use Rattle.std.specs.List.{AllByRecursion}
use Rattle.disk.specs.declared.storage.Disk.{Ghosts}
use Rattle.disk.specs.Storage.{Leaves}
use Rattle.disk.specs.Time.{OtherMayBe}
use Rattle.terms.specs.Commits.{Commit}
use Rattle.terms.specs.Sets.{Facts}
use Rattle.terms.specs.declared.key.TheConstants.{MAX_COMPONENTS}
use Rattle.codec.specs.Commits.{IsCommit}
use Rattle.journal.specs.Journal.{Appends, BeforeOrAfter}
use Rattle.graph.specs.Graph.{Graph}
use Rattle.graph.specs.Fits.{FitAfter}
use Rattle.graph.specs.FitLaws.{FitAsListed}
use Rattle.sides.specs.SideLaws.{HasJournal, StaysAlike, GrowsByCommits}
use Rattle.vault.specs.declared.vault.Vault.{Vault}
use Rattle.vault.specs.declared.error.VaultError.{VaultError}
use Rattle.vault.specs.Calls.{Adds, LaysBehind, WritesRecords}
use Rattle.vault.specs.Groups.{groups_of, payloads_of, records_of}
use Rattle.vault.specs.Opened.{contents_of}
use Rattle.vault.specs.Store.{Holds, HasGates, IsReady, StandsBeforeOrAfter}
use Rattle.vault.proofs.Appended.{start, payloads, is_at, is_at_file, moments, holds_more}
use Rattle.vault.proofs.FirstBytes.{gates_appended}
use Rattle.vault.proofs.Ready.{appended_is_ready}

module _ {D : Type 0} (storage : Ghosts D) (old new : Vault D) (commit : Commit) (bytes : List ℕ) (are_all : bytes ≡ records_of commit) (zeros : ℕ) where
  -- the journal's append of these bytes is one of the commit's records
  of_records : {T E : Type 0} (result : Result T E) → Appends storage old.journal new.journal old.disk new.disk bytes zeros result
      → Appends storage old.journal new.journal old.disk new.disk (records_of commit) zeros result
  of_records result = subst (λ (list : List ℕ). Appends storage old.journal new.journal old.disk new.disk list zeros result) are_all

  -- what was written, if it went well
  pub appended_writes : {S T E : Type 0} (done : T) (value : S) → Appends {E = E} storage old.journal new.journal old.disk new.disk bytes zeros (Ok done)
      → IsReady storage.files old → new.journal.side ≡ old.journal.side → new.journal.end ≡ old.journal.end + length bytes → LaysBehind (old.journal.end + length bytes) zeros
      → WritesRecords storage.files old new (records_of commit) (Ok value)
  appended_writes done value appends ready side moved lays =
      let wrote = of_records (Ok done) appends in
      let further = moved ∙ ap (λ (list : List ℕ). old.journal.end + length list) are_all in
      record {
        written = (zeros, subst (λ (end : ℕ). LaysBehind end zeros) (sym moved) lays, wrote.file);
        other = wrote.other;
        ready = λ working. appended_is_ready storage.files old new (records_of commit) (replicate zeros 0) ready side further wrote.file wrote.other;
      }

  module _ (journal : HasJournal) (alike : StaysAlike) (grows : GrowsByCommits) (as_listed : FitAsListed) (g : Graph) (E X : Facts) (holds : Holds storage.files old g E X)
      (are_commits : AllByRecursion (IsCommit MAX_COMPONENTS) (groups_of commit)) where
    module _ {T Error : Type 0} (result : Result T Error) (appends : Appends storage old.journal new.journal old.disk new.disk bytes zeros result) where
      at_each : Leaves storage old.disk new.disk
          (λ c. BeforeOrAfter (start journal storage.files old g E X holds) (holds.contents old.journal.side) (payloads journal storage.files old g E X holds) (payloads_of commit) (c old.journal.side)
          × OtherMayBe old.journal.side (storage.files old.disk) c)
      at_each = (of_records result appends).any_moment (start journal storage.files old g E X holds) (payloads journal storage.files old g E X holds) (payloads_of commit)
          (holds.contents old.journal.side) (holds.rests old.journal.side) (is_at journal storage.files old g E X holds) refl

      either : FitAfter g X commit → Leaves storage old.disk new.disk (StandsBeforeOrAfter g E X commit)
      either fits = moments journal storage.files old g E X holds alike grows commit are_commits as_listed fits storage.moment storage.left_at new.disk at_each

      gates : HasGates (contents_of (storage.files old.disk)) → Leaves storage old.disk new.disk HasGates
      gates there = gates_appended storage.files storage.moment storage.left_at old g E X holds there journal new.disk (payloads_of commit) at_each

      -- what it does to a store, if it failed
      pub failed_adds : {S : Type 0} (error : VaultError) → Adds {T = S} storage old new g E X commit (Err error)
      failed_adds error = record { added = λ fits. tt; any_moment = either; gates = gates }

    -- and if it went well
    pub appended_adds : {S T Error : Type 0} (done : T) (value : S) → Appends {E = Error} storage old.journal new.journal old.disk new.disk bytes zeros (Ok done)
        → new.journal.side ≡ old.journal.side → new.generation ≡ old.generation → new.text.items ≡ old.text.items → new.journal.end ≡ old.journal.end + length bytes
        → Adds storage old new g E X commit (Ok value)
    appended_adds done value appends side generation text moved =
        let wrote = of_records (Ok done) appends in
        let further = moved ∙ ap (λ (list : List ℕ). old.journal.end + length list) are_all in
        record {
          added = λ fits. holds_more journal storage.files old g E X holds alike grows commit are_commits as_listed fits new side generation text (records_of commit ++ 0 ∷ replicate zeros 0)
              wrote.other wrote.file
              (wrote.added (start journal storage.files old g E X holds) (payloads journal storage.files old g E X holds) (payloads_of commit) (is_at_file journal storage.files old g E X holds) refl) further;
          any_moment = either (Ok done) appends;
          gates = gates (Ok done) appends;
        }
