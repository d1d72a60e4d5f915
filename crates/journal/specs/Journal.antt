-- A journal on a file, and what a crash during an append may leave of it.
use Rattle.std.specs.Prelude.{◌≡◌, ◌⊎◌, ◌+◌, ◌↔◌, ℕ, List, [], ◌∷◌, ◌++◌, length, replicate, take, drop, All, Result, IfOk, OnOk, OnErr, IsErrOf}
use Rattle.disk.specs.declared.storage.Disk.{Ghosts}
use Rattle.disk.specs.File.{at_rest, overwritten}
use Rattle.disk.specs.Time.{OtherStays, OtherMayBe}
use Rattle.disk.specs.Storage.{Leaves}
use Rattle.journal.specs.declared.error.AppendError.{AppendError}
use Rattle.journal.specs.declared.error.AppendError.TheVariants.{Before}
use Rattle.journal.specs.declared.error.JournalError.{JournalError}
use Rattle.journal.specs.declared.error.JournalError.TheVariants.{Full, NoMemory}
use Rattle.journal.specs.declared.journal.Journal.{Journal}
use Rattle.journal.specs.Records.{records, IsShort, StandsFor}
use Rattle.journal.specs.WholeRecords.{BeginsWithNone}

-- from a position on, a file stands for these payloads, and the journal ends after their records
pub record IsAt (journal : Journal) (start : ℕ) (content : List ℕ) (payloads : List (List ℕ)) : Type 0 where
  pub stands : StandsFor (drop start content) payloads
  pub end : journal.end ≡ start + length (records payloads)

-- if these bytes stand for payloads, and something is found, it is just these
abbrev pub FindsAll : {J E : Type 0} → List ℕ → Result (J × List (List ℕ)) E → Type 0
FindsAll bytes result = (payloads : List (List ℕ)) → StandsFor bytes payloads → IfOk result (λ found. found.1 ≡ payloads)

-- a file stands for the payloads before an append, or for these and then all that it adds, and the bytes in front of the journal
-- are as they were
pub record BeforeOrAfter (start : ℕ) (old : List ℕ) (payloads added : List (List ℕ)) (content : List ℕ) : Type 0 where
  pub front : take start content ≡ take start old
  pub stands : StandsFor (drop start content) payloads ⊎ StandsFor (drop start content) (payloads ++ added)

-- from a position on, a file stands for no payloads: whole records lead to a place with neither a whole record nor a closed gate
pub record BreaksAt (start : ℕ) (content : List ℕ) (place : ℕ) : Type 0 where
  pub before : List (List ℕ)
  pub short : All IsShort before
  pub leads : place ≡ start + length (records before)
  pub spelled : drop start content ≡ records before ++ drop place content
  pub no_record : BeginsWithNone (drop place content)
  pub no_gate : StandsFor (drop place content) [] → ⊥

-- in addition, it stands for none at all
abbrev pub IsBroken : ℕ → List ℕ → ℕ → Type 0
IsBroken start content place = BreaksAt start content place × ((payloads : List (List ℕ)) → StandsFor (drop start content) payloads → ⊥)

-- ---- appends

-- What an append of these records leaves, on an honest disk. They stand over the gate that ended the journal, and behind them a closed gate and zeros.
pub record Appends {D T E : Type 0} (storage : Ghosts D) (old new : Journal) (disk later : D) (bytes : List ℕ) (zeros : ℕ) (result : Result T E) : Type 0 where
  pub added : (start : ℕ) (payloads added : List (List ℕ)) → IsAt old start (storage.files disk old.side).content payloads → bytes ≡ records added
      → OnOk result (IsAt new start (storage.files later old.side).content (payloads ++ added))
  pub file : OnOk result (storage.files later old.side ≡ at_rest (overwritten (storage.files disk old.side).content old.end (bytes ++ 0 ∷ replicate zeros 0)))
  pub other : OtherStays old.side (storage.files disk) (storage.files later)
  -- If all of the file is on the disk, a crash at any moment of the call leaves the payloads before it, or these and all that it adds.
  pub any_moment : (start : ℕ) (payloads added : List (List ℕ)) (content : List ℕ) → storage.files disk old.side ≡ at_rest content → IsAt old start content payloads → bytes ≡ records added
      → Leaves storage disk later (λ contents. BeforeOrAfter start content payloads added (contents old.side) × OtherMayBe old.side (storage.files disk) contents)
  pub other_moments : Leaves storage disk later (OtherMayBe old.side (storage.files disk))

-- how an append leaves the journal, on every disk: after `Ok` it ends this number of bytes further on
pub record Moves {T E : Type 0} (old new : Journal) (count : ℕ) (result : Result T E) : Type 0 where
  pub side : new.side ≡ old.side
  pub moved : OnOk result (new.end ≡ old.end + count)
  pub stays : OnErr result (new.end ≡ old.end)

-- Why an append is refused before any call of the disk: exactly if this cause is there, with `Full`; or since memory was refused.
pub record RefusesBefore {D T : Type 0} (old new : D) (is_full : Type 0) (result : Result T AppendError) : Type 0 where
  pub same : (cause : JournalError) → IsErrOf result (Before cause) → new ≡ old
  pub full : IsErrOf result (Before Full) ↔ is_full
  pub causes : (cause : JournalError) → IsErrOf result (Before cause) → (cause ≡ Full) ⊎ (cause ≡ NoMemory)

-- the same for a call that does not tell the point at which it was refused; a journal is not damaged by being written
pub record RefusesFull {D T : Type 0} (old new : D) (is_full : Type 0) (result : Result T JournalError) : Type 0 where
  pub same : IsErrOf result Full → new ≡ old
  pub full : IsErrOf result Full ↔ is_full
