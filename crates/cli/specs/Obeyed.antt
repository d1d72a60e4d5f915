-- What a command did with a store, what it wrote, and what it came to.
use Rattle.disk.specs.Storage.{Errs, ReportsAs}
use Rattle.disk.specs.declared.storage.Disk.{Ghosts}
use Rattle.std.specs.Prelude.{◌≡◌, ◌⊎◌, ◌<◌, ◌↔◌, ℕ, true, false, List, ◌++◌, codes, Option, Result, Ok, Err, IfErr, MatchResult, OnOk, IsTrue, Bool}
use Rattle.std.specs.Fmt.{decimal}
use Rattle.std.specs.Io.KnownBytes.{Appends}
use Rattle.disk.specs.declared.mem_disk.MemDisk.{MemDisk}
use Rattle.terms.specs.Facts.{bad}
use Rattle.terms.specs.declared.name.Inst.{Inst}
use Rattle.terms.specs.declared.fault.FaultKind.{FaultKind}
use Rattle.graph.specs.Graph.{Graph}
use Rattle.graph.specs.Reads.{HasCause, Reads}
use Rattle.graph.specs.declared.fault.GraphFault.{GraphFault}
use Rattle.graph.specs.declared.limits.TheConstants.{MOST_TEXT}
use Rattle.audit.specs.declared.certificate.VerifyError.{VerifyError}
use Rattle.audit.specs.declared.certificate.VerifyError.TheVariants as verify
use Rattle.machine.specs.Counts.{AreCountsOf}
use Rattle.machine.specs.declared.counts.Counts.{Counts}
use Rattle.vault.specs.declared.reading.LiveSide.{LiveSide}
use Rattle.vault.specs.LiveSides.{IsSideOf, StoodAfter}
use Rattle.vault.specs.Opened.{IsOfOpening, OnlyReads, TellsWhy, contents_of}
use Rattle.vault.specs.declared.error.VaultError.{VaultError}
use Rattle.vault.specs.declared.error.VaultError.TheVariants as vault
use Rattle.commit.specs.declared.creation.CreateError.TheVariants as creation
use Rattle.commit.specs.declared.creation.NotCreated.{NotCreated}
use Rattle.commit.specs.declared.error.CoreError.{CoreError}
use Rattle.commit.specs.Core.{Core, environment, facts, graph, is_halted}
use Rattle.commit.specs.Created.{IsCreated, LeavesOthers, TellsCreation, answer_of, disk_of}
use Rattle.commit.specs.Opened.{Finds, IsOpened}
use Rattle.commit.specs.Turning.{TurnsAs}
use Rattle.report.specs.declared.error.ReportError.{ReportError}
use Rattle.report.specs.declared.format.Format.{Format}
use Rattle.report.specs.Formats.{IsReportIn}
use Rattle.report.specs.ReportText.{line}
use Rattle.session.specs.declared.ending.Ending.{Ending}
use Rattle.session.specs.declared.error.SessionError.{SessionError}
use Rattle.session.specs.Answers.{Drive, drive_by}
use Rattle.session.specs.Fails.{Answers, IsAllOrTooLarge}
use Rattle.cli.specs.declared.outcome.Failure.TheVariants as failure
use Rattle.cli.specs.declared.outcome.Left.{Left}
use Rattle.cli.specs.declared.outcome.Outcome.{Outcome}
use Rattle.cli.specs.declared.outcome.Outcome.TheVariants.{Created, Ran, Reported, Logged, Turned, Drawn, Verified, NotVerified, Failed}
use Rattle.cli.specs.Copies.{IsCopyAfter}
use Rattle.cli.specs.Logged.{FailsToLog, IsLogOf}
use Rattle.cli.specs.declared.words.Command.{Command}
use Rattle.cli.specs.declared.words.Command.TheVariants as asked
use Rattle.cli.specs.Outcomes.{failure_of_creation, failure_of_report, failure_of_session, failure_of_turn}
use Rattle.commit.specs.Status.{IsGenuine}
use Rattle.pool.specs.declared.driver.Driver.{Driver}
use Rattle.cli.specs.declared.words.TheConstants.{MOST_LIMIT}

-- `left` says whether the store has a fault, and whether fewer of its instances are done than are prescribed
pub record IsLeft {D : Type 0} (c : Core D) (left : Left) : Type 0 where
  pub stopped : (left.is_stopped ≡ true) ↔ ((instance : Inst) × (kind : FaultKind) × (facts c (bad instance kind) ≡ true))
  pub counts : Counts
  pub are_counts : AreCountsOf (graph c) (facts c) counts
  pub unfinished : (left.is_unfinished ≡ true) ↔ (counts.done < counts.prescribed)

-- the result of an opening that was refused with this error
abbrev pub refusal_of : {D : Type 0} → VaultError → Result (Core D) VaultError
refusal_of error = Err error

-- this text was written, as a line
abbrev pub Writes : Option (List ℕ) → Option (List ℕ) → List ℕ → Type 0
Writes before behind text = Appends before behind (line text)

-- a command did its work, and this line was written; or the output failed
abbrev pub SaysOrFails : Option (List ℕ) → Option (List ℕ) → List ℕ → Outcome → Outcome → Type 0
SaysOrFails before behind text done outcome = ((outcome ≡ done) × Writes before behind text) ⊎ (outcome ≡ Failed failure.Output)

-- the outcome of a session, with the state of the store after it
abbrev pub TellsSession : {D : Type 0} → Core D → Result Ending SessionError → Outcome → Type 0
TellsSession core (Ok ending) outcome = (left : Left) × (outcome ≡ Ran ending left) × IsLeft core left
TellsSession core (Err error) outcome = outcome ≡ Failed (failure_of_session error)

-- the outcome of a report
abbrev pub TellsReport : {D : Type 0} → Core D → Result (Unit {0}) ReportError → Outcome → Type 0
TellsReport core (Ok done) outcome = (left : Left) × (outcome ≡ Reported left) × IsLeft core left
TellsReport core (Err error) outcome = outcome ≡ Failed (failure_of_report error)

-- the outcome of a turnover
abbrev pub TellsTurn : (before behind : Option (List ℕ)) → Result ℕ CoreError → Outcome → Type 0
TellsTurn before behind (Ok generation) outcome = SaysOrFails before behind (codes "turned, generation " ++ decimal generation) (Turned generation) outcome
TellsTurn before behind (Err error) outcome = (outcome ≡ Failed (failure_of_turn error)) × (behind ≡ before)

-- The outcome of a certificate. Which place is wrong goes to the error output.
abbrev pub TellsCertificate : (before behind : Option (List ℕ)) → Result (Unit {0}) VerifyError → Outcome → Type 0
TellsCertificate before behind (Ok done) outcome = SaysOrFails before behind (codes "verified") Verified outcome
TellsCertificate before behind (Err verify.NoMemory) outcome = (outcome ≡ Failed failure.NoMemory) × (behind ≡ before)
TellsCertificate before behind (Err verify.Halted) outcome = (outcome ≡ Failed (failure.Store vault.Halted)) × (behind ≡ before)
TellsCertificate before behind (Err why) outcome = (outcome ≡ NotVerified) × (behind ≡ before)

-- the text was not read, and nothing was written
abbrev pub IsNotRead : (before behind : Option (List ℕ)) → Outcome → Type 0
IsNotRead before behind outcome = ((outcome ≡ Failed failure.CannotRead) ⊎ (outcome ≡ Failed failure.NoMemory)) × (behind ≡ before)

-- ---- a drawing

-- the drawing was written, or the output failed
abbrev pub IsDrawn : Outcome → Type 0
IsDrawn outcome = (outcome ≡ Drawn) ⊎ (outcome ≡ Failed failure.Output)

-- the text was a graph, and its drawing was written or the output failed; or it was not a graph, for this cause
abbrev pub DrawsText : List ℕ → (before behind : Option (List ℕ)) → Outcome → Type 0
DrawsText text before behind outcome = ((g : Graph) × Reads text g × IsDrawn outcome)
    ⊎ ((fault : GraphFault) × HasCause text fault × (outcome ≡ Failed (failure_of_creation (creation.Graph fault))) × (behind ≡ before))

-- the same, or the text was not read
abbrev pub Draws : (input before behind : Option (List ℕ)) → Outcome → Type 0
Draws input before behind outcome = IsNotRead before behind outcome ⊎ ((text : List ℕ) × IsAllOrTooLarge MOST_TEXT input text × DrawsText text before behind outcome)

-- ---- a report

-- what a store held was written in this format; or it was not, and the outcome says why
pub record WritesReport {D : Type 0} (core : Core D) (format : Format) (before behind : Option (List ℕ)) (outcome : Outcome) : Type 0 where
  pub answer : Result (Unit {0}) ReportError
  pub written : OnOk answer ((text : List ℕ) × IsReportIn format (graph core) (facts core) text × Appends before behind text)
  pub told : TellsReport core answer outcome

-- The report is of a copy in memory, which has what this side had after its first commits; or there was no memory for the copy.
abbrev pub ReportsSide : LiveSide → (count : ℕ) → Format → (before behind : Option (List ℕ)) → Outcome → Type 0
ReportsSide live count format before behind outcome =
    ((copy : Core MemDisk) × ((read : IsSideOf live) → IsCopyAfter count read copy) × WritesReport copy format before behind outcome)
    ⊎ ((outcome ≡ Failed failure.NoMemory) × (behind ≡ before))

-- ---- a certificate

module _ {D : Type 0} (storage : Ghosts D) where
  -- ---- a creation

  -- a store was made of the text, or none was made, with its cause
  pub record Creates (text : List ℕ) (before behind : Option (List ℕ)) (old new : D) (outcome : Outcome) : Type 0 where
    pub answer : Result (Core D) (NotCreated D)
    pub is : MatchResult answer (IsCreated storage text) (TellsCreation text old)
    pub disk : new ≡ disk_of answer
    pub others : IsTrue storage.is_honest → LeavesOthers storage old (disk_of answer) (answer_of answer)
    pub causes : ReportsAs storage (creation.Store vault.Device) (creation.Store vault.NoMemory) old (disk_of answer) (answer_of answer)
    pub told : MatchResult answer (λ core. SaysOrFails before behind (codes "created") Created outcome) (λ refused. (outcome ≡ Failed (failure_of_creation refused.error)) × (behind ≡ before))

  -- the same; or the text was not read, and the disk is unchanged
  abbrev pub CreatesOrNot : (input before behind : Option (List ℕ)) → D → D → Outcome → Type 0
  CreatesOrNot input before behind old new outcome =
      (IsNotRead before behind outcome × (new ≡ old))
      ⊎ ((text : List ℕ) × IsAllOrTooLarge MOST_TEXT input text × Creates text before behind old new outcome)

  -- ---- an open store

  -- The store could not be opened, and the outcome says why: the files stand for no store, the device failed, or memory was refused. Nothing was
  -- written, neither to its files nor to the output.
  pub record IsNotOpened (before behind : Option (List ℕ)) (old new : D) (outcome : Outcome) : Type 0 where
    pub error : VaultError
    pub told : outcome ≡ Failed (failure.Store error)
    pub of_opening : IsOfOpening error
    pub only_reads : IsTrue storage.is_honest → OnlyReads storage old new
    pub why : IsTrue storage.is_honest → TellsWhy (contents_of (storage.files old)) (Errs storage old new) (refusal_of {D = D} error)
    pub causes : ReportsAs storage vault.Device vault.NoMemory old new (refusal_of {D = D} error)
    pub nothing_written : behind ≡ before

  -- the store was opened: with all that the files stand for
  pub record WasOpened (old : D) (core : Core D) : Type 0 where
    pub opened : IsOpened core
    pub finds : IsTrue storage.is_honest → Finds storage.files old core
    pub only_reads : IsTrue storage.is_honest → OnlyReads storage old core.vault.disk

  pub record Runs (drive : Drive) (input before behind : Option (List ℕ)) (old new : D) (outcome : Outcome) : Type 0 where
    pub first : Core D
    pub last : Core D
    pub opened : WasOpened old first
    pub answer : Result Ending SessionError
    pub session : Answers storage drive input before behind first last answer
    pub told : TellsSession last answer outcome
    pub disk : new ≡ last.vault.disk

  pub record Reports (format : Format) (before behind : Option (List ℕ)) (old new : D) (outcome : Outcome) : Type 0 where
    pub core : Core D
    pub opened : WasOpened old core
    pub answer : Result (Unit {0}) ReportError
    pub written : OnOk answer ((text : List ℕ) × IsReportIn format (graph core) (facts core) text × Appends before behind text)
    pub told : TellsReport core answer outcome
    pub disk : new ≡ core.vault.disk

  -- The report is of a copy in memory, which has what the store had after its first commits; or there was no memory for the copy.
  pub record ReportsAt (count : ℕ) (format : Format) (before behind : Option (List ℕ)) (old new : D) (outcome : Outcome) : Type 0 where
    pub only_reads : IsTrue storage.is_honest → OnlyReads storage old new
    pub told : ((copy : Core MemDisk) × (IsTrue storage.is_honest → StoodAfter count (contents_of (storage.files old)) (graph copy) (environment copy) (facts copy))
        × WritesReport copy format before behind outcome)
        ⊎ ((outcome ≡ Failed failure.NoMemory) × (behind ≡ before))

  -- The log was written, or the output failed, or memory was refused. The files were only read.
  pub record Logs (before behind : Option (List ℕ)) (old new : D) (outcome : Outcome) : Type 0 where
    pub only_reads : IsTrue storage.is_honest → OnlyReads storage old new
    pub told : ((outcome ≡ Logged) × (IsTrue storage.is_honest → (text : List ℕ) × IsLogOf (contents_of (storage.files old)) text × Appends before behind text)) ⊎ FailsToLog outcome

  pub record TurnsOver (before behind : Option (List ℕ)) (old new : D) (outcome : Outcome) : Type 0 where
    pub first : Core D
    pub last : Core D
    pub opened : WasOpened old first
    pub answer : Result ℕ CoreError
    pub turns : TurnsAs storage first last answer
    pub told : TellsTurn before behind answer outcome
    pub disk : new ≡ last.vault.disk

  -- If it is verified, legal events lead to what the store holds; if some do, it is verified, or memory was refused. Nothing was committed.
  pub record Verifies (before behind : Option (List ℕ)) (old new : D) (outcome : Outcome) : Type 0 where
    pub core : Core D
    pub opened : WasOpened old core
    pub answer : Result (Unit {0}) VerifyError
    pub certified : OnOk answer (IsGenuine core)
    pub genuine : is_halted core ≡ false → IsGenuine core → IfErr answer (λ why. why ≡ verify.NoMemory)
    pub told : TellsCertificate before behind answer outcome
    pub disk : new ≡ core.vault.disk

  -- the drawing was written, or the output failed, or memory was refused; the disk is as the opening left it
  pub record DrawsStore (old new : D) (outcome : Outcome) : Type 0 where
    pub core : Core D
    pub opened : WasOpened old core
    pub told : IsDrawn outcome ⊎ (outcome ≡ Failed failure.NoMemory)
    pub disk : new ≡ core.vault.disk

  -- ---- commands

  -- what the command did, and what it came to
  abbrev pub Obeys : Drive → Command → (input before behind : Option (List ℕ)) → D → D → Outcome → Type 0
  Obeys drive (asked.Create text directory) input before behind old new outcome = CreatesOrNot input before behind old new outcome
  Obeys drive (asked.Run directory script limit workers) input before behind old new outcome = IsNotOpened before behind old new outcome ⊎ Runs (record drive { most = limit }) input before behind old new outcome
  Obeys drive (asked.Report directory format) input before behind old new outcome = IsNotOpened before behind old new outcome ⊎ Reports format before behind old new outcome
  Obeys drive (asked.ReportAt directory format count) input before behind old new outcome = IsNotOpened before behind old new outcome ⊎ ReportsAt count format before behind old new outcome
  Obeys drive (asked.Log directory) input before behind old new outcome = IsNotOpened before behind old new outcome ⊎ Logs before behind old new outcome
  Obeys drive (asked.Turn directory) input before behind old new outcome = IsNotOpened before behind old new outcome ⊎ TurnsOver before behind old new outcome
  Obeys drive (asked.Verify directory) input before behind old new outcome = IsNotOpened before behind old new outcome ⊎ Verifies before behind old new outcome
  Obeys drive (asked.Draw text) input before behind old new outcome = (new ≡ old) × Draws input before behind outcome
  Obeys drive (asked.DrawStore directory all) input before behind old new outcome = IsNotOpened before behind old new outcome ⊎ DrawsStore old new outcome

-- the same, with this driver, and with what the output has before and after
abbrev pub ObeysBy : {D W R P : Type 0} → Ghosts D → (contents : W → Option (List ℕ)) → Bool → Driver R P → Command → (input : Option (List ℕ)) → (here there : W) → D → D → Outcome → Type 0
ObeysBy storage contents may_stop driver command input here there old new outcome =
    Obeys storage (drive_by MOST_LIMIT may_stop driver false) command input (contents here) (contents there) old new outcome
