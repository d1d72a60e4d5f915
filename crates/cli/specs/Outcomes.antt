-- What a command comes to: its status, and the message for a failure.
use Rattle.std.specs.Prelude.{ℕ, List, [], ◌++◌, codes, cond, is_some}
use Rattle.std.specs.Fmt.{decimal}
use Rattle.disk.specs.declared.side.Side.{Side}
use Rattle.disk.specs.declared.side.Side.TheVariants.{A, B}
use Rattle.graph.specs.FaultText.{fault_text}
use Rattle.graph.specs.declared.fault.GraphError.TheVariants as graph_error
use Rattle.graph.specs.declared.fault.GraphFault.{GraphFault}
use Rattle.graph.specs.declared.fault.GraphError.{GraphError}
use Rattle.script.specs.Numbers.{fault_number}
use Rattle.vault.specs.declared.error.VaultError.{VaultError}
use Rattle.vault.specs.declared.error.VaultError.TheVariants as store
use Rattle.commit.specs.declared.creation.CreateError.{CreateError}
use Rattle.commit.specs.declared.creation.CreateError.TheVariants as creation
use Rattle.commit.specs.declared.error.CoreError.{CoreError}
use Rattle.commit.specs.declared.error.CoreError.TheVariants as core
use Rattle.report.specs.declared.error.ReportError.{ReportError}
use Rattle.report.specs.declared.error.ReportError.TheVariants as report
use Rattle.session.specs.declared.ending.Ending.{Ending}
use Rattle.session.specs.declared.error.SessionError.{SessionError}
use Rattle.session.specs.declared.error.SessionError.TheVariants as session
use Rattle.cli.specs.declared.outcome.Failure.{Failure}
use Rattle.cli.specs.declared.outcome.Failure.TheVariants as failure
use Rattle.cli.specs.declared.outcome.Left.{Left}
use Rattle.cli.specs.declared.outcome.Outcome.{Outcome}
use Rattle.cli.specs.declared.outcome.Outcome.TheVariants.{Created, Ran, Reported, Logged, Turned, Drawn, Verified, NotVerified, Failed}

-- ---- statuses

-- 2 if the graph or the script is refused, or cannot be read; 4 if the store is refused; 5 if the device failed, memory was refused, the store is
-- halted, or the output failed
abbrev pub store_status : VaultError → ℕ
store_status store.Device = 5
store_status store.NoMemory = 5
store_status store.Halted = 5
store_status store.Full = 4
store_status store.NotAStore = 4
store_status store.Exists = 4
store_status (store.Damaged side place) = 4

abbrev pub failure_status : Failure → ℕ
failure_status (failure.Graph fault) = 2
failure_status (failure.Script line fault) = 2
failure_status failure.CannotRead = 2
failure_status (failure.Store error) = store_status error
failure_status failure.NoMemory = 5
failure_status failure.Output = 5

-- the first of these: 3 if the store has a fault, 1 if a prescribed instance is not done; else 0
abbrev pub report_status : Left → ℕ
report_status left = cond left.is_stopped 3 (cond left.is_unfinished 1 0)

-- the first of these: 5 if a reply ended the session, 4 if a put or a run was refused as full, 3 if the store has a fault, 6 if the last run met its
-- limit, 1 if a prescribed instance is not done; else 0
abbrev pub run_status : Ending → Left → ℕ
run_status ending left = cond (is_some ending.stop) 5 (cond ending.is_full 4 (cond left.is_stopped 3 (cond ending.is_limited 6 (cond left.is_unfinished 1 0))))

abbrev pub status_of : Outcome → ℕ
status_of Created = 0
status_of Logged = 0
status_of (Turned generation) = 0
status_of Drawn = 0
status_of Verified = 0
status_of NotVerified = 4
status_of (Reported left) = report_status left
status_of (Ran ending left) = run_status ending left
status_of (Failed why) = failure_status why

-- ---- failures

-- memory that was refused while the text was read is not a fault of the text
abbrev pub failure_of_fault : GraphFault → GraphError → Failure
failure_of_fault fault graph_error.NoMemory = failure.NoMemory
failure_of_fault fault other = failure.Graph fault

abbrev pub failure_of_creation : CreateError → Failure
failure_of_creation (creation.Graph fault) = failure_of_fault fault fault.error
failure_of_creation (creation.Store error) = failure.Store error

abbrev pub failure_of_session : SessionError → Failure
failure_of_session session.Read = failure.CannotRead
failure_of_session session.Write = failure.Output
failure_of_session (session.Script line fault) = failure.Script line fault
failure_of_session session.NoMemory = failure.NoMemory

abbrev pub failure_of_report : ReportError → Failure
failure_of_report report.Write = failure.Output
failure_of_report report.NoMemory = failure.NoMemory

-- only the store refuses a turnover
abbrev pub failure_of_turn : CoreError → Failure
failure_of_turn (core.Store error) = failure.Store error
failure_of_turn (core.Refused refusal) = failure.Store store.Halted

-- ---- texts

abbrev pub side_text : Side → List ℕ
side_text A = codes "A"
side_text B = codes "B"

abbrev pub store_text : VaultError → List ℕ
store_text store.Device = codes "device failed"
store_text store.NoMemory = codes "no memory"
store_text store.Halted = codes "store refused: halted"
store_text store.Full = codes "store refused: full"
store_text store.NotAStore = codes "store refused: not a store"
store_text store.Exists = codes "store refused: exists"
store_text (store.Damaged side place) = codes "store refused: damaged " ++ side_text side ++ codes " at " ++ decimal place

-- the message for a failure; a file that cannot be read is named by its path, and for an output that failed there is none
abbrev pub failure_text : (input : List ℕ) → Failure → List ℕ
failure_text input (failure.Graph fault) = codes "graph refused " ++ fault_text fault
failure_text input (failure.Script line fault) = codes "script refused " ++ decimal (fault_number fault) ++ codes " at line " ++ decimal line
failure_text input failure.CannotRead = codes "cannot read " ++ input
failure_text input (failure.Store error) = store_text error
failure_text input failure.NoMemory = codes "no memory"
failure_text input failure.Output = []
