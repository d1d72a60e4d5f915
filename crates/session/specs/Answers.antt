-- What the lines of a script come to: the events that each commits, and the reply to it, by the graph and the facts before it.
use Rattle.std.specs.Prelude.{◌≡◌, ◌≢◌, ◌↔◌, ⊤, ◌≤◌, ℕ, Bool, true, false, List, [], ◌∷◌, length, map, get_or, Option, Some, None, Result, Ok, Err, All}
use Rattle.std.specs.List.{AllByRecursion, Contains}
use Rattle.std.specs.List.Sorted.{IsStrictlySortedBy}
use Rattle.std.specs.Ordering.{nat_cmp, ordering_then}
use Rattle.std.specs.Cmp.Lexicographic.{slice_cmp}
use Rattle.std.specs.declared.cmp.Ordering.{Ordering}
use Rattle.terms.specs.declared.name.Addr.{Addr}
use Rattle.terms.specs.declared.name.Inst.{Inst}
use Rattle.terms.specs.declared.event.Event.{Event}
use Rattle.terms.specs.declared.event.Event.TheVariants.{EnvItem, EnvTag}
use Rattle.terms.specs.Facts.{bad, done}
use Rattle.terms.specs.Facts as stated
use Rattle.terms.specs.Name.{inst_cmp}
use Rattle.terms.specs.Sets.{Facts, with_facts}
use Rattle.graph.specs.Graph.{Graph, EnvironmentMayGet}
use Rattle.graph.specs.Fits.{HasNoFault, IsPrescribed}
use Rattle.graph.specs.Prescribed.{names_of_steps}
use Rattle.machine.specs.declared.refusal.Refusal.{Refusal}
use Rattle.machine.specs.Legal.{IsLegal, IsQuiet}
use Rattle.machine.specs.Machine.{IsValueAt, RefusesGet, RefusesItem, RefusesTag}
use Rattle.machine.specs.State.{AreLegalFrom, Waits}
use Rattle.vault.specs.declared.error.VaultError.TheVariants as store
use Rattle.commit.specs.declared.error.CoreError.{CoreError}
use Rattle.commit.specs.declared.error.CoreError.TheVariants as core
use Rattle.commit.specs.declared.verdict.RunError.{RunError}
use Rattle.commit.specs.declared.verdict.RunError.TheVariants as ended
use Rattle.commit.specs.declared.verdict.Verdict.{Verdict}
use Rattle.commit.specs.declared.verdict.Verdict.TheVariants as verdict
use Rattle.commit.specs.Runs.{IsEnd}
use Rattle.pool.specs.declared.driver.Driver.{Driver}
use Rattle.pool.specs.Driver.{may_be_asked as is_ever_asked, may_spawn as ever_spawns}
use Rattle.script.specs.declared.command.Command.{Command}
use Rattle.script.specs.declared.command.Command.TheVariants.{Put, Tag, Get, Run}
use Rattle.session.specs.declared.reply.Reply.{Reply}
use Rattle.session.specs.declared.reply.Reply.TheVariants as replied

-- how a session runs: how many ends of instances a run may commit, whether it may be asked to stop, whether it starts threads, which may be refused,
-- and whether the store was halted when the session began
pub record Drive : Type 0 where
  pub most : ℕ
  pub may_be_asked : Bool
  pub may_spawn : Bool
  pub was_halted : Bool

abbrev pub drive_of : (most : ℕ) (may_be_asked may_spawn was_halted : Bool) → Drive
drive_of most may_be_asked may_spawn was_halted = record { most = most; may_be_asked = may_be_asked; may_spawn = may_spawn; was_halted = was_halted }

-- how a session runs its steps by this driver, whose probe may ask it to stop or not
abbrev pub drive_by : {R P : Type 0} → (most : ℕ) → (may_stop : Bool) → Driver R P → (was_halted : Bool) → Drive
drive_by most may_stop driver was_halted = drive_of most (is_ever_asked may_stop driver) (ever_spawns driver) was_halted

-- ---- puts and gets

-- the reply to a put of this event, which the environment may be refused for a cause that `why` holds of; and the events that came by it
abbrev pub RepliesPut : Graph → Facts → (Refusal → Type 0) → Event → List Event → Reply → Type 0
RepliesPut g X why event came replied.Done = (came ≡ event ∷ []) × IsLegal g X event
RepliesPut g X why event came (replied.Refused cause) = (came ≡ []) × why cause
RepliesPut g X why event came replied.Full = (came ≡ []) × IsLegal g X event
RepliesPut g X why event came replied.Device = (came ≡ []) × IsLegal g X event
RepliesPut g X why event came replied.NoMemory = (came ≡ []) × IsLegal g X event
RepliesPut g X why event came replied.Halted = came ≡ []
RepliesPut g X why event came other = ⊥

-- the reply to a get at this address, and the events that came by it
abbrev pub RepliesGet : Graph → Facts → Addr → List Event → Reply → Type 0
RepliesGet g X address came (replied.Value at v) = (came ≡ []) × (at ≡ address) × EnvironmentMayGet g address × IsValueAt X address (Some v)
RepliesGet g X address came (replied.Absent at) = (came ≡ []) × (at ≡ address) × EnvironmentMayGet g address × IsValueAt X address None
RepliesGet g X address came (replied.Refused cause) = (came ≡ []) × RefusesGet g address cause
RepliesGet g X address came replied.Halted = came ≡ []
RepliesGet g X address came other = ⊥

-- ---- runs

-- each prescribed instance is done
abbrev pub AreAllDone : Graph → Facts → Type 0
AreAllDone g X = (instance : Inst) → IsPrescribed g X instance → X (done instance) ≡ true

-- there is no fault, and not all prescribed instances are done
abbrev pub HasMoreToDo : Graph → Facts → Type 0
HasMoreToDo g X = HasNoFault X × (AreAllDone g X → ⊥)

-- compares two instances by the name of their step, in the order of the bytes, and then by number and key
abbrev pub instance_cmp : Graph → Inst → Inst → Ordering
instance_cmp g one two = ordering_then (slice_cmp nat_cmp (get_or (names_of_steps g.steps) one.collection.0 []) (get_or (names_of_steps g.steps) two.collection.0 [])) (inst_cmp one two)

-- all instances that are prescribed and not done, each once, with the address of the item that it needs; in this order
pub record AreWaiting (g : Graph) (X : Facts) (list : List (Inst × Addr)) : Type 0 where
  pub wait : All (λ entry. Waits g X entry.0 entry.1) list
  pub all : (instance : Inst) → IsPrescribed g X instance → X (done instance) ≡ false → (address : Addr) × Contains list (instance, address)
  pub rises : IsStrictlySortedBy (instance_cmp g) (map (λ entry. entry.0) list)

-- the reply to a run that committed `count` ends, by the facts after it
abbrev pub TellsRun : Graph → Drive → Facts → (count : ℕ) → Reply → Type 0
TellsRun g drive X count replied.Complete = IsQuiet g X × AreAllDone g X
TellsRun g drive X count (replied.Blocked waiting) = IsQuiet g X × AreWaiting g X waiting.items × (waiting.items ≢ [])
TellsRun g drive X count (replied.Stopped instance kind) = X (bad instance kind) ≡ true
TellsRun g drive X count replied.Limit = HasMoreToDo g X × (count ≡ drive.most)
TellsRun g drive X count replied.Asked = HasMoreToDo g X × (drive.may_be_asked ≡ true) × (count ≢ drive.most)
TellsRun g drive X count replied.Full = HasMoreToDo g X
TellsRun g drive X count replied.NoThread = HasMoreToDo g X × (drive.may_spawn ≡ true)
TellsRun g drive X count replied.NoMemory = HasMoreToDo g X
TellsRun g drive X count replied.Halted = ⊤
TellsRun g drive X count other = ⊥

-- a run commits ends of instances, which are legal one after another, and no more than it may; its reply says what they led to
pub record RepliesRun (g : Graph) (drive : Drive) (X : Facts) (came : List Event) (reply : Reply) : Type 0 where
  pub are_ends : AllByRecursion IsEnd came
  pub legal : AreLegalFrom g X came
  pub within : length came ≤ drive.most
  pub told : TellsRun g drive (with_facts X (stated.facts came)) (length came) reply

-- ---- commands

-- the reply to a command, by its kind
abbrev pub RepliesTo : Graph → Drive → Facts → Command → List Event → Reply → Type 0
RepliesTo g drive X (Put address v) came reply = RepliesPut g X (RefusesItem g X address) (EnvItem address v) came reply
RepliesTo g drive X (Tag name) came reply = RepliesPut g X (RefusesTag g X name) (EnvTag name) came reply
RepliesTo g drive X (Get address) came reply = RepliesGet g X address came reply
RepliesTo g drive X Run came reply = RepliesRun g drive X came reply

-- On a store that was halted when the session began, the reply to each line says so. On any other, no put or get is replied to so; a run may be, if
-- the device fails in it.
abbrev pub TellsHalt : Bool → Command → Reply → Type 0
TellsHalt was_halted Run reply = was_halted ≡ true → reply ≡ replied.Halted
TellsHalt was_halted other reply = (reply ≡ replied.Halted) ↔ (was_halted ≡ true)

-- the reply to a command on a store with these facts, and the events that came by it
abbrev pub Replies : Graph → Drive → Facts → Command → List Event → Reply → Type 0
Replies g drive X command came reply = RepliesTo g drive X command came reply × TellsHalt drive.was_halted command reply

-- ---- what single calls return

-- the reply to an error of a put or a get
abbrev pub reply_of : CoreError → Reply
reply_of (core.Refused refusal) = replied.Refused refusal
reply_of (core.Store store.Full) = replied.Full
reply_of (core.Store store.Device) = replied.Device
reply_of (core.Store store.NoMemory) = replied.NoMemory
reply_of (core.Store other) = replied.Halted

-- the reply to a put
abbrev pub put_reply : {T : Type 0} → Result T CoreError → Reply
put_reply (Ok value) = replied.Done
put_reply (Err error) = reply_of error

-- the reply to a verdict; that to `Blocked` lists what waits in the store, or says that there was no memory for the list
abbrev pub run_reply : Result Verdict RunError → Option Reply
run_reply (Ok verdict.Complete) = Some replied.Complete
run_reply (Ok (verdict.Blocked count)) = None
run_reply (Ok (verdict.Stopped instance kind)) = Some (replied.Stopped instance kind)
run_reply (Ok verdict.Limit) = Some replied.Limit
run_reply (Ok verdict.Asked) = Some replied.Asked
run_reply (Ok verdict.Halted) = Some replied.Halted
run_reply (Err ended.Spawn) = Some replied.NoThread
run_reply (Err ended.NoMemory) = Some replied.NoMemory
run_reply (Err ended.Full) = Some replied.Full

-- the reply lists the instances that wait, and some do; or memory was refused
abbrev pub TellsBlocked : Graph → Facts → Reply → Type 0
TellsBlocked g X (replied.Blocked waiting) = AreWaiting g X waiting.items × (waiting.items ≢ [])
TellsBlocked g X replied.NoMemory = ⊤
TellsBlocked g X other = ⊥
