-- A body that is run over what a hub has.
use Rattle.std.specs.Borrow.{Bor}
use Rattle.std.specs.Prelude.{◌≡◌, ◌⊎◌, false, List, [], Option, None, Some}
use mathlib.Core.List.{IsPrefix}
use Rattle.terms.specs.declared.name.Addr.{Addr}
use Rattle.terms.specs.declared.name.Inst.{Inst}
use Rattle.terms.specs.Sets.{Facts, among, stated}
use Rattle.steptree.specs.declared.body.Body.{Body}
use Rattle.steptree.specs.Run.{Read}
use Rattle.steptree.specs.Bodies.{Along, Asks}
use Rattle.graph.specs.Graph.{Graph}
use Rattle.graph.specs.Fits.{IsAbsent}
use Rattle.machine.specs.Machine.{RefusesRead}
use Rattle.machine.specs.Meaning.{items}
use Rattle.machine.specs.Results.{AreItems, IsBodyOf}
use Rattle.vault.specs.declared.error.VaultError.TheVariants.{NoMemory}
use Rattle.commit.specs.declared.error.CoreError.{CoreError}
use Rattle.commit.specs.declared.error.CoreError.TheVariants.{Store}
use Rattle.commit.specs.Batch.{Batch, ends_said, facts_with}
use Rattle.commit.specs.Came.{IsOutcomeIn}
use Rattle.steplang.specs.Running.{Running, ValueOf}
use Rattle.hub.specs.declared.running.Found.{Found}
use Rattle.hub.specs.declared.running.Found.TheVariants.{Kept, There, Nowhere}
use Rattle.hub.specs.declared.running.Ran.{Ran}
use Rattle.hub.specs.declared.running.Ran.TheVariants.{Ended, Waits}
use Rattle.passes.specs.Known.{Known}
use Rattle.hub.specs.Replies.{RefusesQuestion}
use Rattle.passes.specs.Opening.{Opening}
use Rattle.hub.specs.Opening.{facts_behind}

-- the pass has seen no less than before, and nothing else of it has changed
pub record IsAhead (old new : Known) : Type 0 where
  pub starts : IsPrefix old.seen new.seen
  pub number : new.number ≡ old.number
  pub mine : new.mine ≡ old.mine
  pub told : new.told ≡ old.told
  pub asked : new.asked ≡ old.asked
  pub heard : new.heard ≡ old.heard

-- The run is of this instance and of the body of its step; what it read are items of this set; and along these reads the body asks for the item that the
-- run awaits.
pub record WaitsIn (g : Graph) (X : Facts) (instance : Inst) (run : Running) : Type 0 where
  pub instance_is : run.instance ≡ instance
  pub body : IsBodyOf g instance run.checked.now.body
  pub reads : AreItems X run.reads
  pub address : Addr
  pub awaits : run.awaits ≡ ValueOf address
  pub asks : Along run.checked.now.body instance.key run.reads (Asks address)

-- the batch that is lent, if one is
abbrev pub kept_of : Option (Bor Batch) → Option Batch
kept_of None = None
kept_of (Some batch) = Some batch.now

-- what the batch says, if there is one
abbrev pub said_by : Option Batch → Facts
said_by None = among []
said_by (Some batch) = stated (ends_said batch)

-- An end, or a run that awaits an item; what it read are items of this set or of those that a batch puts, and the item that it awaits is none of these. If it
-- read none that only the batch puts, what it read are items of the set.
abbrev pub RanIn : Graph → Facts → Option Batch → Inst → Ran → Type 0
RanIn g X kept instance (Ended outcome statements) = IsOutcomeIn g (facts_with X kept) instance outcome
RanIn g X kept instance (Waits run ahead) = (it : WaitsIn g (facts_with X kept) instance run) × IsAbsent (facts_with X kept) it.address × (ahead ≡ false → WaitsIn g X instance run)

-- what a look for an item found: it is put by the batch; it is of the set; or it is neither
abbrev pub IsFoundIn : Facts → Option Batch → Addr → Found → Type 0
IsFoundIn X kept address (Kept value) = items (facts_with X kept) address value
IsFoundIn X kept address (There value) = items X address value
IsFoundIn X kept address Nowhere = IsAbsent (facts_with X kept) address

-- the body of the instance, along items of this set that it read, asks for the item at this address
pub record AsksFor (g : Graph) (X : Facts) (instance : Inst) (address : Addr) : Type 0 where
  pub body : Body
  pub is_body : IsBodyOf g instance body
  pub reads : List Read
  pub there : AreItems X reads
  pub asks : Along body instance.key reads (Asks address)

-- which errors end it: `NoMemory`, and those of a read that the body asks for
abbrev pub StopsRun : Graph → Facts → Inst → CoreError → Type 0
StopsRun g X instance error = (error ≡ Store NoMemory) ⊎ ((address : Addr) × AsksFor g X instance address × RefusesQuestion (RefusesRead g address) error)

-- the same, of the facts behind the commits that a pass has seen, and of what a batch puts
abbrev pub StopsRunIn : Opening → Known → Option (Bor Batch) → Inst → CoreError → Type 0
StopsRunIn opening known kept = StopsRun opening.graph (facts_with (facts_behind opening known.seen) (kept_of kept))
