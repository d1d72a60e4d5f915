-- A run of a body, as its caller knows it.
use Rattle.std.specs.Prelude.{⊤, ℤ, List, [], ◌∷◌, ◌++◌, Option, Some, None}
use Rattle.std.specs.Borrow.{Bor}
use Rattle.terms.specs.declared.name.Addr.{Addr}
use Rattle.terms.specs.declared.name.Inst.{Inst}
use Rattle.steptree.specs.declared.checked.Checked.{Checked}
use Rattle.steptree.specs.Run.{Read}

-- what a run waits for
pub data Awaits : Type 0 where
  -- nothing: it may go on
  Nothing : Awaits
  -- the value of this item
  ValueOf : Addr → Awaits
  -- nothing any more: it came to its end
  Over : Awaits
  -- nothing any more: memory was refused
  Refused : Awaits

-- a run: its step, its instance, what it has read, and what it waits for
pub record Running : Type 0 where
  pub checked : Bor Checked
  pub instance : Inst
  pub reads : List Read
  pub awaits : Awaits

-- a run of this step for this instance, before it begins
abbrev pub begun : Bor Checked → Inst → Running
begun checked instance = record { checked = checked; instance = instance; reads = []; awaits = Nothing }

-- a run that asks for an item: its step, its instance, what it has read, and the item
pub record Asking : Type 0 where
  pub checked : Bor Checked
  pub instance : Inst
  pub reads : List Read
  pub address : Addr

-- the run of it
abbrev pub resumed : Asking → Running
resumed asking = record { checked = asking.checked; instance = asking.instance; reads = asking.reads; awaits = ValueOf asking.address }

-- the item that is asked for
abbrev pub pending_of : Awaits → Option Addr
pending_of (ValueOf address) = Some address
pending_of Nothing = None
pending_of Over = None
pending_of Refused = None

-- a run may go on with this answer: a value if it asks for an item, and none if it does not; anything after a refusal of memory;
-- never after its end
abbrev pub IsDue : Awaits → Option ℤ → Type 0
IsDue Nothing None = ⊤
IsDue (ValueOf address) (Some value) = ⊤
IsDue Refused answer = ⊤
IsDue awaits answer = ⊥

-- the reads, with the read that is answered now
abbrev pub reads_with : List Read → Awaits → Option ℤ → List Read
reads_with reads (ValueOf address) (Some value) = reads ++ (address, value) ∷ []
reads_with reads awaits answer = reads

-- a run with its answer, before it goes on
abbrev pub answered : Running → Option ℤ → Running
answered run answer = record run { reads = reads_with run.reads run.awaits answer; awaits = Nothing }
