-- The calls of a core that change it, each with its arguments and what it returned; and the commits that they acknowledge.
use Rattle.disk.specs.declared.storage.Disk.{Ghosts}
use Rattle.std.specs.Prelude.{◌≡◌, ◌<◌, ℕ, ℤ, length, List, [], ◌∷◌, Option, Result, Ok, Err}
use Rattle.terms.specs.declared.name.Addr.{Addr}
use Rattle.terms.specs.declared.name.Tag.{Tag}
use Rattle.terms.specs.declared.name.Inst.{Inst}
use Rattle.terms.specs.declared.put.Put.{Put}
use Rattle.terms.specs.declared.event.Event.{Event}
use Rattle.terms.specs.declared.event.Event.TheVariants.{EnvItem, EnvTag}
use Rattle.terms.specs.Commits.{Commit}
use Rattle.instances.specs.declared.state.State.TheVariants.{Ready}
use Rattle.machine.specs.declared.group.Ended.{Ended}
use Rattle.machine.specs.Group.{cut}
use Rattle.commit.specs.declared.error.CoreError.{CoreError}
use Rattle.commit.specs.declared.outcome.Outcome.{Outcome}
use Rattle.commit.specs.declared.outcome.Committed.{Committed}
use Rattle.commit.specs.Batch.{EndsAll}
use Rattle.commit.specs.Calls.{PutsItem, PutsTag}
use Rattle.commit.specs.Core.{Core}
use Rattle.commit.specs.Outcome.{IsEndOf, end_of}
use Rattle.commit.specs.Runs.{Ends}
use Rattle.commit.specs.Steps.{Claims, Moves, Parks, SetsAllowance, Wakes}
use Rattle.commit.specs.Turning.{TurnsAs}

-- `put_item`, `put_tag`, `claim`, `park`, `release`, `wake`, `finish`, `finish_all`, `turn` and `allow`
pub data Call : Type 0 where
  puts_item : Addr → ℤ → Result (Unit {0}) CoreError → Call
  puts_tag : Tag → Result (Unit {0}) CoreError → Call
  claims : ℕ → Result (Option Inst) CoreError → Call
  parks : Inst → Addr → Result (Unit {0}) CoreError → Call
  releases : Inst → Call
  wakes : List Put → Call
  finishes : Inst → Outcome → Result Committed CoreError → Call
  finishes_all : List Inst → (ends : List Event) → Result Ended CoreError → Call
  turns : Result ℕ CoreError → Call
  allows : ℕ → Result (Unit {0}) CoreError → Call

-- ---- what they do

-- The call does what its contract says, from one core to the next.
module _ {D : Type 0} (storage : Ghosts D) where
  abbrev pub Does : Call → (old new : Core D) → Type 0
  Does (puts_item address value result) old new = PutsItem storage old new address value result
  Does (puts_tag name result) old new = PutsTag storage old new name result
  Does (claims at result) old new = Claims old new at result
  Does (parks instance address result) old new = Parks old new instance address result
  Does (releases instance) old new = Moves old new instance Ready
  Does (wakes puts) old new = Wakes old new puts
  Does (finishes instance outcome result) old new = Ends storage old new instance outcome result
  Does (finishes_all tasks ends result) old new = EndsAll storage old new tasks ends result
  Does (turns result) old new = TurnsAs storage old new result
  Does (allows count result) old new = SetsAllowance old new count result

-- ---- what they commit

-- The commit that a call acknowledged, if it returned `Ok`: its event, by itself; or of several ends as many as came, together. The other calls acknowledge none.
abbrev pub acknowledged : Call → List Commit
acknowledged (puts_item address value (Ok done)) = (EnvItem address value ∷ []) ∷ []
acknowledged (puts_item address value (Err error)) = []
acknowledged (puts_tag name (Ok done)) = (EnvTag name ∷ []) ∷ []
acknowledged (puts_tag name (Err error)) = []
acknowledged (claims at result) = []
acknowledged (parks instance address result) = []
acknowledged (releases instance) = []
acknowledged (wakes puts) = []
acknowledged (finishes instance outcome (Ok committed)) = (end_of committed instance outcome ∷ []) ∷ []
acknowledged (finishes instance outcome (Err error)) = []
acknowledged (finishes_all tasks ends (Ok ended)) = cut ended ends ∷ []
acknowledged (finishes_all tasks ends (Err error)) = []
acknowledged (turns result) = []
acknowledged (allows count result) = []

-- the commit that a call tries to make, whatever it returned
abbrev pub Tries : Call → Commit → Type 0
Tries (puts_item address value result) commit = commit ≡ EnvItem address value ∷ []
Tries (puts_tag name result) commit = commit ≡ EnvTag name ∷ []
Tries (claims at result) commit = ⊥
Tries (parks instance address result) commit = ⊥
Tries (releases instance) commit = ⊥
Tries (wakes puts) commit = ⊥
Tries (finishes instance outcome result) commit = (end : Event) × IsEndOf outcome instance end × (commit ≡ end ∷ [])
Tries (finishes_all tasks ends result) commit = (0 < length commit) × ((ended : Ended) × (commit ≡ cut ended ends))
Tries (turns result) commit = ⊥
Tries (allows count result) commit = ⊥
