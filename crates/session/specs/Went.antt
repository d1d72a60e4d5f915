-- How a core goes on by the lines of a script, and the cause of the reply to each.
use Rattle.disk.specs.declared.storage.Disk.{Ghosts}
use Rattle.std.specs.Prelude.{⊤, ◌≡◌, ◌≢◌, ◌⊎◌, ◌<◌, ◌≤◌, ◌↔◌, ℕ, true, false, List, [], ◌∷◌, ◌++◌, length, map}
use Rattle.std.specs.List.{AllByRecursion}
use Rattle.terms.specs.declared.event.Event.{Event}
use Rattle.terms.specs.declared.event.Event.TheVariants.{EnvItem, EnvTag}
use Rattle.terms.specs.Commits.{Commit, events_of}
use Rattle.terms.specs.Sets.{Facts}
use Rattle.graph.specs.Graph.{Graph}
use Rattle.session.specs.declared.rows.TheConstants.{MOST_LINES}
use Rattle.commit.specs.declared.status.Status.TheVariants as status
use Rattle.commit.specs.Calls.{IsTooLong}
use Rattle.commit.specs.Core.{Core, is_halted}
use Rattle.commit.specs.Core as core
use Rattle.commit.specs.Runs.{IsAt, MetFull}
use Rattle.commit.specs.Went.{GoesOn}
use Rattle.script.specs.declared.command.Command.{Command}
use Rattle.script.specs.declared.command.Command.TheVariants.{Put, Tag, Get, Run}
use Rattle.session.specs.declared.reply.Reply.{Reply}
use Rattle.session.specs.declared.reply.Reply.TheVariants as replied
use Rattle.session.specs.Session.{all_of}

-- ---- causes

-- the record of the put does not fit; for a run, which made these commits, the record of ends that might have come after a prefix of them
abbrev pub HasNoRoom : {D : Type 0} → Core D → Command → List Commit → Type 0
HasNoRoom old (Put address v) commits = IsTooLong old (EnvItem address v)
HasNoRoom old (Tag name) commits = IsTooLong old (EnvTag name)
HasNoRoom old Run commits = MetFull (core.graph old) (core.facts old) old.vault.journal.end commits
HasNoRoom old (Get address) commits = ⊥

-- the command puts something
abbrev pub Puts : Command → Type 0
Puts (Put address v) = ⊤
Puts (Tag name) = ⊤
Puts (Get address) = ⊥
Puts Run = ⊥

-- `ok` to each of these commands
abbrev pub dones : List Command → List Reply
dones commands = map (λ _. replied.Done) commands

-- How far the core is after a run with this reply, if the reply does not say it: something is left to do; or no memory was there for the list of those that
-- wait.
abbrev pub IsLeft : {D : Type 0} → Core D → Reply → Type 0
IsLeft c replied.Limit = IsAt c status.Working
IsLeft c replied.Asked = IsAt c status.Working
IsLeft c replied.Full = IsAt c status.Working
IsLeft c replied.NoThread = IsAt c status.Working
IsLeft c replied.NoMemory = IsAt c status.Working ⊎ ((blocked : ℕ) × (blocked ≢ 0) × IsAt c (status.Quiet blocked))
IsLeft c other = ⊤

-- The cause of a reply to a command by which these commits came: `Halted` if the core is halted, and for a run exactly then; `Device` exactly if the device
-- failed in a put; `Full` if a record had no room. After a run the core is as far as its reply says.
pub record HasCause {D : Type 0} (failures : D → ℕ) (old new : Core D) (command : Command) (commits : List Commit) (reply : Reply) : Type 0 where
  pub halted : reply ≡ replied.Halted → is_halted new ≡ true
  pub halts : command ≡ Run → is_halted new ≡ true → reply ≡ replied.Halted
  pub device : (reply ≡ replied.Device) ↔ (Puts command × (failures old.vault.disk < failures new.vault.disk))
  pub full : reply ≡ replied.Full → HasNoRoom old command commits
  pub left : command ≡ Run → IsLeft new reply

-- The same of a run on a store that had this graph and these facts, and whose journal ended there. The device is no cause: if it fails in a run, the reply
-- is `Halted`.
pub record HasCauseOfRun {D : Type 0} (g : Graph) (X : Facts) (from : ℕ) (new : Core D) (commits : List Commit) (reply : Reply) : Type 0 where
  pub halted : (reply ≡ replied.Halted) ↔ (is_halted new ≡ true)
  pub device : reply ≢ replied.Device
  pub full : reply ≡ replied.Full → MetFull g X from commits
  pub left : IsLeft new reply

-- ---- rows

-- what a command puts; nothing, if it is a get or a run
abbrev pub put_by : Command → List Event
put_by (Put address v) = EnvItem address v ∷ []
put_by (Tag name) = EnvTag name ∷ []
put_by (Get address) = []
put_by Run = []

-- Lines that were answered together: one line, with its reply and the events that came by it; or several puts, with the events that came by each, to all of which the reply is
-- `ok`.
pub data Row : Type 0 where
  by_itself : Command → Reply → List Event → Row
  in_group : List Command → List (List Event) → Row

-- the lines of these rows, the replies to them, and the events that came by each
abbrev pub commands_in : List Row → List Command
commands_in [] = []
commands_in (by_itself command reply came ∷ rows) = command ∷ commands_in rows
commands_in (in_group commands events ∷ rows) = commands ++ commands_in rows

abbrev pub replies_in : List Row → List Reply
replies_in [] = []
replies_in (by_itself command reply came ∷ rows) = reply ∷ replies_in rows
replies_in (in_group commands events ∷ rows) = dones commands ++ replies_in rows

abbrev pub events_in : List Row → List (List Event)
events_in [] = []
events_in (by_itself command reply came ∷ rows) = came ∷ events_in rows
events_in (in_group commands events ∷ rows) = events ++ events_in rows

-- ---- lines

module _ {D : Type 0} (storage : Ghosts D) where
  -- the core goes on by commits that have these events, in their order
  pub record GoesOnBy (old new : Core D) (events : List Event) : Type 0 where
    pub commits : List Commit
    pub order : events_of commits ≡ events
    pub goes_on : GoesOn storage old new commits

  -- Several puts that were committed as one: the event of each came by its line, all of them as one commit, and the core is not halted.
  pub record ComeTogether (old new : Core D) (commands : List Command) (events : List (List Event)) : Type 0 where
    pub some : 1 ≤ length commands
    pub few : length commands ≤ MOST_LINES
    pub puts : AllByRecursion Puts commands
    pub each : events ≡ map put_by commands
    pub goes_on : GoesOn storage old new (all_of events ∷ [])
    pub working : (is_halted old ≡ false) × (is_halted new ≡ false)

  -- Row by row: from one row to the next the core goes on by the events of that row. If the row is one line, the reply has its cause; otherwise its events came as one
  -- commit.
  abbrev pub GoesOnByRow : Core D → Core D → List Row → Type 0
  GoesOnByRow old new [] = new ≡ old
  GoesOnByRow old new (by_itself command reply came ∷ later) = (mid : Core D) × (goes : GoesOnBy old mid came) × HasCause storage.failures old mid command goes.commits reply × GoesOnByRow mid new later
  GoesOnByRow old new (in_group commands events ∷ later) = (mid : Core D) × ComeTogether old mid commands events × GoesOnByRow mid new later

  -- Line by line: the lines that were answered are rows, each of one line or of several puts that were committed as one, and the core goes on row by row. So the events of a row are
  -- there when the next one begins, and no crash undoes them from then on. A crash in a row of several puts leaves all of their events, or none of them.
  pub record GoesOnByLine (old new : Core D) (commands : List Command) (replies : List Reply) (events : List (List Event)) : Type 0 where
    pub rows : List Row
    pub left : List Command
    pub commands_are : commands ≡ commands_in rows ++ left
    pub replies_are : replies ≡ replies_in rows
    pub events_are : events ≡ events_in rows
    pub by_row : GoesOnByRow old new rows

  -- how the core goes on by these lines: by all their events together, and line by line
  pub record GoesOnByAll (old new : Core D) (commands : List Command) (replies : List Reply) (events : List (List Event)) : Type 0 where
    pub together : GoesOnBy old new (all_of events)
    pub by_line : GoesOnByLine old new commands replies events
