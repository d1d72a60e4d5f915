-- The lines of a script: what those that were answered came to, and how a session goes on from there.
use Rattle.disk.specs.declared.storage.Disk.{Ghosts}
use Rattle.std.specs.Prelude.{◌≡◌, ◌≢◌, ◌⊎◌, ◌≤◌, ℕ, Bool, true, false, List, [], ◌∷◌, ◌++◌, length, map, take, Option, Some, None, Result, Ok, Err}
use Rattle.std.specs.Borrow.{GName}
use Rattle.std.specs.Io.KnownBytes.{Appends}
use Rattle.terms.specs.declared.event.Event.{Event}
use Rattle.terms.specs.Commits.{Commit}
use Rattle.terms.specs.Facts as stated
use Rattle.terms.specs.Sets.{Facts, with_facts}
use Rattle.graph.specs.Graph.{Graph}
use Rattle.machine.specs.Machine.{waiting_count}
use Rattle.machine.specs.State.{AreLegalFrom}
use Rattle.machine.specs.Status.{NoneIsActive}
use Rattle.commit.specs.declared.verdict.RunError.{RunError}
use Rattle.commit.specs.declared.verdict.Verdict.{Verdict}
use Rattle.commit.specs.declared.verdict.Verdict.TheVariants as came_to
use Rattle.commit.specs.Calls.{KeepsStore}
use Rattle.commit.specs.Core.{Core, facts, graph, is_halted}
use Rattle.commit.specs.Runs.{MetFull, RunsWithin, TellsVerdict}
use Rattle.commit.specs.Went.{GoesOn}
use Rattle.report.specs.Sinks.{HasJustFailed, StaysCalm}
use Rattle.script.specs.declared.command.Command.{Command}
use Rattle.script.specs.declared.command.Command.TheVariants.{Run}
use Rattle.session.specs.declared.ending.Ending.{Ending}
use Rattle.session.specs.declared.error.SessionError.{SessionError}
use Rattle.session.specs.declared.error.SessionError.TheVariants.{Write}
use Rattle.session.specs.declared.reply.Reply.{Reply}
use Rattle.session.specs.declared.rows.Together.{Together}
use Rattle.session.specs.declared.rows.Together.TheVariants.{Came, Apart, Halted}
use Rattle.session.specs.Answers.{Drive, Replies, TellsBlocked, TellsRun, drive_of}
use Rattle.session.specs.Fails.{AnswersCommands, AnswersLines}
use Rattle.session.specs.Replies.{reply_text}
use Rattle.session.specs.Session.{AreReplies, IsClosing, all_of, ending_from, no_ending, replies_text, stop_of, with_reply}
use Rattle.session.specs.Streams.{TellsSink}
use Rattle.session.specs.Went.{ComeTogether, GoesOnBy, GoesOnByLine, HasCause, HasCauseOfRun, put_by}

-- From these facts on the commands `begun` were answered with these replies, and these events came; the session went on, with this ending so far.
pub record Answered (g : Graph) (drive : Drive) (X : Facts) (begun : List Command) (ending : Ending) (replies : List Reply) (events : List (List Event)) : Type 0 where
  pub follows : (more : List Command) (rest : List Reply) (later : List (List Event)) → AreReplies g drive (with_facts X (stated.facts (all_of events))) more rest later → AreReplies g drive X (begun ++ more) (replies ++ rest) (events ++ later)
  pub ends : (more : List Command) (rest : List Reply) → ending_from no_ending (begun ++ more) (replies ++ rest) ≡ ending_from ending more rest

-- what the lines come to with this ending, if the sink failed, or did not
abbrev pub went_of : (failed : Bool) → Ending → Result Ending SessionError
went_of true ending = Err Write
went_of false ending = Ok ending

module _ {D : Type 0} (core : Core D) where
  -- ---- the reply to a run that left this core, and returned this verdict

  -- it tells of the run what is so
  abbrev pub TellsByVerdict : Result Verdict RunError → Reply → Type 0
  TellsByVerdict verdict reply = (g : Graph) (X : Facts) (from : ℕ) (commits : List Commit) (may_be_asked may_spawn was_halted : Bool) (limit count : ℕ)
      → TellsVerdict (MetFull g X from commits) may_be_asked may_spawn core limit count verdict → TellsRun (graph core) (drive_of limit may_be_asked may_spawn was_halted) (facts core) count reply

  -- if it says that something failed, that has its cause in the run
  abbrev pub HasCauseByVerdict : Result Verdict RunError → Reply → Type 0
  HasCauseByVerdict verdict reply = (g : Graph) (X : Facts) (from : ℕ) (commits : List Commit) (may_be_asked may_spawn : Bool) (limit count : ℕ)
      → TellsVerdict (MetFull g X from commits) may_be_asked may_spawn core limit count verdict → HasCauseOfRun g X from core commits reply

  -- if it does not end the session, the core is not halted
  abbrev pub IsOpenByVerdict : Result Verdict RunError → Reply → Type 0
  IsOpenByVerdict verdict reply = (g : Graph) (X : Facts) (from : ℕ) (commits : List Commit) (may_be_asked may_spawn : Bool) (limit count : ℕ)
      → TellsVerdict (MetFull g X from commits) may_be_asked may_spawn core limit count verdict → stop_of reply ≡ None → is_halted core ≡ false

  -- where the core is not halted, nothing is left to do and instances wait, the reply lists these, or memory was refused
  abbrev pub TellsWaiting : Reply → Type 0
  TellsWaiting reply = is_halted core ≡ false → NoneIsActive core.machine → waiting_count core.machine ≢ 0 → TellsBlocked (graph core) (facts core) reply

  -- the session is closed with this ending, and the report that is due then was written
  abbrev pub ClosesWith : Ending → (before behind : Option (List ℕ)) → Ending → Type 0
  ClosesWith ending before behind closed = (closed ≡ ending) × ((text : List ℕ) × IsClosing (graph core) (facts core) ending.stop text × Appends before behind text)

module _ {D : Type 0} (storage : Ghosts D) where
  -- the core went on by these lines, and may go on by more
  pub record Linked (old new : Core D) (begun : List Command) (replies : List Reply) (events : List (List Event)) : Type 0 where
    pub follows : (last : Core D) (more : List Command) (rest : List Reply) (later : List (List Event)) → GoesOnByLine storage new last more rest later
        → GoesOnByLine storage old last (begun ++ more) (replies ++ rest) (events ++ later)

  -- ---- one line

  -- What a command comes to: the events that came by it, how the core goes on by them, and the reply with its cause. If the reply does not end the
  -- session, the core is not halted by it.
  pub record ComesTo (drive : Drive) (old new : Core D) (command : Command) (reply : Reply) : Type 0 where
    pub came : List Event
    pub goes_on : GoesOnBy storage old new came
    pub replies : Replies (graph old) drive (facts old) command came reply
    pub cause : HasCause storage.failures old new command goes_on.commits reply
    pub stays : stop_of reply ≡ None → is_halted new ≡ is_halted old

  -- These puts came as one commit: their events were legal, one after another.
  pub record CameTogether (old new : Core D) (commands : List Command) : Type 0 where
    pub legal : AreLegalFrom (graph old) (facts old) (all_of (map put_by commands))
    pub together : ComeTogether storage old new commands (map put_by commands)

  -- any command but a run comes to its reply, and a run is left to do
  abbrev pub AnswersAtOnce : (old new : Core D) → Command → Option Reply → Type 0
  AnswersAtOnce old new command None = (command ≡ Run) × (new ≡ old)
  AnswersAtOnce old new command (Some reply) = (drive : Drive) → drive.was_halted ≡ is_halted old → ComesTo drive old new command reply

  -- the first of these commands came to this reply
  abbrev pub AnswersFirst : (old new : Core D) → List Command → Reply → Type 0
  AnswersFirst old new [] reply = ⊥
  AnswersFirst old new (command ∷ rest) reply = AnswersAtOnce old new command (Some reply)

  -- the first ones of these puts came as one commit
  pub record FirstCame (old new : Core D) (commands : List Command) (count : ℕ) : Type 0 where
    pub some : 1 ≤ count
    pub within : count ≤ length commands
    pub came : CameTogether old new (take count commands)

  -- what some puts come to: the first ones came as one commit; or the first alone was answered, with this reply
  abbrev pub AnswersSome : (old new : Core D) → List Command → Result ℕ Reply → Type 0
  AnswersSome old new commands (Ok count) = FirstCame old new commands count
  AnswersSome old new commands (Err reply) = AnswersFirst old new commands reply

  -- the same if they are tried as one commit: or nothing came, and nothing has changed but room in memory
  abbrev pub AnswersTogether : (old new : Core D) → List Command → Together → Type 0
  AnswersTogether old new commands (Came count) = FirstCame old new commands count
  AnswersTogether old new commands Apart = KeepsStore old new × GoesOn storage old new []
  AnswersTogether old new commands (Halted reply) = AnswersFirst old new commands reply

  -- a run on one thread, or by workers, returned this
  pub record HasRunTo (most : ℕ) (may_be_asked may_spawn : Bool) (old new : Core D) (verdict : Result Verdict RunError) : Type 0 where
    pub halted : is_halted old ≡ true → (new ≡ old) × (verdict ≡ Ok came_to.Halted)
    pub runs : is_halted old ≡ false → RunsWithin storage may_be_asked may_spawn old new most verdict

  -- the command `run` comes to this reply, if the run returned this
  abbrev pub AnswersVerdict : (new : Core D) → Result Verdict RunError → Reply → Type 0
  AnswersVerdict new verdict reply = (old : Core D) (most : ℕ) (may_be_asked may_spawn : Bool) → HasRunTo most may_be_asked may_spawn old new verdict → ComesTo (drive_of most may_be_asked may_spawn (is_halted old)) old new Run reply

  -- ---- the lines so far

  -- The lines before those that are left were answered; none of their replies ended the session, and all are written.
  pub record SoFar (drive : Drive) (commands left : List Command) (before behind : Option (List ℕ)) (old new : Core D) (ending : Ending) : Type 0 where
    pub begun : List Command
    pub replies : List Reply
    pub events : List (List Event)
    pub split : commands ≡ begun ++ left
    pub same : drive.was_halted ≡ is_halted new
    pub goes_on : GoesOnBy storage old new (all_of events)
    pub linked : Linked old new begun replies events
    pub answered : Answered (graph old) drive (facts old) begun ending replies events
    pub written : Appends before behind (replies_text (graph old) replies)

  module _ {S : Type 0} (target : S → GName) (has_failed : S → Bool) (contents : S → Option (List ℕ)) where
    -- How a session stands that began with the core `old` and the sink `first`: it goes on to the lines that are left, or the sink failed or a reply
    -- ended it.
    pub record Stands (drive : Drive) (commands left : List Command) (first now : S) (old new : Core D) (ending : Ending) (failed : Bool) : Type 0 where
      pub sink : TellsSink target has_failed first now (went_of failed ending)
      pub going : failed ≡ false → ending.stop ≡ None → SoFar drive commands left (contents first) (contents now) old new ending
      pub over : (failed ≡ true) ⊎ (ending.stop ≢ None) → AnswersLines storage drive commands (contents first) (contents now) old new (went_of failed ending)

  module _ {S : Type 0} (contents : S → Option (List ℕ)) where
    -- whatever lines came to this, with the report the session comes to that
    abbrev pub ReportFollows : (old new : S) → Core D → (went result : Result Ending SessionError) → Type 0
    ReportFollows old new core went result = (drive : Drive) (commands : List Command) (first : S) (begun : Core D) → AnswersLines storage drive commands (contents first) (contents old) begun core went
        → AnswersCommands storage drive commands (contents first) (contents new) begun core result

module _ {S : Type 0} (target : S → GName) (has_failed : S → Bool) where
  -- whatever was written before, the sink failed in it exactly where the result says so
  abbrev pub SinkFollows : (old new : S) → (went result : Result Ending SessionError) → Type 0
  SinkFollows old new went result = (first : S) → TellsSink target has_failed first old went → TellsSink target has_failed first new result

  -- the reply was written and counts for the ending, or the sink failed
  abbrev pub TellsReply : (contents : S → Option (List ℕ)) → Graph → Command → Reply → (old new : S) → (before ending : Ending) → (failed : Bool) → Type 0
  TellsReply contents g command reply old new before ending true = HasJustFailed target has_failed old new
  TellsReply contents g command reply old new before ending false = StaysCalm target has_failed old new × (ending ≡ with_reply before command reply) × Appends (contents old) (contents new) (reply_text g reply)

  -- the same of several replies
  abbrev pub TellsReplies : (contents : S → Option (List ℕ)) → Graph → List Command → List Reply → (old new : S) → (before ending : Ending) → (failed : Bool) → Type 0
  TellsReplies contents g commands replies old new before ending true = HasJustFailed target has_failed old new
  TellsReplies contents g commands replies old new before ending false = StaysCalm target has_failed old new × (ending ≡ ending_from before commands replies) × Appends (contents old) (contents new) (replies_text g replies)
