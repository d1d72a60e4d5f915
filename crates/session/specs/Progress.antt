-- How far the lines of a script are, and what its calls do with them, however a session came there.
use Rattle.disk.specs.declared.storage.Disk.{Ghosts}
use Rattle.std.specs.Prelude.{◌≡◌, ◌≤◌, ℕ, Bool, true, false, List, ◌∷◌, drop, Option, None, Result}
use Rattle.std.specs.Borrow.{GName}
use Rattle.commit.specs.declared.verdict.RunError.{RunError}
use Rattle.commit.specs.declared.verdict.Verdict.{Verdict}
use Rattle.commit.specs.Core.{Core}
use Rattle.script.specs.declared.command.Command.{Command}
use Rattle.script.specs.declared.command.Command.TheVariants.{Run}
use Rattle.session.specs.declared.progress.Progress.{Progress}
use Rattle.session.specs.Answers.{Drive, drive_of}
use Rattle.session.specs.Fails.{AnswersLines}
use Rattle.session.specs.declared.reply.Reply.{Reply}
use Rattle.graph.specs.Graph.{Graph}
use Rattle.session.specs.Lines.{HasRunTo, Stands, TellsReply, TellsReplies, went_of}
use Rattle.session.specs.Streams.{TellsSink}
use Rattle.session.specs.Went.{dones}

-- what is left after at least one, and at most `most`, of these commands
pub record IsBehind (most : ℕ) (commands left : List Command) : Type 0 where
  pub count : ℕ
  pub some : 1 ≤ count
  pub within : count ≤ most
  pub rest : left ≡ drop count commands

-- the session went on, and this was the next line
abbrev pub TakesLine : Command → (before after : Progress) → Type 0
TakesLine command before after = (before.failed ≡ false) × (before.ending.stop ≡ None) × (before.left.now ≡ command ∷ after.left.now)

module _ {S : Type 0} (target : S → GName) (has_failed : S → Bool) (contents : S → Option (List ℕ)) where
  -- if the sink had not failed, the reply was written and counts for the ending, or the sink failed
  abbrev pub TellsLine : Graph → Command → Reply → (here there : S) → (before after : Progress) → Type 0
  TellsLine g command reply here there before after = before.failed ≡ false → TellsReply target has_failed contents g command reply here there before.ending after.ending after.failed

  -- the reply `ok` to each of these puts was written and counts for the ending, or the sink failed
  abbrev pub TellsDone : Graph → List Command → (here there : S) → (before after : Progress) → Type 0
  TellsDone g commands here there before after = TellsReplies target has_failed contents g commands (dones commands) here there before.ending after.ending after.failed

module _ {D : Type 0} (storage : Ghosts D)
    {S : Type 0} (target : S → GName) (has_failed : S → Bool) (contents : S → Option (List ℕ)) where
  -- how a session stands whose lines are so far
  abbrev pub StandsAt : Drive → List Command → (first now : S) → (old new : Core D) → Progress → Type 0
  StandsAt drive commands first now old new progress = Stands storage target has_failed contents drive commands progress.left.now first now old new progress.ending progress.failed

  -- however the session stood before, it stands so now
  abbrev pub KeepsStanding : (before after : Progress) → (here there : S) → (from new : Core D) → Type 0
  KeepsStanding before after here there from new = (drive : Drive) (commands : List Command) (first : S) (old : Core D) → StandsAt drive commands first here old from before → StandsAt drive commands first there old new after

  -- it goes on, and the next line is a run
  abbrev pub IsAtRun : Drive → List Command → (first now : S) → (old new : Core D) → Progress → Type 0
  IsAtRun drive commands first now old new progress =
      Stands storage target has_failed contents drive commands (Run ∷ progress.left.now) first now old new progress.ending progress.failed × (progress.failed ≡ false) × (progress.ending.stop ≡ None)

  -- no line is left to answer
  abbrev pub IsOver : Drive → List Command → (first now : S) → (old new : Core D) → Progress → Type 0
  IsOver drive commands first now old new progress =
      AnswersLines storage drive commands (contents first) (contents now) old new (went_of progress.failed progress.ending) × TellsSink target has_failed first now (went_of progress.failed progress.ending)

  -- however the session came here, it comes to a run, or to its end
  abbrev pub ReachesRun : (before after : Progress) → (here there : S) → (from new : Core D) → (at_run : Bool) → Type 0
  ReachesRun before after here there from new true = (drive : Drive) (commands : List Command) (first : S) (old : Core D) → StandsAt drive commands first here old from before → IsAtRun drive commands first there old new after
  ReachesRun before after here there from new false = (drive : Drive) (commands : List Command) (first : S) (old : Core D) → StandsAt drive commands first here old from before → IsOver drive commands first there old new after

  -- however it came to the run, it goes on from what the run returned
  abbrev pub AnswersRun : (before after : Progress) → (here there : S) → Core D → Result Verdict RunError → Type 0
  AnswersRun before after here there new verdict =
      (most : ℕ) (may_be_asked may_spawn was_halted : Bool) (commands : List Command) (first : S) (old from : Core D) → IsAtRun (drive_of most may_be_asked may_spawn was_halted) commands first here old from before
      → HasRunTo storage most may_be_asked may_spawn from new verdict → StandsAt (drive_of most may_be_asked may_spawn was_halted) commands first there old new after
