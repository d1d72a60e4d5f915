-- What a session comes to, by what it read.
use Rattle.disk.specs.declared.storage.Disk.{Ghosts}
use Rattle.std.proofs.Common.{◌≡◌, ℕ, List, Option, Result, Err, inl, inr, refl, subst, sym}
use Rattle.graph.specs.Graph.{Graph}
use Rattle.commit.specs.Core.{Core, graph}
use Rattle.script.specs.declared.command.Command.{Command}
use Rattle.script.specs.Script.{IsScript}
use Rattle.session.specs.declared.ending.Ending.{Ending}
use Rattle.session.specs.declared.error.SessionError.{SessionError}
use Rattle.session.specs.Answers.{Drive}
use Rattle.session.specs.Fails.{Answers, AnswersCommands, FailsToRead, IsAllOf}

module _ {D : Type 0} (storage : Ghosts D) (drive : Drive) (input before behind : Option (List ℕ)) (old new : Core D) (g : Graph) (is : g ≡ graph old) where
  -- the script was read, and its commands were answered
  pub answered : (result : Result Ending SessionError) (items commands : List Command) → commands ≡ items → (script : List ℕ) × IsAllOf input script × IsScript g script items
      → AnswersCommands storage drive commands before behind old new result → Answers storage drive input before behind old new result
  answered result items commands same read answers = inr (record {
    script = read.0;
    is_all = read.1;
    commands = commands;
    is_script = subst (λ (h : Graph). IsScript h read.0 commands) is (subst (λ (list : List Command). IsScript g read.0 list) (sym same) read.2);
    answers = answers;
  })

  -- it was not read, or is none
  pub unread : (error : SessionError) → FailsToRead g input error → Answers storage drive input before before old old (Err error)
  unread error fails = inl (record { error = error; told = refl; why = subst (λ (h : Graph). FailsToRead h input error) is fails; same = refl; nothing_written = refl })
