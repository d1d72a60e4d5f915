-- What a session comes to: what was read, what came of it, and why it did not come to its end.
use Rattle.disk.specs.declared.storage.Disk.{Ghosts}
use Rattle.std.specs.Prelude.{◌≡◌, ◌⊎◌, ◌<◌, ⊤, ℕ, Bool, List, [], ◌++◌, length, Option, Some, None, Result, Err, IfOk, IfErr, false}
use Rattle.std.specs.Io.KnownBytes.{Appends}
use Rattle.terms.specs.declared.event.Event.{Event}
use Rattle.terms.specs.Sets.{Facts}
use Rattle.graph.specs.Graph.{Graph}
use Rattle.commit.specs.Core.{Core, graph, facts, is_halted}
use Rattle.script.specs.declared.command.Command.{Command}
use Rattle.script.specs.declared.error.ScriptError.TheVariants.{At}
use Rattle.script.specs.declared.parser.TheConstants.{MOST_BYTES}
use Rattle.script.specs.Script.{IsRefused, IsScript}
use Rattle.session.specs.declared.ending.Ending.{Ending}
use Rattle.session.specs.declared.error.SessionError.{SessionError}
use Rattle.session.specs.declared.error.SessionError.TheVariants.{Read, Write, Script, NoMemory}
use Rattle.session.specs.declared.reply.Reply.{Reply}
use Rattle.session.specs.Answers.{Drive, drive_by, drive_of}
use Rattle.session.specs.Session.{AreReplies, IsSession, ending_of, replies_text}
use Rattle.session.specs.Went.{GoesOnByAll}
use Rattle.pool.specs.declared.driver.Driver.{Driver}

-- ---- what was read

-- these are the bytes that a reader had, if they are known
abbrev pub IsAllOf : Option (List ℕ) → List ℕ → Type 0
IsAllOf None script = ⊤
IsAllOf (Some bytes) script = bytes ≡ script

-- the text is all of these bytes, or a prefix of them that is longer than a script may be
abbrev pub IsAllOrTooLarge : (most : ℕ) → Option (List ℕ) → List ℕ → Type 0
IsAllOrTooLarge most None text = ⊤
IsAllOrTooLarge most (Some bytes) text = (rest : List ℕ) × (bytes ≡ text ++ rest) × ((rest ≡ []) ⊎ (most < length text))

-- these are the commands of the script that a reader had
abbrev pub ReadsScript : Graph → Option (List ℕ) → List Command → Type 0
ReadsScript g input commands = (script : List ℕ) × IsAllOf input script × IsScript g script commands

-- ---- errors

-- a text is not a script, and this is its first fault; or memory was refused
abbrev pub IsRefusedAs : Graph → List ℕ → SessionError → Type 0
IsRefusedAs g text (Script number fault) = IsRefused g text (At number fault)
IsRefusedAs g text NoMemory = ⊤
IsRefusedAs g text Read = ⊥
IsRefusedAs g text Write = ⊥

-- what was read is not a script; or the reader returned an error, or memory was refused
abbrev pub FailsToRead : Graph → Option (List ℕ) → SessionError → Type 0
FailsToRead g input (Script number fault) = (script : List ℕ) × IsAllOrTooLarge MOST_BYTES input script × IsRefused g script (At number fault)
FailsToRead g input Read = ⊤
FailsToRead g input NoMemory = ⊤
FailsToRead g input Write = ⊥

-- the output failed, or memory was refused
abbrev pub IsOfOutput : SessionError → Type 0
IsOfOutput Write = ⊤
IsOfOutput NoMemory = ⊤
IsOfOutput Read = ⊥
IsOfOutput (Script number fault) = ⊥

-- the script could not be read, or has a fault, of which this is the first, or memory was refused: the core and the output are unchanged
pub record FailsAtOnce {D : Type 0} (input before behind : Option (List ℕ)) (old new : Core D) (result : Result Ending SessionError) : Type 0 where
  pub error : SessionError
  pub told : result ≡ Err error
  pub why : FailsToRead (graph old) input error
  pub same : new ≡ old
  pub nothing_written : behind ≡ before

-- ---- answers

-- a session of these commands came to its end, and the text that it has by the definition was written
pub record Closes (g : Graph) (drive : Drive) (X : Facts) (commands : List Command) (replies : List Reply) (events : List (List Event)) (ending : Ending) (before behind : Option (List ℕ)) : Type 0 where
  pub text : List ℕ
  pub session : IsSession g drive X commands replies events ending text
  pub written : Appends before behind text

-- the replies to these commands were written, and no report yet
pub record AreWritten (g : Graph) (drive : Drive) (X : Facts) (commands : List Command) (replies : List Reply) (events : List (List Event)) (ending : Ending) (before behind : Option (List ℕ)) : Type 0 where
  pub answered : AreReplies g drive X commands replies events
  pub ends : ending ≡ ending_of commands replies
  pub written : Appends before behind (replies_text g replies)

-- a prefix of the commands was answered, and no further one
pub record HasBegun (g : Graph) (drive : Drive) (X : Facts) (commands begun : List Command) (replies : List Reply) (events : List (List Event)) : Type 0 where
  pub left : List Command
  pub split : commands ≡ begun ++ left
  pub answered : AreReplies g drive X begun replies events

-- An error after the script was read. The sink failed after a prefix of the commands was answered; or all were, memory was refused for the report, and just
-- the replies are written.
abbrev pub FailsLater : Graph → Drive → Facts → (commands begun : List Command) → List Reply → List (List Event) → (before behind : Option (List ℕ)) → SessionError → Type 0
FailsLater g drive X commands begun replies events before behind Write = HasBegun g drive X commands begun replies events
FailsLater g drive X commands begun replies events before behind NoMemory = (begun ≡ commands) × ((ending : Ending) × (ending.stop ≡ None) × AreWritten g drive X commands replies events ending before behind)
FailsLater g drive X commands begun replies events before behind Read = ⊥
FailsLater g drive X commands begun replies events before behind (Script number fault) = ⊥

module _ {D : Type 0} (storage : Ghosts D) (drive : Drive) where
  -- What came of the commands of a script: which of them were begun, the replies, which events came by each line, and how the core went on by them. At
  -- `Ok` all were begun, and `whole` holds. At an error the sink failed after a prefix of them, or memory was refused for the report.
  pub record AnswersBy (whole : List Reply → List (List Event) → Ending → Type 0) (commands : List Command) (before behind : Option (List ℕ)) (old new : Core D) (result : Result Ending SessionError) : Type 0 where
    pub begun : List Command
    pub replies : List Reply
    pub events : List (List Event)
    pub goes_on : GoesOnByAll storage old new begun replies events
    pub closes : IfOk result (λ ending. (begun ≡ commands) × whole replies events ending)
    pub fails : IfErr result (FailsLater (graph old) drive (facts old) commands begun replies events before behind)

  -- the commands were answered without a report
  abbrev pub AnswersLines : List Command → (before behind : Option (List ℕ)) → Core D → Core D → Result Ending SessionError → Type 0
  AnswersLines commands before behind old new result = AnswersBy (λ replies events ending. AreWritten (graph old) drive (facts old) commands replies events ending before behind) commands before behind old new result

  -- the commands were answered, with the report
  abbrev pub AnswersCommands : List Command → (before behind : Option (List ℕ)) → Core D → Core D → Result Ending SessionError → Type 0
  AnswersCommands commands before behind old new result = AnswersBy (λ replies events ending. Closes (graph old) drive (facts old) commands replies events ending before behind) commands before behind old new result

  -- the script that a reader had was read, and its commands were answered
  pub record AnswersScript (input before behind : Option (List ℕ)) (old new : Core D) (result : Result Ending SessionError) : Type 0 where
    pub script : List ℕ
    pub is_all : IsAllOf input script
    pub commands : List Command
    pub is_script : IsScript (graph old) script commands
    pub answers : AnswersCommands commands before behind old new result

  -- what a session comes to: it failed before its first line, or its script was answered
  abbrev pub Answers : (input before behind : Option (List ℕ)) → Core D → Core D → Result Ending SessionError → Type 0
  Answers input before behind old new result = FailsAtOnce input before behind old new result ⊎ AnswersScript input before behind old new result

-- What a session answers to commands, and to the script that a reader had (`AnswersCommands`, `Answers`), from a core and a sink to what became of them; `drive` says how the session runs, by whether the store was halted when it began.
module _ {D : Type 0} (storage : Ghosts D) {S : Type 0} (contents : S → Option (List ℕ)) where
  abbrev pub AnswersAll : (drive : Bool → Drive) → List Command → (here there : S) → (old new : Core D) → Result Ending SessionError → Type 0
  AnswersAll drive commands here there old new result = AnswersCommands storage (drive (is_halted old)) commands (contents here) (contents there) old new result

  abbrev pub AnswersInput : (drive : Bool → Drive) → (input : Option (List ℕ)) → (here there : S) → (old new : Core D) → Result Ending SessionError → Type 0
  AnswersInput drive input here there old new result = Answers storage (drive (is_halted old)) input (contents here) (contents there) old new result

  -- the same, with this driver and this limit; and, with the limit, of the core alone
  abbrev pub AnswersWith : {R P : Type 0} → ℕ → Bool → Driver R P → (input : Option (List ℕ)) → (here there : S) → (old new : Core D) → Result Ending SessionError → Type 0
  AnswersWith limit may_stop driver = AnswersInput (drive_by limit may_stop driver)

  abbrev pub AnswersAlone : ℕ → (input : Option (List ℕ)) → (here there : S) → (old new : Core D) → Result Ending SessionError → Type 0
  AnswersAlone limit = AnswersInput (drive_of limit false false)
