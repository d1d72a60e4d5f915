-- A session: the lines of a script, one after another, with their events and replies.
use Rattle.std.specs.Prelude.{◌≡◌, ◌≢◌, ◌⊎◌, ◌||◌, ◌++◌, ℕ, Bool, true, false, List, [], ◌∷◌, Option, Some, None}
use Rattle.std.specs.List.{flat_map}
use Rattle.terms.specs.declared.event.Event.{Event}
use Rattle.terms.specs.Facts as stated
use Rattle.terms.specs.Sets.{Facts, with_facts}
use Rattle.graph.specs.Graph.{Graph}
use Rattle.report.specs.ReportText.{IsReport}
use Rattle.script.specs.declared.command.Command.{Command}
use Rattle.script.specs.declared.command.Command.TheVariants.{Run}
use Rattle.session.specs.declared.ending.Ending.{Ending}
use Rattle.session.specs.declared.ending.Stop.{Stop}
use Rattle.session.specs.declared.ending.Stop.TheVariants as stop
use Rattle.session.specs.declared.reply.Reply.{Reply}
use Rattle.session.specs.declared.reply.Reply.TheVariants as replied
use Rattle.session.specs.Answers.{Drive, Replies}
use Rattle.session.specs.Replies.{reply_text}

-- how a reply ends a session, if it does
abbrev pub stop_of : Reply → Option Stop
stop_of replied.Halted = Some stop.Halted
stop_of replied.Device = Some stop.Device
stop_of replied.NoMemory = Some stop.NoMemory
stop_of replied.NoThread = Some stop.NoThread
stop_of other = None

-- The replies to the commands in order, and the events that came by each of them, on a store with these facts. Each command finds the facts of those
-- before it; a reply that ends the session is the last.
abbrev pub AreReplies : Graph → Drive → Facts → List Command → List Reply → (events : List (List Event)) → Type 0
AreReplies g drive X [] replies events = (replies ≡ []) × (events ≡ [])
AreReplies g drive X (command ∷ more) (reply ∷ rest) (came ∷ later) = Replies g drive X command came reply
    × (((stop_of reply ≡ None) × AreReplies g drive (with_facts X (stated.facts came)) more rest later) ⊎ ((stop_of reply ≢ None) × (rest ≡ []) × (later ≡ [])))
AreReplies g drive X commands replies events = ⊥

-- all events of some lines, in their order
abbrev pub all_of : List (List Event) → List Event
all_of events = flat_map (λ came. came) events

-- ---- endings

abbrev pub is_full : Reply → Bool
is_full replied.Full = true
is_full other = false

abbrev pub is_limit : Reply → Bool
is_limit replied.Limit = true
is_limit other = false

-- each run says anew whether the limit was met, and no other line does
abbrev pub limited_by : Bool → Command → Reply → Bool
limited_by before Run reply = is_limit reply
limited_by before other reply = before

-- the ending of a session after one more reply
abbrev pub with_reply : Ending → Command → Reply → Ending
with_reply ending command reply = record { stop = stop_of reply; is_full = ending.is_full || is_full reply; is_limited = limited_by ending.is_limited command reply }

abbrev pub ending_from : Ending → List Command → List Reply → Ending
ending_from ending (command ∷ more) (reply ∷ rest) = ending_from (with_reply ending command reply) more rest
ending_from ending (command ∷ more) [] = ending
ending_from ending [] replies = ending

-- no reply ended it, nothing was full, and no limit was met
abbrev pub no_ending : Ending
no_ending = record { stop = None; is_full = false; is_limited = false }

abbrev pub ending_of : List Command → List Reply → Ending
ending_of commands replies = ending_from no_ending commands replies

-- ---- what is written

-- the text of these replies
abbrev pub replies_text : Graph → List Reply → List ℕ
replies_text g replies = flat_map (reply_text g) replies

-- ---- sessions

-- the report, unless a reply ended the session
abbrev pub IsClosing : Graph → Facts → Option Stop → List ℕ → Type 0
IsClosing g X None text = IsReport g X text
IsClosing g X (Some end) text = text ≡ []

-- A session of these commands on a store with these facts: the replies with the events of each line, then the report; its ending, and its text.
pub record IsSession (g : Graph) (drive : Drive) (X : Facts) (commands : List Command) (replies : List Reply) (events : List (List Event)) (ending : Ending) (text : List ℕ) : Type 0 where
  pub answered : AreReplies g drive X commands replies events
  pub ends : ending ≡ ending_of commands replies
  pub closing : List ℕ
  pub closes : IsClosing g (with_facts X (stated.facts (all_of events))) ending.stop closing
  pub whole : text ≡ replies_text g replies ++ closing
