-- A script on a store has one text, whoever runs its steps: one worker or many, and whichever step they claim first.
use Rattle.std.specs.Prelude.{◌≡◌, ⊤, ℕ, List, All}
use Rattle.terms.specs.declared.event.Event.{Event}
use Rattle.terms.specs.Sets.{Facts}
use Rattle.graph.specs.Graph.{Graph}
use Rattle.machine.specs.State.{IsReached}
use Rattle.machine.specs.declared.refusal.Refusal.TheVariants.{Stopped}
use Rattle.script.specs.declared.command.Command.{Command}
use Rattle.session.specs.declared.ending.Ending.{Ending}
use Rattle.session.specs.declared.reply.Reply.{Reply}
use Rattle.session.specs.declared.reply.Reply.TheVariants.{Done, Value, Absent, Complete, Blocked, Refused}
use Rattle.session.specs.Answers.{Drive}
use Rattle.session.specs.Session.{IsSession}

-- A reply that the graph and its environment alone lead to: a put or a get is answered, or refused by graph or facts; a run leaves nothing to do.
-- No such reply: a limit was met, a stop was asked for, a fault stopped the store, the device failed, or room, memory or a thread was refused.
abbrev pub IsOfMeaning : Reply → Type 0
IsOfMeaning Done = ⊤
IsOfMeaning (Value address v) = ⊤
IsOfMeaning (Absent address) = ⊤
IsOfMeaning (Refused (Stopped instance kind)) = ⊥
IsOfMeaning (Refused why) = ⊤
IsOfMeaning Complete = ⊤
IsOfMeaning (Blocked waiting) = ⊤
IsOfMeaning other = ⊥

-- two sessions of the same commands on the same store, both with such replies alone, write the same, whatever drives them and with any limits
abbrev pub HasOneText : Type 0
HasOneText =
    (g : Graph) (E X : Facts) (one two : Drive) (commands : List Command) (replies others : List Reply) (events came : List (List Event)) (ending last : Ending) (text other : List ℕ) →
    IsReached g E X →
    IsSession g one X commands replies events ending text → All IsOfMeaning replies →
    IsSession g two X commands others came last other → All IsOfMeaning others →
    text ≡ other
