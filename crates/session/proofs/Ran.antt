-- What a run shows: a prefix of its events is legal, and the cause of the reply to its line.
use Rattle.std.proofs.Common.{◌++◌, ℕ, List, [], ◌∷◌}
use Rattle.terms.specs.declared.event.Event.{Event}
use Rattle.terms.specs.Commits.{Commit}
use Rattle.terms.specs.Facts.{event_facts}
use Rattle.terms.specs.Sets.{Facts, with_facts}
use Rattle.graph.specs.Graph.{Graph}
use Rattle.machine.specs.State.{AreLegalFrom}
use Rattle.commit.specs.Core.{Core, facts, graph}
use Rattle.script.specs.declared.command.Command.TheVariants.{Run}
use Rattle.session.specs.declared.reply.Reply.{Reply}
use Rattle.session.specs.Went.{HasCause, HasCauseOfRun}

pub front_legal : (g : Graph) (X : Facts) (first more : List Event) → AreLegalFrom g X (first ++ more) → AreLegalFrom g X first
front_legal g X [] more are = tt
front_legal g X (event ∷ first) more are = (are.0, front_legal g (with_facts X (event_facts event)) first more are.1)

-- the cause of the reply is a cause for the line
pub cause_of_run : {D : Type 0} (failures : D → ℕ) (old new : Core D) (commits : List Commit) (reply : Reply) → HasCauseOfRun (graph old) (facts old) old.vault.journal.end new commits reply → HasCause failures old new Run commits reply
cause_of_run failures old new commits reply it = record { halted = it.halted.0; halts = λ run. it.halted.1; device = (λ is. absurd (it.device is), λ both. absurd both.0); full = it.full; left = λ _. it.left }
