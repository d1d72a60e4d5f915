-- The result for a request to put follows from those for its name, its key and its value.
use denote.Bor.{Bor}
use Rattle.std.proofs.Common.{◌≡◌, ℕ, ℤ, List, Option, Result, MatchResult, subst}
use Rattle.graph.specs.Graph.{Graph}
use Rattle.script.specs.Faults.{AreInRange, IsFormFault, Names}
use Rattle.script.specs.Forms.{Form, put, tag, get, run}
use Rattle.script.specs.Requests.{HasRead, HasValue, IsRequest}
use Rattle.script.specs.declared.command.Command.{Command}
use Rattle.script.specs.declared.error.ScriptFault.{ScriptFault}
use Rattle.script.specs.declared.key.WrittenKey.{WrittenKey}
use Rattle.script.specs.declared.request.Request.{Request}
use Rattle.script.specs.declared.request.Request.TheVariants as request

abbrev pub IsAnswered : Graph → Result Command ScriptFault → Form → Type 0
IsAnswered g r form = MatchResult r (λ command. AreInRange form × Names g form command) (IsFormFault g form)

by_form : (g : Graph) (name : Bor (List ℕ)) (key : WrittenKey) (value : Option ℤ) (r : Result Command ScriptFault)
    → ((components : List ℤ) → (number : ℤ) → HasRead key components → HasValue value number → IsAnswered g r (put name.now components number))
    → (form : Form) → IsRequest (request.Put name key value) form → IsAnswered g r form
by_form g name key value r answers (put n k v) h = subst (λ (text : List ℕ). IsAnswered g r (put text k v)) h.0 (answers k v h.1 h.2)
by_form g name key value r answers (tag n k) h = absurd h
by_form g name key value r answers (get n k) h = absurd h
by_form g name key value r answers run h = absurd h

pub put_answered : (g : Graph) (asked : Request) (name : Bor (List ℕ)) (key : WrittenKey) (value : Option ℤ) (r : Result Command ScriptFault) → asked ≡ request.Put name key value
    → ((components : List ℤ) → (number : ℤ) → HasRead key components → HasValue value number → IsAnswered g r (put name.now components number))
    → (form : Form) → IsRequest asked form → IsAnswered g r form
put_answered g asked name key value r is answers form h = by_form g name key value r answers form (subst (λ (a : Request). IsRequest a form) is h)
