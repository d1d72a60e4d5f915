-- How a body ends, if no read is still to come.
use Rattle.std.proofs.Common.{◌≡◌, ℤ, List, [], ◌++◌, sym, ap, ◌∙◌, append-nil}
use Rattle.std.specs.Prelude.{Some}
use Rattle.steptree.specs.declared.body.Body.{Body}
use Rattle.steptree.specs.Run.{Read, Outcome}
use Rattle.steptree.specs.Bodies.{Ending, Along, outcome_of, ending_of}

pub ended : (body : Body) (key : List ℤ) (reads told : List Read) (outcome : Outcome) (ending : Ending) → told ≡ reads → outcome_of body key (reads ++ []) ≡ outcome → ending_of outcome ≡ Some ending
    → Along body key told ending
ended body key reads told outcome ending same comes ends =
    ap (λ (l : List Read). ending_of (outcome_of body key l)) (same ∙ sym (append-nil reads)) ∙ ap ending_of comes ∙ ends
