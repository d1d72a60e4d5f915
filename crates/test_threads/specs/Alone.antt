-- Outcomes of which none is over what another one puts.
use Rattle.std.specs.Prelude.{⊤, List, [], ◌∷◌}
use Rattle.terms.specs.declared.name.Inst.{Inst}
use Rattle.terms.specs.Sets.{Facts}
use Rattle.graph.specs.Graph.{Graph}
use Rattle.commit.specs.declared.outcome.Outcome.{Outcome}
use Rattle.commit.specs.Came.{IsOutcomeIn}

-- each instance has the outcome at its place, over the items of the set
abbrev pub AreAlone : Graph → Facts → List Inst → List Outcome → Type 0
AreAlone g X [] [] = ⊤
AreAlone g X [] (outcome ∷ outcomes) = ⊥
AreAlone g X (task ∷ tasks) [] = ⊥
AreAlone g X (task ∷ tasks) (outcome ∷ outcomes) = IsOutcomeIn g X task outcome × AreAlone g X tasks outcomes
