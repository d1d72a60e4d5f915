-- What a step leads to, carried over to an equal outcome.
use Rattle.std.proofs.Common.{◌≡◌, List, [], ◌∷◌, sym, subst, ◌∙◌}
use Rattle.std.specs.Prelude.{Result, Ok, Err, IfOk}
use Rattle.steptree.specs.Run.{Read, Outcome}
use Rattle.steplang.specs.declared.machine.Machine.{Machine}
use Rattle.steplang.specs.declared.machine.Progress.{Progress}
use Rattle.steplang.specs.declared.machine.Step.{Step}
use Rattle.steplang.specs.declared.machine.Step.TheVariants.{On, Asked, Failed, Ended}
use Rattle.steplang.specs.Machine.{LeadsFrom}

module _ (one two : List Read → Outcome) (same : (reads : List Read) → two reads ≡ one reads) (new : Machine) (after : Progress) where
  leads : (step : Step) → LeadsFrom one step new after → LeadsFrom two step new after
  leads On on = λ reads. same reads ∙ on reads
  leads (Asked variable) asked = (same [] ∙ asked.0, λ value reads. same ((new.asked, value) ∷ reads) ∙ asked.1 value reads)
  leads (Failed kind) failed = λ reads. same reads ∙ failed reads
  leads Ended ended = λ reads. same reads ∙ ended reads

  pub ok_leads : {E : Type 0} (result : Result Step E) → IfOk result (λ step. LeadsFrom one step new after) → IfOk result (λ step. LeadsFrom two step new after)
  ok_leads (Ok step) ok = leads step ok
  ok_leads (Err error) ok = ok

-- a machine that stops
pub stopped : {E : Type 0} (from : List Read → Outcome) (old new : Machine) (progress : Progress) (step : Step) (result : Result Step E) → (result ≡ Ok step) × (new ≡ record old { progress = progress })
    → LeadsFrom from step (record old { progress = progress }) progress → IfOk result (λ s. LeadsFrom from s new new.progress)
stopped {E} from old new progress step result is leads_to =
    subst (λ (m : Machine). IfOk result (λ s. LeadsFrom from s m m.progress)) (sym is.1)
    (subst (λ (r : Result Step E). IfOk r (λ s. LeadsFrom from s (record old { progress = progress }) progress)) (sym is.0) leads_to)
