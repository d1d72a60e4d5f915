-- How `Known` is written as numbers, pairs and lists: the checker asks for it, and no promise speaks of it.
use Rattle.std.specs.Prelude.{ℕ, refl}
use Rattle.std.specs.Coded.{Coded, code_by, coded_ℕ, coded_bool, coded_list, coded×}
use Rattle.maps.specs.Codes.{numbered_code}
use Rattle.instances.specs.declared.step.Step.{Step}
use Rattle.instances.specs.Codes.{of_step_code}
use Rattle.instances.specs.Known.{Known}
use Rattle.instances.specs.OfStep.{OfStep}

abbrev pub step_code : Coded Step
step_code =
    code_by (ℕ × OfStep) (coded× coded_ℕ of_step_code) (λ s. (s.prescriber.0, s.instances)) (λ p. record { prescriber = record { 0 = p.0 }; instances = p.1 }) (λ _. refl)

abbrev pub known_code : Coded Known
known_code = code_by _ (coded× (numbered_code coded_bool) (coded_list step_code)) (λ k. (k.tags, k.steps)) (λ p. record { tags = p.0; steps = p.1 }) (λ _. refl)
