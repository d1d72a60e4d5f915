-- A worked example of events that fit one after another, and of the same events in an order in which they don't.
use Rattle.std.specs.Prelude.{pos, [], ◌∷◌}
use Rattle.terms.specs.declared.name.Tag.{Tag}
use Rattle.terms.specs.declared.name.Inst.{Inst}
use Rattle.terms.specs.declared.event.Event.TheVariants.{EnvTag, Done}
use Rattle.terms.specs.Sets.{among}
use Rattle.graph.specs.Fits.{FitAfter}
use Rattle.graph.specs.Examples.{fibonacci}

-- <n: 1>, and (add: 1), which it prescribes
abbrev pub first_tag : Tag
first_tag = record { collection = record { 0 = 0 }; key = pos 1 ∷ [] }

abbrev pub first_instance : Inst
first_instance = record { collection = record { 0 = 0 }; key = pos 1 ∷ [] }

-- the instance can be done after its tag came, and not before it
pub record FittingExample : Type 0 where
  pub fits : FitAfter fibonacci (among []) (EnvTag first_tag ∷ Done first_instance [] ∷ [])
  pub refused : FitAfter fibonacci (among []) (Done first_instance [] ∷ EnvTag first_tag ∷ []) → ⊥
