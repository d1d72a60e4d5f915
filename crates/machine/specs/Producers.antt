-- Who made a put.
use Rattle.std.specs.Prelude.{Bool, true, false}
use Rattle.terms.specs.declared.producer.Producer.{Producer}
use Rattle.terms.specs.declared.producer.Producer.TheVariants.{Env, By}

-- whether it was the environment
abbrev pub is_environment : Producer → Bool
is_environment Env = true
is_environment (By instance number) = false
