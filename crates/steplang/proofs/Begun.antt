-- A run that waits for nothing is ready.
use Rattle.std.proofs.Common.{◌≡◌, refl, rules}
use Rattle.steplang.specs.declared.run.Stage.{Stage}
use Rattle.steplang.specs.declared.run.Stage.TheVariants.{Ready, Waits, Over, Refused}
use Rattle.steplang.specs.Running as running
use Rattle.steplang.specs.Stages.{awaits_of}

pub is_ready : (stage : Stage) → awaits_of stage ≡ running.Nothing → stage ≡ Ready
is_ready Ready waits = refl
is_ready (Waits address variable) waits = search rules
is_ready Over waits = search rules
is_ready Refused waits = search rules
