use Rattle.script.proofs.OneScript.{never_refused, one_script}
use Rattle.script.proofs.law.scripts_once.Goals as goal

pub returns : goal.returns
returns c = λ g text commands script. (λ other also. one_script g text commands other script also, λ error h. never_refused g text commands error script h)
