use Rattle.script.proofs.OneForm.{one_form}
use Rattle.script.proofs.law.forms_once.Goals as goal

pub returns : goal.returns
returns c = one_form
