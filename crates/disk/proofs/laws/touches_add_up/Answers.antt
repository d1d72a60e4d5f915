use Rattle.disk.proofs.Mixtures.{mixture_left, mixture_has}
use Rattle.disk.proofs.laws.touches_add_up.Goals as goal

pub returns-clause-mixtures : goal.returns-clause-mixtures
returns-clause-mixtures c durable first second bytes were long = (mixture_has durable first second bytes long were, mixture_left durable first second bytes long)
