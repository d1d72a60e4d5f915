use Rattle.std.proofs.Common.{[], ◌∷◌, subst, sym}
use Rattle.terms.specs.declared.put.Put.{Put}
use Rattle.graph.specs.Fits.{addresses}
use Rattle.machine.specs.Waking.{Awakens}
use Rattle.machine.proofs.Awake.{awakens_none}
use Rattle.machine.proofs.memory.Memory.wake_by.Goals as goal

pub returns-in-Tag : goal.returns-in-Tag
returns-in-Tag c = subst (λ (one : Put). Awakens c.args.self.now c.args.self.now (addresses (one ∷ []))) (sym c.in-Tag.is) (awakens_none c.args.self.now c.requires)
