use Rattle.std.proofs.Common.{◌<◌, ◌++◌, ◌≡◌, ℕ, true, List, refl, subst}
use Rattle.passes.specs.Known.{Known}
use Rattle.passes.specs.Roll.{has_number}
use Rattle.hub.proofs.hub.Hub.close.Goals as goal

pub returns-then-running-ne0-clause-cause : goal.returns-then-running-ne0-clause-cause
returns-then-running-ne0-clause-cause g c =
    subst (λ (at : ℕ × List Known × List Known). (number : ℕ) → number < at.0 → has_number number (at.1 ++ at.2) ≡ true)
    (λ i. (c.args.self.counted i, c.as_slice.ensures.value i, c.as_slice-2.ensures.value i)) (c.if-not-are_here.ensures.all refl)
