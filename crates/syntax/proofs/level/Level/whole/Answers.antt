use Rattle.std.proofs.Common.{sym, subst}
use Rattle.syntax.specs.Expected.{sum_of}
use Rattle.syntax.specs.Partial.{WaitsInSum, WaitsInComparison}
use Rattle.syntax.proofs.Returned.{as_ok}
use Rattle.syntax.proofs.level.Level.whole.Goals as goal

pub returns : goal.returns
returns c = as_ok c.joined-2.result _ _ c.joined-2.ensures.comparisons (λ new holds_comparison level prod is holds.
    let sum = c.in_ok-sum.ensures.sums level.sum prod (subst (WaitsInSum level.sum) (sym c.take.ensures.value) is.sum) holds in
    holds_comparison level.comparing (sum_of level.sum prod) (subst (WaitsInComparison level.comparing) (sym c.take-2.ensures.value) is.comparison) sum)
