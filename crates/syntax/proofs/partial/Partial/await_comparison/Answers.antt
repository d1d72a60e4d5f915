use Rattle.std.proofs.Common.{None, refl, sym, subst}
use Rattle.syntax.specs.Partial.{WaitsInSum}
use Rattle.syntax.proofs.partial.Partial.await_comparison.Goals as goal

pub returns : goal.returns
returns c = λ state prod how is holds operates.
    let sum = c.in_ok-left.ensures.sums state.level.sum prod (subst (WaitsInSum state.level.sum) (sym c.take.ensures.value) is.level.sum) holds in
    record {
      first = is.first;
      passed = is.passed;
      level = record {
        may_compare = refl;
        comparison = (operates, sum);
        sum = subst (WaitsInSum None) (sym c.take.ensures.after) tt;
        product = is.level.product;
        negations = is.level.negations;
      };
      outer = is.outer;
    }
