use Rattle.std.proofs.Common.{refl, subst, sym, inl, None}
use Rattle.syntax.specs.Expected.{negated_by}
use Rattle.syntax.specs.Partial.{WaitsInProduct}
use Rattle.syntax.proofs.Returned.{as_ok}
use Rattle.syntax.proofs.partial.Partial.product.Goals as goal

pub returns : goal.returns
returns c = as_ok c.joined.result _ _ c.joined.ensures.products (λ new holds_product state unary is holds.
    let negated = c.in_ok-operand.ensures state.level.negations unary is.level.negations holds in (
      record {
        first = is.first;
        passed = is.passed;
        level = record {
          may_compare = is.level.may_compare;
          comparison = is.level.comparison;
          sum = is.level.sum;
          product = subst (WaitsInProduct None) (sym c.take.ensures.after) tt;
          negations = inl refl;
        };
        outer = is.outer;
      },
      holds_product state.level.product (negated_by state.level.negations unary) (subst (WaitsInProduct state.level.product) (sym c.take.ensures.value) is.level.product) negated,
    ))
