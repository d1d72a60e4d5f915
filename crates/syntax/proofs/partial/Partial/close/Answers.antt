use Rattle.std.proofs.Common.{sym, subst}
use Rattle.syntax.specs.Grammar.{bracketed}
use Rattle.syntax.specs.Expected.{closed, level_expr}
use Rattle.syntax.specs.Partial.{IsLevel}
use Rattle.syntax.proofs.Returned.{as_ok}
use Rattle.syntax.proofs.partial.Partial.close.Goals as goal

pub returns : goal.returns
returns c = as_ok c.product.result _ _ c.product.ensures (λ new holds_product state prod level place outer around holds.
    holds_product (closed state level outer) (bracketed place (level_expr state.level prod))
    (record { first = around.first; passed = around.passed; level = subst (IsLevel level) (sym c.put_back.ensures) around.outside; outer = around.others })
    (c.in_ok-expression.ensures state.level prod around.inner holds))
