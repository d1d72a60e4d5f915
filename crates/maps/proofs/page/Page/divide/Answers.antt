use Rattle.std.proofs.Common.{◌++◌, ◌∙◌, ap, sym, arith}
use Rattle.std.specs.List.{insert as add}
use Rattle.std.proofs.lemmas.List.Edits.{insert-append_right}
use Rattle.maps.specs.declared.page.TheConstants.{HALF}
use Rattle.maps.proofs.page.Page.divide.Goals as goal

pub returns-else-place-le-HALF-clause-all : goal.returns-else-place-le-HALF-clause-all
returns-else-place-le-HALF-clause-all g c =
    ap (λ p. c.split.new.self.1 ++ p.1) c.insert-else-place-le-HALF.ensures
    ∙ sym (insert-append_right c.split.new.self.1 c.split.new.upper.1 HALF c.args.place c.args.mark c.split.ensures.lower.1 (omega (arith, c.if-place-le-HALF.false)))
    ∙ ap (λ ms. add ms c.args.place c.args.mark) c.split.ensures.all
