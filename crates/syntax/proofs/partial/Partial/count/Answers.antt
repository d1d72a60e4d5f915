use Rattle.std.proofs.Common.{[], sym, subst, length, arith}
use Rattle.syntax.specs.declared.limits.TheConstants.{MOST_BRACKETS}
use Rattle.syntax.specs.Expected.{passing}
use Rattle.syntax.specs.Partial.{IsPartial}
use Rattle.syntax.proofs.Partials.{as_many_open, few_more, too_many_more, not_passed}
use Rattle.syntax.proofs.partial.Partial.count.Goals as goal

pub returns-then-len-ge-MOST_BRACKETS : goal.returns-then-len-ge-MOST_BRACKETS
returns-then-len-ge-MOST_BRACKETS c = λ state is.
    let many = too_many_more MOST_BRACKETS (length state.outer) c.args.place (omega (arith, as_many_open state c.args.self.now is, c.len.ensures)) in
    subst (λ places. IsPartial (passing state places) c.pass.new.self) (sym many) (c.pass.ensures [] state is)

pub returns-else-len-ge-MOST_BRACKETS : goal.returns-else-len-ge-MOST_BRACKETS
returns-else-len-ge-MOST_BRACKETS c = λ state is.
    not_passed state c.args.self.now _ (few_more MOST_BRACKETS (length state.outer) c.args.place (omega (arith, as_many_open state c.args.self.now is, c.len.ensures))) is
