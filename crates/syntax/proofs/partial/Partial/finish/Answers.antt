use Rattle.std.proofs.Common.{◌∙◌, sym, rules}
use Rattle.syntax.proofs.Partials.{none_open}
use Rattle.syntax.proofs.Broken.{deep_end, passed_end, within_end}
use Rattle.syntax.proofs.partial.Partial.finish.Goals as goal

pub returns-in_default-clause-stops : goal.returns-in_default-clause-stops
returns-in_default-clause-stops c = λ state prod is holds.
    let none = none_open state c.args.self is (search rules) in
    rw is.first (deep_end state prod c.in_ok-expression.expression none (search rules) (c.in_ok-expression.ensures state.level prod is.level holds))

pub returns-in-Some-passed-clause-stops : goal.returns-in-Some-passed-clause-stops
returns-in-Some-passed-clause-stops c = λ state prod is holds.
    let none = none_open state c.args.self is (search rules) in
    passed_end state prod c.in_ok-expression.expression _ _ _ none c.in-Some.ensures (c.in_ok-expression.ensures state.level prod is.level holds) (sym is.passed ∙ c.in-Some-passed.is)

pub returns-clause-within : goal.returns-clause-within
returns-clause-within c = λ state prod is holds.
    let none = none_open state c.args.self is (search rules) in
    within_end state prod c.in_ok-expression.expression _ _ none c.in-Some.ensures (c.in_ok-expression.ensures state.level prod is.level holds) (sym is.passed ∙ c.in-None.is)
