use Rattle.std.proofs.Common.{◌≡◌, rules}
use Rattle.std.specs.Bool.{then_some}
use Rattle.audit.proofs.Looking.{nothing_is_absent, value_told}
use Rattle.audit.proofs.bodies.value_at.Goals as goal

pub returns-in-Some : goal.returns-in-Some
returns-in-Some c =
    let same : c.then_some.result ≡ then_some c.in-Some.mark c.in-Some.value = search rules in
    value_told c.facts_are_told_apart.ensures.one c.args.marks.now c.is_part.ensures c.args.address c.in-Some.value c.in-Some.field-0-1 c.in-Some.mark c.then_some.result c.in-Some.ensures same

pub returns-in-None : goal.returns-in-None
returns-in-None c = nothing_is_absent c.facts_are_told_apart.ensures.one c.args.marks.now c.is_part.ensures c.args.address c.in-None.ensures
