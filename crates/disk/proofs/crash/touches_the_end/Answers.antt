use Rattle.std.proofs.Common.{◌≡◌, true, length, max, ap, ◌∙◌, arith, rules}
use Rattle.std.specs.Prelude.{nat_le}
use Rattle.std.proofs.lemmas.Bool.{and_from}
use Rattle.std.proofs.lemmas.Bool.Decides.{nat_tests}
use Rattle.disk.specs.declared.record.Change.{Change}
use Rattle.disk.specs.Side.{is_side}
use Rattle.disk.specs.Crash.{change_touches}
use Rattle.disk.proofs.crash.touches_the_end.Goals as goal

-- a cut touches the position where it cuts, and all positions after it
pub returns-in-Cut : goal.returns-in-Cut
returns-in-Cut c =
    let far = max c.in-Cut.count (length c.args.synced.now) in
    let here : is_side c.args.call.now.side c.args.side ≡ true = search rules in
    let behind : nat_le c.in-Cut.count (max c.in-Cut.count (length c.args.synced.now)) ≡ true = grind (arith, nat_tests) in
    let touched = and_from _ _ here (ap (λ (change : Change). change_touches c.args.synced.now change far) c.in-Cut.is ∙ behind) in
    (λ is. (far, omega arith, search (rules, touched)), λ some. search rules)
