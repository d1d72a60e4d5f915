use Rattle.std.proofs.Common.{◌≡◌, arith}
use Rattle.std.specs.Cmp.{unsigned_Decides}
use Rattle.instances.specs.Known.{total}
use Rattle.instances.specs.OfStep.{is_ready}
use Rattle.instances.proofs.Quiet.{quiet}
use Rattle.instances.proofs.instances.Instances.is_quiet.Goals as goal

pub returns-then-ready-eq0-clause-none : goal.returns-then-ready-eq0-clause-none
returns-then-ready-eq0-clause-none c =
    let ready : total is_ready c.args.self.now ≡ 0 = omega (arith, c.if-ready-eq0.true, c.ready.ensures) in
    quiet c.args.self.now _ (λ is. (ready, omega (arith, (unsigned_Decides c.running.result 0).0 is, c.running.ensures))) (λ _ none. (unsigned_Decides c.running.result 0).1 (omega (arith, none, c.running.ensures)))

pub returns-else-ready-eq0-clause-none : goal.returns-else-ready-eq0-clause-none
returns-else-ready-eq0-clause-none c =
    quiet c.args.self.now _ (λ is. absurd (c.if-ready-eq0.false ((unsigned_Decides c.ready.result 0).0 is))) (λ none _. (unsigned_Decides c.ready.result 0).1 (omega (arith, none, c.ready.ensures)))
