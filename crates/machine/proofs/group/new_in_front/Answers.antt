use Rattle.std.proofs.Common.{◌≡◌, ◌+◌, ◌-◌, ◌/◌, ℕ, suc, subst, take, arith}
use Rattle.machine.specs.Group.{puts_of_all}
use Rattle.machine.specs.Together.{IsOneNotNew}
use Rattle.machine.proofs.NewTogether.{fewer_done, none_are_new, some_not_new}
use Rattle.machine.proofs.group.new_in_front.Goals as goal

pub loop-not_new-init : goal.loop-not_new-init
loop-not_new-init c =
    let held = c.args.items.now in
    (some_not_new held c.args.most c.args.ends.now c.requires.not_new, omega arith, none_are_new held, c.requires.not_new, omega arith)

pub are_new_together-requires : goal.are_new_together-requires
are_new_together-requires c =
    let new = c.loop-not_new.new in
    let not_new = c.loop-not_new.not_new in
    fewer_done (new + (not_new - new) / 2) c.args.most c.args.ends.now (omega (arith, c.loop-not_new-test.true, c.loop-not_new.invariant.1)) c.requires.done

pub returns-clause-new : goal.returns-clause-new
returns-clause-new c =
    let next : c.loop-not_new.not_new ≡ suc c.loop-not_new.new = omega (arith, c.loop-not_new-test.false, c.loop-not_new.invariant.0) in
    record {
      new = c.loop-not_new.invariant.2;
      next = subst (λ (n : ℕ). IsOneNotNew c.args.items.now (puts_of_all (take n c.args.ends.now))) next c.loop-not_new.invariant.3;
    }
