use Rattle.std.proofs.Common.{◌≡◌, ◌≤◌, ◌+◌, ◌++◌, suc, subst, drop, arith, rules}
use Rattle.std.specs.Vec.{vec_capacity}
use Rattle.graph.specs.Fits.{addresses}
use Rattle.machine.specs.Group.{IsDone, puts_of_all}
use Rattle.machine.proofs.Gathered.{all_gathered, one_more}
use Rattle.machine.proofs.Joined.{event_at}
use Rattle.machine.proofs.distinct.gather_all.Goals as goal

pub puts_of-puts-requires : goal.puts_of-puts-requires
puts_of-puts-requires c = event_at IsDone c.loop-number.number c.args.ends.now c.index-ends-number.result c.requires (omega (arith, c.loop-number-test.true)) c.index-ends-number.is

pub loop-number-preserved : goal.loop-number-preserved
loop-number-preserved c =
    let ends = c.args.ends.now in
    let n = c.loop-number.number in
    let next : suc n ≡ n + 1 = omega arith in
    subst (λ m. (c.gather.new.addresses.items ++ addresses (puts_of_all (drop m ends)) ≡ addresses (puts_of_all ends)) × (vec_capacity c.args.addresses.now ≤ vec_capacity c.gather.new.addresses)) next (
      one_more ends n c.index-ends-number.result c.loop-number.addresses.items c.gather.new.addresses.items (addresses (puts_of_all ends)) (omega (arith, c.loop-number-test.true)) c.index-ends-number.is
          (search rules) c.loop-number.invariant.0,
      omega (arith, c.loop-number.invariant.1, c.gather.ensures.capacity, c.reserve.ensures.capacity),
    )

pub returns-clause-gathered : goal.returns-clause-gathered
returns-clause-gathered c = all_gathered c.args.ends.now c.loop-number.number c.loop-number.addresses.items (addresses (puts_of_all c.args.ends.now)) (omega (arith, c.loop-number-test.false)) c.loop-number.invariant.0
