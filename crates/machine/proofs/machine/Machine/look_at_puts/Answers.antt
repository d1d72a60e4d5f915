use Rattle.std.proofs.Common.{◌≡◌, ◌+◌, List, arith, drop, subst, suc, sym, take}
use Rattle.terms.specs.declared.event.Event.{Event}
use Rattle.machine.specs.Machine.{facts}
use Rattle.machine.specs.State.{AreLegalFrom}
use Rattle.machine.proofs.PutsInTurn.{last_is, one_more, up_to}
use Rattle.machine.proofs.Woken.{left_at}
use Rattle.machine.proofs.machine.Machine.look_at_puts.Goals as goal

pub returns-then-not-may_follow : goal.returns-then-not-may_follow
returns-then-not-may_follow c =
    let g = c.args.self.now.graph in
    let X = facts c.args.self.now in
    let puts = c.args.puts.now in
    let n = c.loop-number.number in
    let put = c.index-puts-number.result in
    let left = left_at n puts put (omega (arith, c.loop-number-test.true)) c.index-puts-number.is in
    record {
      within = omega (arith, c.loop-number-test.true);
      legal = c.loop-number.invariant;
      most = λ more legal.
          c.if-not-may_follow.ensures (last_is c.facts_are_told_apart.ensures.among g X (take n puts) put (subst (λ (list : List Event). AreLegalFrom g X list) (up_to n puts put (drop (suc n) puts) left) legal));
    }

pub loop-number-preserved : goal.loop-number-preserved
loop-number-preserved c =
    let g = c.args.self.now.graph in
    let X = facts c.args.self.now in
    let puts = c.args.puts.now in
    let n = c.loop-number.number in
    let put = c.index-puts-number.result in
    let left = left_at n puts put (omega (arith, c.loop-number-test.true)) c.index-puts-number.is in
    let next : suc n ≡ n + 1 = omega arith in
    subst (λ m. AreLegalFrom g X (take m puts)) next
    (subst (λ (list : List Event). AreLegalFrom g X list) (sym (up_to n puts put (drop (suc n) puts) left))
    (one_more c.facts_are_told_apart.ensures.among g X (take n puts) put c.loop-number.invariant c.if-not-may_follow.ensures))
