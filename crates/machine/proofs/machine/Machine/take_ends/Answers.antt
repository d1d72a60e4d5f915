use Rattle.std.proofs.Common.{◌≡◌, ◌+◌, arith, drop, suc, subst}
use Rattle.machine.proofs.GroupSpent.{AreTaken, taken_on}
use Rattle.machine.proofs.Woken.{left_at}
use Rattle.machine.proofs.machine.Machine.take_ends.Goals as goal

pub loop-end-preserved : goal.loop-end-preserved
loop-end-preserved c =
    let old = c.args.self.now in
    let tasks = c.args.tasks.now in
    let ends = c.args.ends.now in
    let now = c.loop-end.self in
    let left = c.loop-end.tasks in
    let next = c.take_first_end.new.self in
    let after = c.take_first_end.new.tasks in
    let n = c.loop-end.end-index in
    let end = c.end-item.result in
    let more : suc n ≡ n + 1 = omega arith in
    let is = left_at n ends end c.loop-end-test.true c.end-item.is in
    subst (λ m. AreTaken old tasks ends next after (drop m ends)) more
    (taken_on c.room_in_turn.ensures old tasks ends now left end (drop (suc n) ends) next after (subst (AreTaken old tasks ends now left) is c.loop-end.invariant) c.take_first_end.ensures)
