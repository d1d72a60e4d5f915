use Rattle.std.proofs.Common.{◌≡◌, ◌+◌, arith, drop, subst, suc}
use Rattle.machine.proofs.PutsInTurn.{PutsLeft, put_taken}
use Rattle.machine.proofs.Woken.{left_at}
use Rattle.machine.proofs.machine.Machine.take_puts.Goals as goal

pub loop-put-preserved : goal.loop-put-preserved
loop-put-preserved c =
    let old = c.args.self.now in
    let puts = c.args.puts.now in
    let now = c.loop-put.self in
    let next = c.take_put.new.self in
    let n = c.loop-put.put-index in
    let put = c.put-item.result in
    let more : suc n ≡ n + 1 = omega arith in
    subst (λ m. PutsLeft old puts next (drop m puts)) more
    (put_taken c.room_in_turn.ensures old puts now put (drop (suc n) puts) next (subst (PutsLeft old puts now) (left_at n puts put c.loop-put-test.true c.put-item.is) c.loop-put.invariant) c.take_put.ensures)
