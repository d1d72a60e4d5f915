use Rattle.std.proofs.Common.{List, Option, ◌+◌, ◌≤◌, rules, subst, sym, vec_capacity, vec_len}
use Rattle.std.specs.Global.{Box}
use Rattle.steplang.specs.Running.{Asking}
use Rattle.pool.specs.Worked.{AreWaitingAt}
use Rattle.pool.specs.declared.waiting.TheConstants.{PLACES}
use Rattle.pool.proofs.Hands.{one_more}
use Rattle.pool.proofs.waiting.Waiting.make_places.Goals as goal

pub loop-preserved : goal.loop-preserved
loop-preserved c =
    let room : vec_len c.push_reserved.new.self + PLACES ≤ vec_capacity c.push_reserved.new.self + (c.loop.counter + 1) = search rules in
    record {
      room = room;
      waiting = λ opening seen are. subst (λ (places : List (Option (Box Asking))). AreWaitingAt opening seen places) (sym c.push_reserved.ensures.items)
          (one_more opening seen c.loop.self.places.items (c.loop.invariant.waiting opening seen are));
    }
