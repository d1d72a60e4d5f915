use Rattle.std.proofs.Common.{◌+◌, ◌-◌, ◌/◌, ◌∙◌, sym, arith}
use Rattle.maps.proofs.Costs.{part_less}
use Rattle.maps.proofs.pages.Pages.page_for.Goals as goal

pub loop-high-preserved-then-begins_after : goal.loop-high-preserved-then-begins_after
loop-high-preserved-then-begins_after g c =
    let middle = c.loop-high.low + (c.loop-high.high - c.loop-high.low) / 2 in
    record {
      within = (omega (arith, c.loop-high-test.true), omega (arith, c.loop-high.invariant.within.0, c.loop-high.invariant.within.1, c.loop-high-test.true));
      from = c.loop-high.invariant.from;
      up_to = λ _. sym c.begins_after.ensures.tells ∙ c.if-begins_after.true;
      more = omega (arith, c.loop-high.invariant.more, c.begins_after.ensures.more);
      cost = λ digits few. part_less (c.loop-high.high - c.loop-high.low) (middle - c.loop-high.low) c.loop-high.steps c.begins_after.new.steps c.args.steps.now digits (omega (arith, c.loop-high-test.true)) (omega arith) c.begins_after.ensures.cost (c.loop-high.invariant.cost digits few);
    }

pub loop-high-preserved : goal.loop-high-preserved
loop-high-preserved g c =
    let middle = c.loop-high.low + (c.loop-high.high - c.loop-high.low) / 2 in
    record {
      within = (omega (arith, c.loop-high-test.true, c.loop-high.invariant.within.0), c.loop-high.invariant.within.1);
      from = λ _. sym c.begins_after.ensures.tells ∙ c.if-begins_after.false;
      up_to = c.loop-high.invariant.up_to;
      more = omega (arith, c.loop-high.invariant.more, c.begins_after.ensures.more);
      cost = λ digits few. part_less (c.loop-high.high - c.loop-high.low) (c.loop-high.high - middle) c.loop-high.steps c.begins_after.new.steps c.args.steps.now digits (omega (arith, c.loop-high-test.true)) (omega arith) c.begins_after.ensures.cost (c.loop-high.invariant.cost digits few);
    }
