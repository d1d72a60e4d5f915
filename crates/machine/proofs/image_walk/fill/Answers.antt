use Rattle.std.proofs.Common.{rules, arith}
use Rattle.machine.proofs.Pieces.{one_more}
use Rattle.machine.proofs.image_walk.fill.Goals as goal

pub loop-count-preserved : goal.loop-count-preserved
loop-count-preserved g c =
    let more = c.piece-more in
    let left = g.S.ImageSource.left in
    record {
      within = search rules;
      room = search rules;
      gives = one_more (left c.args.source.now) (left c.loop-count.source) (left more.new.self) c.loop-count.out more.new.out _ c.loop-count.count more.result c.loop-count.invariant.within (omega (arith, more.ensures.within, more.ensures.room)) c.loop-count.invariant.gives more.ensures.gives;
    }
