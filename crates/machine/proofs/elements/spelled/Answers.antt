use Rattle.std.proofs.Common.{rules, arith}
use Rattle.machine.proofs.Pieces.{one_more}
use Rattle.machine.proofs.elements.spelled.Goals as goal

pub loop-out-preserved : goal.loop-out-preserved
loop-out-preserved g c =
    let more = c.spell_next-more in
    let left = g.W.Spelling.rest in
    record {
      within = search rules;
      room = search rules;
      gives = one_more (left c.args.walk.now) (left c.loop-out.walk) (left more.new.self) c.loop-out.out more.new.out _ c.loop-out.count more.result c.loop-out.invariant.within (omega (arith, more.ensures.within, more.ensures.room)) c.loop-out.invariant.gives more.ensures.next.gives;
    }
