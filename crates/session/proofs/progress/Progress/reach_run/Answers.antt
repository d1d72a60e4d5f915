use Rattle.std.proofs.Common.{◌∙◌, ap, arith, length, refl}
use Rattle.session.proofs.Standing.{at_run, is_over, keeps_on}
use Rattle.session.proofs.progress.Progress.reach_run.Goals as goal

pub returns-in-None-clause-reaches : goal.returns-in-None-clause-reaches
returns-in-None-clause-reaches g c drive commands first old stands =
    let it = c.put_row.new in
    let some = c.in-Some.ensures.some in
    let none = c.in-None.ensures.answers in
    let same = c.next.ensures.same in
    at_run g.D.Disk g.O.Sink.target g.O.Sink.has_failed g.O.Sink.contents
    drive commands it.self.left.now c.next.new.self.left.now first it.out old it.core c.answer.new.core c.in-Some.command.now it.self.ending c.next.new.self.ending it.self.failed c.next.new.self.failed
    some.2 none.0 some.0 some.1 same.0 same.1 none.1 (c.put_row.ensures.keeps drive commands first old (c.lines.invariant.stands drive commands first old stands))

pub returns-in_default-clause-reaches : goal.returns-in_default-clause-reaches
returns-in_default-clause-reaches g c drive commands first old stands =
    let it = c.put_row.new in
    let same = c.next.ensures.same in
    is_over g.D.Disk g.O.Sink.target g.O.Sink.has_failed g.O.Sink.contents
    drive commands it.self.left.now first it.out old it.core it.self.ending c.next.new.self.ending it.self.failed c.next.new.self.failed
    (c.in_default.ensures.none refl) same.0 same.1 (c.put_row.ensures.keeps drive commands first old (c.lines.invariant.stands drive commands first old stands))

pub lines-preserved : goal.lines-preserved
lines-preserved g c =
    let it = c.put_row.new in
    let some = c.in-Some.ensures.some in
    let same = c.next.ensures.same in
    record {
      idle = c.answer.ensures.idle;
      stands = keeps_on g.D.Disk g.O.Sink.target g.O.Sink.has_failed g.O.Sink.contents c.facts_are_told_apart.ensures.among (λ on. (c.stores_go_on.ensures.gates on).stay)
          c.args.self.now it.self c.next.new.self c.reply.new.self c.args.out.now it.out c.reply.new.out c.args.core.now it.core c.answer.new.core c.in-Some.command.now c.in-Some-answer.reply c.deref.result.now
          some.2 some.0 some.1 same.0 c.reply.ensures.left (c.deref.ensures ∙ c.graph.ensures) c.in-Some-answer.ensures.answers (c.reply.ensures.tells (same.1 ∙ some.0))
          (λ drive commands first old stands. c.put_row.ensures.keeps drive commands first old (c.lines.invariant.stands drive commands first old stands));
      fewer = omega (arith, c.lines.invariant.fewer, c.put_row.ensures.fewer, ap length some.2, ap length c.reply.ensures.left);
    }

pub lines-preserved-in-Some-answer : goal.lines-preserved-in-Some-answer
lines-preserved-in-Some-answer g c =
    let it = c.put_row.new in
    let some = c.in-Some.ensures.some in
    let same = c.next.ensures.same in
    record {
      idle = c.answer.ensures.idle;
      stands = keeps_on g.D.Disk g.O.Sink.target g.O.Sink.has_failed g.O.Sink.contents c.facts_are_told_apart.ensures.among (λ on. (c.stores_go_on.ensures.gates on).stay)
          c.args.self.now it.self c.next.new.self c.reply.new.self c.args.out.now it.out c.reply.new.out c.args.core.now it.core c.answer.new.core c.in-Some.command.now c.in-Some-answer.reply c.deref.result.now
          some.2 some.0 some.1 same.0 c.reply.ensures.left (c.deref.ensures ∙ c.graph.ensures) c.in-Some-answer.ensures.answers (c.reply.ensures.tells (same.1 ∙ some.0))
          (λ drive commands first old stands. c.put_row.ensures.keeps drive commands first old (c.lines.invariant.stands drive commands first old stands));
      fewer = omega (arith, c.lines.invariant.fewer, c.put_row.ensures.fewer, ap length some.2, ap length c.reply.ensures.left);
    }
