use Rattle.std.proofs.Common.{Bool, subst, sym}
use Rattle.session.specs.Lines.{TellsReply}
use Rattle.session.proofs.progress.Progress.reply.Goals as goal

pub returns-in-Ok-clause-tells : goal.returns-in-Ok-clause-tells
returns-in-Ok-clause-tells g c works =
    subst (λ (failed : Bool). TellsReply g.O.Sink.target g.O.Sink.has_failed g.O.Sink.contents c.args.graph.now c.args.command c.args.reply.now c.args.out.now c.send.new.self c.args.self.now.ending c.with_reply-self.result failed) (sym works)
    (c.in-Ok.ensures.fails, c.with_reply-self.ensures, c.in-Ok.ensures.written)
