use Rattle.std.proofs.Common.{◌∙◌, Bool, List, false, subst, sym, take}
use Rattle.script.specs.declared.command.Command.{Command}
use Rattle.session.specs.declared.reply.Reply.TheVariants.{Done}
use Rattle.session.specs.Lines.{TellsReplies, TellsReply}
use Rattle.session.specs.Went.{dones}
use Rattle.session.proofs.GroupReplies.{done_next}
use Rattle.session.proofs.Lines.{up_to}
use Rattle.session.proofs.progress.Progress.reply_done.Goals as goal

pub loop-command-preserved : goal.loop-command-preserved
loop-command-preserved g c =
    let it = c.loop-command in
    let commands = c.args.commands.now in
    let command = c.command-item.result in
    let tells =
    subst (λ (failed : Bool). TellsReply g.O.Sink.target g.O.Sink.has_failed g.O.Sink.contents c.args.graph.now command Done it.out c.reply.new.out it.self.ending c.reply.new.self.ending failed) c.if-self.false (c.reply.ensures.tells it.invariant.going)
    in
    record {
      going = c.if-self.false;
      left = c.reply.ensures.left ∙ it.invariant.left;
      told = subst (λ (list : List Command). TellsReplies g.O.Sink.target g.O.Sink.has_failed g.O.Sink.contents c.args.graph.now list (dones list) c.args.out.now c.reply.new.out c.args.self.now.ending c.reply.new.self.ending false) (sym (up_to commands it.command-index command c.loop-command-test.true c.command-item.is))
          (done_next g.O.Sink.target g.O.Sink.has_failed g.O.Sink.contents c.args.graph.now c.args.out.now it.out c.reply.new.out c.args.self.now.ending it.self.ending c.reply.new.self.ending (take it.command-index commands) command it.invariant.told tells);
    }
