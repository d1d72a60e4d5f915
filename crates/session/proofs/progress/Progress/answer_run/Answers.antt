use Rattle.std.proofs.Common.{◌∙◌, ◌∷◌, Bool, List, refl, subst, sym}
use Rattle.script.specs.declared.command.Command.{Command}
use Rattle.script.specs.declared.command.Command.TheVariants.{Run}
use Rattle.session.specs.Answers.{drive_of}
use Rattle.session.specs.Lines.{ComesTo, Stands}
use Rattle.session.proofs.Standing.{stands_on}
use Rattle.session.proofs.progress.Progress.answer_run.Goals as goal

pub returns-clause-answers : goal.returns-clause-answers
returns-clause-answers g c most may_be_asked may_spawn was_halted commands first old from at run =
    let new = c.args.core.now in
    let reply = c.ran-reply.result in
    let left = c.args.self.now.left.now in
    subst (λ (list : List Command). Stands g.D.Disk g.O.Sink.target g.O.Sink.has_failed g.O.Sink.contents (drive_of most may_be_asked may_spawn was_halted) commands list first c.reply.new.out old new c.reply.new.self.ending c.reply.new.self.failed) (sym c.reply.ensures.left)
    (stands_on g.D.Disk g.O.Sink.target g.O.Sink.has_failed g.O.Sink.contents c.facts_are_told_apart.ensures.among (λ on. (c.stores_go_on.ensures.gates on).stay) (drive_of most may_be_asked may_spawn was_halted) commands (Run ∷ left) left first c.args.out.now c.reply.new.out old from new Run reply
    c.args.self.now.ending c.reply.new.self.ending c.args.self.now.failed c.reply.new.self.failed c.deref.result.now refl at.1 at.2 (c.deref.ensures ∙ c.graph.ensures) at.0
    (λ same. subst (λ (halted : Bool). ComesTo g.D.Disk (drive_of most may_be_asked may_spawn halted) from new Run reply) (sym same) (c.ran-reply.ensures from most may_be_asked may_spawn run))
    (c.reply.ensures.tells at.1))
