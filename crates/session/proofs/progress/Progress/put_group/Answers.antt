use Rattle.std.proofs.Common.{◌≡◌, ◌∙◌, ◌≤◌, ◌++◌, List, Some, ap, arith, drop, length, subst, sym, take}
use Rattle.script.specs.declared.command.Command.{Command}
use Rattle.session.specs.Lines.{AnswersAtOnce, Stands}
use Rattle.session.proofs.GroupReplies.{fewer, head_of, in_parts, length_first, to_end}
use Rattle.session.proofs.Grouped.{keeps_all}
use Rattle.session.proofs.Standing.{stands_on}
use Rattle.session.proofs.Tried.{first_answers}
use Rattle.session.proofs.progress.Progress.put_group.Goals as goal

pub returns-in-Ok-clause-keeps : goal.returns-in-Ok-clause-keeps
returns-in-Ok-clause-keeps g c =
    let left = c.args.self.now.left.now in
    let most = c.args.most in
    let count = c.in-Ok.count in
    let it = c.in-Ok.ensures.answers in
    let many : length (take most left) ≡ most = length_first most left c.requires.size.2 in
    let few : count ≤ most = omega (arith, many, it.within) in
    let is : left ≡ take count (take most left) ++ drop count left = in_parts count left ∙ ap (λ (list : List Command). list ++ drop count left) (sym (fewer count most left few)) in
    keeps_all g.D.Disk g.O.Sink.target g.O.Sink.has_failed g.O.Sink.contents c.facts_are_told_apart.ensures.among (λ on. (c.stores_go_on.ensures.gates on).stay)
    c.args.self.now c.reply_done.new.self c.args.out.now c.reply_done.new.out c.args.core.now c.put_some.new.core (take count (take most left)) (drop count left) c.deref.result.now is c.requires.going.0 c.requires.going.1 (c.reply_done.ensures.left ∙ to_end count left)
    (c.deref.ensures ∙ c.graph.ensures) it.came c.reply_done.ensures.tells

pub returns-in-Err-clause-keeps : goal.returns-in-Err-clause-keeps
returns-in-Err-clause-keeps g c drive commands first old stands =
    let left = c.args.self.now.left.now in
    let most = c.args.most in
    let command = c.index-group-0.result in
    let reply = c.in-Err.reply in
    let many : length (take most left) ≡ most = length_first most left c.requires.size.2 in
    let answers : AnswersAtOnce g.D.Disk c.args.core.now c.put_some.new.core command (Some reply) =
    first_answers g.D.Disk c.args.core.now c.put_some.new.core (take most left) command reply (omega (arith, many, c.requires.size.0)) c.index-group-0.is c.in-Err.ensures.answers
    in
    subst (λ (list : List Command). Stands g.D.Disk g.O.Sink.target g.O.Sink.has_failed g.O.Sink.contents drive commands list first c.reply.new.out old c.put_some.new.core c.reply.new.self.ending c.reply.new.self.failed) (sym (c.reply.ensures.left ∙ to_end 1 left))
    (stands_on g.D.Disk g.O.Sink.target g.O.Sink.has_failed g.O.Sink.contents c.facts_are_told_apart.ensures.among (λ on. (c.stores_go_on.ensures.gates on).stay) drive commands left (drop 1 left) first c.args.out.now c.reply.new.out old c.args.core.now c.put_some.new.core command reply
    c.args.self.now.ending c.reply.new.self.ending c.args.self.now.failed c.reply.new.self.failed c.deref-in-Err.result.now (head_of most left command c.requires.size.0 (omega (arith, c.requires.size.2, c.requires.size.0)) c.index-group-0.is)
    c.requires.going.0 c.requires.going.1 (c.deref-in-Err.ensures ∙ c.graph-in-Err.ensures) stands (λ same. answers drive same) (c.reply.ensures.tells c.requires.going.0))

pub returns-in-Err-clause-rest : goal.returns-in-Err-clause-rest
returns-in-Err-clause-rest g c = record { count = 1; some = omega arith; within = c.requires.size.0; rest = c.reply.ensures.left ∙ to_end 1 c.args.self.now.left.now }
