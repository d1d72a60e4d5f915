use Rattle.std.proofs.Common.{◌≡◌, ◌↔◌, ℤ, Bool, SFits, Some, [], refl, rules, sym, subst, true, w64}
use Rattle.std.proofs.lemmas.Int.{to_z-of_z}
use Rattle.script.specs.declared.command.Command.{Command}
use Rattle.script.specs.declared.command.Command.TheVariants.{Get, Put, Tag}
use Rattle.session.specs.declared.reply.Reply.TheVariants.{Halted}
use Rattle.session.specs.Lines.{AnswersAtOnce}
use Rattle.session.proofs.OneLine.{at_once}
use Rattle.session.proofs.answers.answer.Goals as goal

pub returns-in-Put-clause-answers : goal.returns-in-Put-clause-answers
returns-in-Put-clause-answers g c =
    let it = c.put_item.ensures in
    let fits : SFits w64 c.in-Put.value = search rules in
    subst (λ (command : Command). AnswersAtOnce g.D.Disk c.args.core.now c.put_item.new.core command (Some c.put_item.result)) (sym c.in-Put.is)
    (subst (λ (value : ℤ). AnswersAtOnce g.D.Disk c.args.core.now c.put_item.new.core (Put c.in-Put.address value) (Some c.put_item.result)) (to_z-of_z w64 c.in-Put.value fits)
    (at_once g.D.Disk c.args.core.now c.put_item.new.core _ c.put_item.result it.replies.0 it.replies.1 (λ drive. it.replies.2)
    (λ halted is. subst (λ (b : Bool). (c.put_item.result ≡ Halted) ↔ (b ≡ true)) is it.halt) it.replies.3 it.stays))

pub returns-in-Tag-clause-answers : goal.returns-in-Tag-clause-answers
returns-in-Tag-clause-answers g c =
    let it = c.put_tag.ensures in
    subst (λ (command : Command). AnswersAtOnce g.D.Disk c.args.core.now c.put_tag.new.core command (Some c.put_tag.result)) (sym c.in-Tag.is)
    (at_once g.D.Disk c.args.core.now c.put_tag.new.core (Tag c.in-Tag.tag) c.put_tag.result it.replies.0 it.replies.1 (λ drive. it.replies.2)
    (λ halted is. subst (λ (b : Bool). (c.put_tag.result ≡ Halted) ↔ (b ≡ true)) is it.halt) it.replies.3 it.stays)

pub returns-in-Get-clause-answers : goal.returns-in-Get-clause-answers
returns-in-Get-clause-answers g c =
    let it = c.get.ensures in
    subst (λ (command : Command). AnswersAtOnce g.D.Disk c.args.core.now c.args.core.now command (Some c.get.result)) (sym c.in-Get.is)
    (at_once g.D.Disk c.args.core.now c.args.core.now (Get c.in-Get.address) c.get.result [] (record { commits = []; order = refl; goes_on = it.goes_on }) (λ drive. it.replies)
    (λ halted is. subst (λ (b : Bool). (c.get.result ≡ Halted) ↔ (b ≡ true)) is it.halt) it.cause (λ _. refl))
