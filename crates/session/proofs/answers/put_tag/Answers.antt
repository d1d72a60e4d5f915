use Rattle.std.proofs.Common.{◌≡◌, ◌↔◌, List, None, true, sym, subst}
use Rattle.terms.specs.declared.event.Event.{Event}
use Rattle.terms.specs.declared.event.Event.TheVariants.{EnvTag}
use Rattle.machine.specs.Machine.{RefusesTag}
use Rattle.commit.specs.Core.{facts, graph, is_halted}
use Rattle.script.specs.declared.command.Command.TheVariants.{Tag}
use Rattle.session.specs.declared.reply.Reply.{Reply}
use Rattle.session.specs.declared.reply.Reply.TheVariants.{Halted}
use Rattle.session.specs.Answers.{RepliesPut}
use Rattle.session.specs.Session.{stop_of}
use Rattle.session.specs.Went.{GoesOnBy, HasCause}
use Rattle.session.proofs.Puts.{put_cause, put_halt, put_idle, put_stays, replied_put}
use Rattle.session.proofs.answers.put_tag.Goals as goal

pub returns-clause-idle : goal.returns-clause-idle
returns-clause-idle g c = put_idle c.args.core.now c.put_tag-put.new.self (EnvTag c.args.tag) (λ instance ends. ends) c.requires.idle c.put_tag-put.result c.put_tag-put.ensures.commits.takes c.put_tag-put.ensures.unchanged

pub returns-clause-replies : goal.returns-clause-replies
returns-clause-replies g c =
    let old = c.args.core.now in
    let new = c.put_tag-put.new.self in
    let it = c.put_tag-put.ensures in
    let why = RefusesTag (graph old) (facts old) c.args.tag in
    let replied =
    replied_put g.D.Disk (λ on. (c.stores_go_on.ensures.rest on).commits) (λ on. (c.stores_go_on.ensures.gates on).rest) (λ _. c.stores_go_on.ensures.calls.append_leaves) (λ on. (c.stores_go_on.ensures.rest on).held)
    old new (EnvTag c.args.tag) why c.is_kept.ensures.kept c.is_kept-2.ensures.kept c.is_kept.ensures.settled
    c.put_tag-put.result it.commits.takes it.unchanged it.commits.refused it.commits.doubt it.commits.moments it.halts
    in
    let cause =
    put_cause g.D.Disk old new why (EnvTag c.args.tag) (Tag c.args.tag) replied.1.commits tt (λ is. is)
    c.put_tag-put.result it.commits.takes it.commits.refused it.halts
    in
    subst (λ (reply : Reply). (came : List Event) × (goes : GoesOnBy g.D.Disk old new came)
    × RepliesPut (graph old) (facts old) why (EnvTag c.args.tag) came reply × HasCause g.D.Disk.failures old new (Tag c.args.tag) goes.commits reply) (sym c.put_reply.ensures)
    (replied.0, replied.1, replied.2, cause)

pub returns-clause-halt : goal.returns-clause-halt
returns-clause-halt g c =
    subst (λ (reply : Reply). (reply ≡ Halted) ↔ (is_halted c.args.core.now ≡ true)) (sym c.put_reply.ensures)
    (put_halt g.D.Disk c.args.core.now c.put_tag-put.new.self (RefusesTag (graph c.args.core.now) (facts c.args.core.now) c.args.tag) (EnvTag c.args.tag) c.put_tag-put.result c.put_tag-put.ensures.commits.takes c.put_tag-put.ensures.commits.refused c.put_tag-put.ensures.halts)

pub returns-clause-stays : goal.returns-clause-stays
returns-clause-stays g c =
    subst (λ (reply : Reply). stop_of reply ≡ None → is_halted c.put_tag-put.new.self ≡ is_halted c.args.core.now) (sym c.put_reply.ensures)
    (put_stays g.D.Disk c.args.core.now c.put_tag-put.new.self (RefusesTag (graph c.args.core.now) (facts c.args.core.now) c.args.tag) (EnvTag c.args.tag) c.put_tag-put.result c.put_tag-put.ensures.commits.takes c.put_tag-put.ensures.commits.refused c.put_tag-put.ensures.halts)
