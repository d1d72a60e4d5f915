use Rattle.std.proofs.Common.{◌≡◌, ◌↔◌, List, None, true, sym, subst, w64, ℤ}
use Rattle.std.proofs.lemmas.Int.{to_z-of_z}
use Rattle.terms.specs.declared.event.Event.{Event}
use Rattle.terms.specs.declared.event.Event.TheVariants.{EnvItem}
use Rattle.machine.specs.Machine.{RefusesItem}
use Rattle.commit.specs.Calls.{IsTooLong}
use Rattle.commit.specs.Core.{facts, graph, is_halted}
use Rattle.script.specs.declared.command.Command.TheVariants.{Put}
use Rattle.session.specs.declared.reply.Reply.{Reply}
use Rattle.session.specs.declared.reply.Reply.TheVariants.{Halted}
use Rattle.session.specs.Answers.{RepliesPut, put_reply}
use Rattle.session.specs.Session.{stop_of}
use Rattle.session.specs.Went.{GoesOnBy, HasCause}
use Rattle.session.proofs.Puts.{put_cause, put_halt, put_idle, put_stays, replied_put}
use Rattle.session.proofs.answers.put_item.Goals as goal

pub returns-clause-idle : goal.returns-clause-idle
returns-clause-idle g c = put_idle c.args.core.now c.put_item-put.new.self _ (λ instance ends. ends) c.requires.idle c.put_item-put.result c.put_item-put.ensures.commits.takes c.put_item-put.ensures.unchanged

pub returns-clause-replies : goal.returns-clause-replies
returns-clause-replies g c =
    let old = c.args.core.now in
    let new = c.put_item-put.new.self in
    let it = c.put_item-put.ensures in
    let why = RefusesItem (graph old) (facts old) c.args.address in
    let at = λ (event : Event) (reply : Reply). (came : List Event) × GoesOnBy g.D.Disk old new came × RepliesPut (graph old) (facts old) why event came reply in
    let replied =
    subst (λ (event : Event). at event (put_reply c.put_item-put.result)) (λ i. EnvItem c.args.address (to_z-of_z w64 c.args.value c.ranges.value i))
    (replied_put g.D.Disk (λ on. (c.stores_go_on.ensures.rest on).commits) (λ on. (c.stores_go_on.ensures.gates on).rest) (λ _. c.stores_go_on.ensures.calls.append_leaves) (λ on. (c.stores_go_on.ensures.rest on).held)
    old new _ why c.is_kept.ensures.kept c.is_kept-2.ensures.kept c.is_kept.ensures.settled
    c.put_item-put.result it.commits.takes it.unchanged it.commits.refused it.commits.doubt it.commits.moments it.halts)
    in
    let cause =
    put_cause g.D.Disk old new why _ (Put c.args.address c.args.value) replied.1.commits tt
    (λ is. subst (λ (value : ℤ). IsTooLong old (EnvItem c.args.address value)) (to_z-of_z w64 c.args.value c.ranges.value) is)
    c.put_item-put.result it.commits.takes it.commits.refused it.halts
    in
    subst (λ (reply : Reply). (came : List Event) × (goes : GoesOnBy g.D.Disk old new came)
    × RepliesPut (graph old) (facts old) why (EnvItem c.args.address c.args.value) came reply × HasCause g.D.Disk.failures old new (Put c.args.address c.args.value) goes.commits reply) (sym c.put_reply.ensures)
    (replied.0, replied.1, replied.2, cause)

pub returns-clause-halt : goal.returns-clause-halt
returns-clause-halt g c =
    subst (λ (reply : Reply). (reply ≡ Halted) ↔ (is_halted c.args.core.now ≡ true)) (sym c.put_reply.ensures)
    (put_halt g.D.Disk c.args.core.now c.put_item-put.new.self (RefusesItem (graph c.args.core.now) (facts c.args.core.now) c.args.address) _ c.put_item-put.result c.put_item-put.ensures.commits.takes c.put_item-put.ensures.commits.refused c.put_item-put.ensures.halts)

pub returns-clause-stays : goal.returns-clause-stays
returns-clause-stays g c =
    subst (λ (reply : Reply). stop_of reply ≡ None → is_halted c.put_item-put.new.self ≡ is_halted c.args.core.now) (sym c.put_reply.ensures)
    (put_stays g.D.Disk c.args.core.now c.put_item-put.new.self (RefusesItem (graph c.args.core.now) (facts c.args.core.now) c.args.address) _ c.put_item-put.result c.put_item-put.ensures.commits.takes c.put_item-put.ensures.commits.refused c.put_item-put.ensures.halts)
