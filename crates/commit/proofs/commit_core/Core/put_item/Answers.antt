use Rattle.std.proofs.Common.{subst, to_z, of_z, w64}
use Rattle.std.proofs.lemmas.Int.{to_z-of_z}
use Rattle.terms.specs.declared.event.Event.{Event}
use Rattle.terms.specs.declared.event.Event.TheVariants.{EnvItem}
use Rattle.machine.specs.Machine.{RefusesItem}
use Rattle.commit.specs.Calls.{CommitsAs}
use Rattle.commit.specs.Core.{facts, graph}
use Rattle.commit.specs.Room.{RefusesFirst}
use Rattle.commit.proofs.Putting.{put_as, refused_as}
use Rattle.commit.proofs.Roomy.{illegal_item}
use Rattle.commit.proofs.commit_core.Core.put_item.Goals as goal

pub returns-in-Ok : goal.returns-in-Ok
returns-in-Ok g c =
    let old = c.args.self.now in
    let mid = c.make_ready_for_item.new.self in
    let why = RefusesItem (graph old) (facts old) c.args.addr in
    let put = c.commit_put.ensures in
    subst (λ (e : Event). CommitsAs g.D.Disk old c.commit_put.new.self why e c.commit_put.result) (λ i. EnvItem c.args.addr (to_z-of_z w64 c.args.value c.ranges.value i))
    (put_as g.D.Disk old mid c.make_ready_for_item.ensures.same c.commit_put.new.self why (EnvItem c.args.addr (to_z w64 (of_z w64 c.args.value))) c.commit_put.result
    put.ok put.err put.refused.refused put.refused.full put.halts.halts put.halts.doubt put.moments)

pub returns-in-Err : goal.returns-in-Err
returns-in-Err g c =
    let old = c.args.self.now in
    let mid = c.make_ready_for_item.new.self in
    let why = RefusesItem (graph old) (facts old) c.args.addr in
    refused_as g.D.Disk old mid c.make_ready_for_item.ensures.same why (EnvItem c.args.addr c.args.value) c.in-Err.error (illegal_item (graph old) (facts old) c.args.addr c.args.value)
    (subst (λ (e : Event). RefusesFirst old why e c.in-Err.error) (λ i. EnvItem c.args.addr (to_z-of_z w64 c.args.value c.ranges.value i)) c.in-Err.ensures.refused)
    (λ on. (c.stores_go_on.ensures.rest on).held) (λ on. (c.stores_go_on.ensures.gates on).rest) c.is_kept.ensures.kept
