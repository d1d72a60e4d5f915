use Rattle.terms.specs.declared.event.Event.TheVariants.{EnvTag}
use Rattle.machine.specs.Machine.{RefusesTag}
use Rattle.commit.specs.Core.{facts, graph}
use Rattle.commit.proofs.Putting.{illegal_tag, put_as, refused_as}
use Rattle.commit.proofs.commit_core.Core.put_tag.Goals as goal

pub returns-in-Ok : goal.returns-in-Ok
returns-in-Ok g c =
    let old = c.args.self.now in
    let put = c.commit_put.ensures in
    put_as g.D.Disk old c.make_ready_for_tag.new.self c.make_ready_for_tag.ensures.same c.commit_put.new.self (RefusesTag (graph old) (facts old) c.args.tag) (EnvTag c.args.tag) c.commit_put.result
    put.ok put.err put.refused.refused put.refused.full put.halts.halts put.halts.doubt put.moments

pub returns-in-Err : goal.returns-in-Err
returns-in-Err g c =
    let old = c.args.self.now in
    refused_as g.D.Disk old c.make_ready_for_tag.new.self c.make_ready_for_tag.ensures.same (RefusesTag (graph old) (facts old) c.args.tag) (EnvTag c.args.tag) c.in-Err.error
    (illegal_tag (graph old) (facts old) c.args.tag) c.in-Err.ensures.refused (λ on. (c.stores_go_on.ensures.rest on).held) (λ on. (c.stores_go_on.ensures.gates on).rest) c.is_kept.ensures.kept
