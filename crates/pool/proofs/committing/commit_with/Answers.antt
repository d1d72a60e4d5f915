use Rattle.std.proofs.Common.{◌∙◌, arith, sym}
use Rattle.commit.specs.Batch.{ends_said}
use Rattle.pool.proofs.Kept.{all_there, came_as_is, refused_full}
use Rattle.pool.proofs.committing.commit_with.Goals as goal

pub returns-clause-all : goal.returns-clause-all
returns-clause-all g c is =
    let came = came_as_is g.J.Naming.opening (ends_said c.args.batch) c.args.pass.now c.finish_all.new.pass c.finish_all.result c.finish_all.ensures.ok (sym c.settled_all.ensures.met ∙ is) in
    all_there c.facts_are_told_apart.ensures.among c.facts_go_on.ensures.all g.J.Naming.opening c.args.pass.now c.finish_all.new.pass c.args.batch came.0 came.1 came.2

pub returns-clause-full : goal.returns-clause-full
returns-clause-full g c =
    refused_full g.J.Naming.opening c.args.pass.now c.finish_all.new.pass c.args.batch c.finish_all.result c.settled_all.result (omega (arith, c.len.ensures.count, c.len.ensures.some)) c.requires c.finish_all.ensures.refused c.settled_all.ensures.full
