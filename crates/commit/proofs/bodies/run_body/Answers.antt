use Rattle.std.proofs.Common.{subst, sym}
use Rattle.graph.specs.Graph.{Graph}
use Rattle.graph.specs.Fits.{InstanceIsOf}
use Rattle.commit.proofs.Ran.{instance_is_of}
use Rattle.commit.proofs.bodies.run_body.Goals as goal

pub body_of-checked-requires-clause-instance : goal.body_of-checked-requires-clause-instance
body_of-checked-requires-clause-instance c =
    subst (λ (g : Graph). InstanceIsOf g c.args.instance) (sym c.requires.graph) (instance_is_of c.args.machine.now c.is_kept.ensures c.args.instance c.requires.there)
