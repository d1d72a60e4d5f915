use Rattle.std.proofs.Common.{◌∙◌, ap, List, map}
use Rattle.terms.specs.declared.name.TagCollection.{TagCollection}
use Rattle.machine.proofs.Beginning.{one_more}
use Rattle.machine.proofs.creation.prescribers_of.Goals as goal

pub loop-number-preserved : goal.loop-number-preserved
loop-number-preserved c =
    ap (λ (list : List TagCollection). map (λ (t : TagCollection). t.0) list) c.in_ok-push.ensures.items
    ∙ one_more c.loop-number.prescribers.items c.args.graph.now.steps c.loop-number.number c.prescriber.result c.unwrap-prescriber.result c.unwrap-prescriber.ensures c.prescriber.ensures c.loop-number.invariant
