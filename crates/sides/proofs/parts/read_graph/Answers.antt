use Rattle.std.proofs.Common.{◌≡◌, false, ◌∙◌, ap}
use Rattle.std.proofs.lemmas.Bool.{false≢true}
use Rattle.std.proofs.lemmas.Bool.Decides.{Decides-eqb}
use Rattle.std.proofs.lemmas.Slice.Eq.{slice_eq-Decides}
use Rattle.graph.specs.Canonical.{canonical}
use Rattle.graph.specs.declared.fault.GraphFault.{GraphFault}
use Rattle.sides.proofs.parts.read_graph.Goals as goal

pub returns-else-eq : goal.returns-else-eq
returns-else-eq c g is =
    let text = c.args.text.now in
    let own : c.as_slice.result.now ≡ text = c.as_slice.ensures.value ∙ c.in-Ok.ensures.spelled ∙ ap canonical (c.one_reading.ensures text c.in-Ok.graph g c.in-Ok.ensures.reads is.0) ∙ is.1 in
    false≢true ((slice_eq-Decides Decides-eqb c.as_slice.result.now text false c.if-eq.ensures).1 own)

pub returns-in_default : goal.returns-in_default
returns-in_default c g is = c.in_default.not-NoMemory (ap (λ (fault : GraphFault). fault.error) (c.reads_without_fault.ensures c.args.text.now g c.in-Err.fault is.0 c.in-Err.ensures.cause))
