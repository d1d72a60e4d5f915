use Rattle.std.proofs.Common.{◌<◌, add-one, arith, rules}
use Rattle.terms.specs.declared.key.TheConstants.{MAX_COMPONENTS}
use Rattle.syntax.proofs.StepParts.{component_read, next_name, last_name, full_names, name_stops}
use Rattle.syntax.proofs.Stopping.{passed_on}
use Rattle.syntax.proofs.name_lists.component_names.Goals as goal

pub returns-in_err-counted_name-clause-stops : goal.returns-in_err-counted_name-clause-stops
returns-in_err-counted_name-clause-stops c =
    passed_on c.from_residual.result c.in_err-counted_name.field-0.0 _ c.from_residual.ensures.1
    (name_stops _ c.loop-count.count _ c.in_err-counted_name.field-0.0 c.loop-count.invariant.0
    (full_names MAX_COMPONENTS c.loop-count.count _ (λ full. search rules) (λ full. search rules)) c.in_err-counted_name.ensures.stops)

pub returns-then-not-takes-clause-reads : goal.returns-then-not-takes-clause-reads
returns-then-not-takes-clause-reads c =
    let room : c.loop-count.count < MAX_COMPONENTS = search rules in
    let name = c.in_ok-counted_name in
    let it = component_read c.loop-count.count name.field-0 c.loop-count.invariant.0 room (rw name.ensures.room at name.ensures.reads) name.ensures.within in
    rw add-one (last_name c.loop-count.count room it c.if-not-takes.ensures.taken)

pub loop-count-preserved : goal.loop-count-preserved
loop-count-preserved c =
    let room : c.loop-count.count < MAX_COMPONENTS = search rules in
    let name = c.in_ok-counted_name in
    let it = component_read c.loop-count.count name.field-0 c.loop-count.invariant.0 room (rw name.ensures.room at name.ensures.reads) name.ensures.within in
    (rw add-one (next_name c.loop-count.count it c.if-not-takes.ensures.taken), omega (arith, room))
