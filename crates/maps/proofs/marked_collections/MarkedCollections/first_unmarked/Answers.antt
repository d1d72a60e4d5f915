use Rattle.std.proofs.Common.{◌<◌, subst, arith, length}
use Rattle.maps.specs.Marked.{AreAllMarked, IsLeft}
use Rattle.maps.proofs.MarkedAll.{all_of_each, left_at, read_marks}
use Rattle.maps.proofs.marked_collections.MarkedCollections.first_unmarked.Goals as goal

pub returns-in-Some-clause-some : goal.returns-in-Some-clause-some
returns-in-Some-clause-some g c =
    let maps = c.self.inside.maps.items in
    let within : c.loop-number.number < length maps = omega (arith, c.loop-number-test.true, c.len-number-end.ensures, c.self.inside.maps.ok.0) in
    subst (λ m. IsLeft m (c.loop-number.number, c.in-Some.key)) c.self.view_is
    (left_at maps c.loop-number.number c.in-Some.key c.index.result.now (read_marks maps c.loop-number.number c.index.result.now within c.index.ensures) c.in-Some.ensures.some)

pub returns-clause-none : goal.returns-clause-none
returns-clause-none g c = λ _.
    subst AreAllMarked c.self.view_is
    (all_of_each c.self.inside.maps.items (λ n within. c.loop-number.invariant n (omega (arith, within, c.loop-number-test.false, c.len-number-end.ensures, c.self.inside.maps.ok.0))))
