use Rattle.std.proofs.Common.{◌≡◌, true, false, sym}
use Rattle.steptree.specs.Names.{is_text}
use Rattle.steptree.proofs.Places.{here, another}
use Rattle.steptree.proofs.checker.names.place.Goals as goal

pub returns-then-eq-clause-place : goal.returns-then-eq-clause-place
returns-then-eq-clause-place g c =
    let this = c.index-names-place.result in
    let tells : is_text (g.N.Named.name this) c.args.text.now ≡ true = cc (c.text.ensures, c.if-eq.ensures) in
    sym (here g.N.Named.name c.args.text.now c.args.names.now c.loop-place.place this c.loop-place-test.true c.index-names-place.is tells c.loop-place.invariant)

pub loop-place-preserved : goal.loop-place-preserved
loop-place-preserved g c =
    let this = c.index-names-place.result in
    let tells : is_text (g.N.Named.name this) c.args.text.now ≡ false = cc (c.text.ensures, c.if-eq.ensures) in
    another g.N.Named.name c.args.text.now c.args.names.now c.loop-place.place this c.loop-place-test.true c.index-names-place.is tells c.loop-place.invariant
