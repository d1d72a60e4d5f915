use Rattle.std.proofs.Common.{◌≡◌, ◌++◌, ◌∷◌, [], inr}
use Rattle.std.proofs.lemmas.Result.{err_from_is_err_and}
use Rattle.codec.specs.Reading.{several}
use Rattle.codec.proofs.Several.{one_more, fault_comes}
use Rattle.codec.proofs.lists.several.Goals as goal

pub returns-in_err-read : goal.returns-in_err-read
returns-in_err-read g c =
    let p = err_from_is_err_and c.from_residual-in_err-read.result c.from_residual-in_err-read.ensures.1 in
    let reading = g.T.Element.reading c.args.most in
    let first = fault_comes reading c.loop.elements.items c.args.count c.loop.counter c.loop.reader.rest.now _ (several c.args.count reading c.args.reader.now.rest.now)
    c.loop-test.true c.in_err-read.ensures c.loop.invariant in
    rw (p.1, p.2) (inr first)

pub loop-preserved : goal.loop-preserved
loop-preserved g c =
    let pushed : c.push.new.self.items ≡ c.loop.elements.items ++ c.in_ok-read.field-0 ∷ [] = c.in_ok-push.ensures.items in
    rw pushed (one_more (g.T.Element.reading c.args.most) c.loop.elements.items c.args.count c.loop.counter c.loop.reader.rest.now c.in_ok-read.field-0 c.read.new.reader.rest.now _
    c.loop-test.true c.in_ok-read.ensures c.loop.invariant)
