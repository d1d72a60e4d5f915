use Rattle.std.proofs.Common.{arith}
use Rattle.std.proofs.lemmas.Str.{IsUtf8-from_ascii}
use Rattle.graph.proofs.Texts.{everywhere}
use Rattle.graph.proofs.parser.ascii.Goals as goal

pub returns-in-Err : goal.returns-in-Err
returns-in-Err c =
    let text = c.args.text.now in
    absurd (c.in-Err.ensures.cases.0 (IsUtf8-from_ascii text (everywhere text (λ index less. c.loop-position.invariant index (omega (arith, less, c.loop-position-test.false))))))
