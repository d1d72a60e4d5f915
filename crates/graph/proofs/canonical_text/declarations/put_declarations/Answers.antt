use Rattle.std.proofs.Common.{◌++◌}
use Rattle.graph.proofs.Written.{goes_on, declarations_left}
use Rattle.graph.proofs.canonical_text.declarations.put_declarations.Goals as goal

pub loop-number-preserved : goal.loop-number-preserved
loop-number-preserved c =
    goes_on c.loop-number.text.items _ _ _ _ c.put_declaration.new.text.items c.in_ok-put_declaration.ensures
    (declarations_left (λ name. c.args.opening.now ++ name ++ c.args.closing.now) c.args.collections.now c.loop-number.number) c.loop-number.invariant
