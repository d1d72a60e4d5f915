use Rattle.std.proofs.Common.{◌≡◌, ◌∙◌, ℕ, List, [], ◌∷◌, ◌++◌, subst, arith}
use Rattle.vault.specs.Turned.{WritesAnew}
use Rattle.vault.proofs.TurnedLengths.{side_chained}
use Rattle.vault.proofs.turn.write_next.Goals as goal

pub returns-clause-written : goal.returns-clause-written
returns-clause-written g c honest =
    let spelled : c.new-behind.result.first.left.now ++ (c.new-behind.result.second.first.left.now ++ (c.new-behind.result.second.second.first.left.now
    ++ (g.S.ImageSource.left c.new-behind.result.second.second.second.first ++ c.new-behind.result.second.second.second.second.left.now)))
    ≡ c.head_of-head.result ++ (c.args.text.now ++ (c.count_of-count.result ++ (g.S.ImageSource.left c.args.image ++ 0 ∷ [])))
    = grind (arith, c.new-behind.ensures, c.new-texted.ensures, c.new-counted.ensures, c.new-closed.ensures, c.new.ensures, c.new-2.ensures, c.new-3.ensures, c.new-4.ensures) in
    subst (λ (l : List ℕ). WritesAnew g.D.Disk c.args.side (1 ∷ l) c.args.disk.now c.write_side.new.disk c.write_side.result)
    (spelled ∙ side_chained c.args.generation c.args.text.now (g.S.ImageSource.left c.args.image) c.head_of-head.result c.count_of-count.result c.length.result c.head_of-head.ensures c.count_of-count.ensures (omega (arith, c.requires.short.1, c.length.ensures)))
    (c.write_side.ensures.written honest)
