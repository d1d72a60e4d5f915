use Rattle.std.proofs.Common.{arith, sym, ◌∙◌}
use Rattle.passes.proofs.Seats.{learns_at, view_of_desk}
use Rattle.passes.proofs.board.Board.look.Goals as goal

pub load-requires : goal.load-requires
load-requires g c =
    let b = c.args.self.now in
    let i = c.desk.invariant in
    (i.0 ∙ sym b.is_named, omega (arith, b.two_words), learns_at _ _ _ c.args.desk.now (view_of_desk _ _ i.1 c.desk.view_is))
