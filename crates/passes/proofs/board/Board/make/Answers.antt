use Rattle.std.proofs.Common.{arith, sym, ◌∙◌}
use Rattle.passes.proofs.Seats.{makes_at, view_of_desk}
use Rattle.passes.proofs.board.Board.make.Goals as goal

pub split_seat-requires : goal.split_seat-requires
split_seat-requires g c =
    let b = c.args.self.now in
    let i = c.desk.invariant in
    (i.0 ∙ sym b.is_named, omega (arith, b.two_words), makes_at _ _ c.args.desk.now (view_of_desk _ _ i.1 c.desk.view_is))
