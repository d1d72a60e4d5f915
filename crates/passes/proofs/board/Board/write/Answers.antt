use Rattle.std.proofs.Common.{arith, sym, ◌∙◌}
use Rattle.passes.proofs.Seats.{adds_at, view_of_desk}
use Rattle.passes.proofs.board.Board.write.Goals as goal

pub fetch_add-requires : goal.fetch_add-requires
fetch_add-requires g c =
    let b = c.args.self.now in
    let i = c.desk.invariant in
    (i.0 ∙ sym b.is_named, omega (arith, b.two_words), adds_at _ _ c.args.count _ c.desk.inside.seat.me c.args.desk.now (view_of_desk _ _ i.1 c.desk.view_is) c.requires.guest c.requires.count c.requires.room)
