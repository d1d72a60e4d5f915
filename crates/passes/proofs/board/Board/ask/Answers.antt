use Rattle.std.proofs.Common.{arith, sym, ◌∙◌}
use Rattle.passes.proofs.Seats.{asks_at, view_of_badge}
use Rattle.passes.proofs.board.Board.ask.Goals as goal

pub fetch_or-requires : goal.fetch_or-requires
fetch_or-requires g c =
    let b = c.args.self.now in
    let p = c.requires in
    let s = c.into_seat-seat.ensures in
    (s.0 ∙ p.0 ∙ sym b.is_named, omega (arith, b.two_words), asks_at _ _ _ _ (view_of_badge _ _ s.2 p.1))
