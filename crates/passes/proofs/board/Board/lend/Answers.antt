use Rattle.std.proofs.Common.{arith, sym, ap, ◌∙◌}
use Rattle.passes.specs.Known.{hosting}
use Rattle.passes.specs.Steps.{Seated, known, lent}
use Rattle.passes.proofs.Seats.{lends_at, learns_at, view_of_badge, view_of_desk}
use Rattle.passes.proofs.board.Board.lend.Goals as goal

pub join_seat-requires : goal.join_seat-requires
join_seat-requires g c =
    let b = c.args.self.now in
    let i = c.desk.invariant in
    let p = c.requires.pass in
    let s = c.into_seat.ensures in
    (i.0 ∙ sym b.is_named, s.0 ∙ p.0 ∙ sym b.is_named, s.3, omega (arith, b.two_words), lends_at _ _ _ _ c.args.desk.now (known c.args.badge.views) (view_of_desk _ _ i.1 c.desk.view_is) c.requires.alone (view_of_badge _ _ s.2 p.1))

pub load-requires : goal.load-requires
load-requires g c =
    let b = c.args.self.now in
    let i = c.desk.invariant in
    let s = c.into_seat.ensures in
    let j = c.join_seat.ensures in
    let desk_is = view_of_desk c.desk.inside.seat.me c.args.desk.now i.1 c.desk.view_is in
    let pass_is = view_of_badge c.args.badge.views c.into_seat.result.me.0 s.2 c.requires.pass.1 in
    (j.0 ∙ i.0 ∙ sym b.is_named, omega (arith, b.two_words), learns_at _ _ _ (hosting (known c.args.badge.views) c.args.desk.now) (ap (λ (own : Seated). own.0) j.2 ∙ (λ k. lent (desk_is k) (pass_is k))))
