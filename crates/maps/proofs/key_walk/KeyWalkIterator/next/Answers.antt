use Rattle.std.proofs.Common.{◌≡◌, ◌∙◌, ◌∷◌, sym, arith}
use Rattle.maps.proofs.Entered.{next_left}
use Rattle.maps.proofs.key_walk.KeyWalkIterator.next.Goals as goal

pub returns-then-self-len-clause-steps : goal.returns-then-self-len-clause-steps
returns-then-self-len-clause-steps g c =
    let pages : c.loop-page.self-inside.pages.now ≡ c.in_ok-page.page.now ∷ c.in_ok-page.others.now = (c.in_ok-page.ensures).cases.0 in
    sym c.self.view_is ∙ sym c.loop-page.invariant.left ∙ next_left g.V.Stored.said c.loop-page.self-inside.words.now c.loop-page.self-inside.pages.now c.in_ok-page.page.now c.in_ok-page.others.now c.loop-page.self-inside.place c.entry-entry.result pages (omega (arith, c.if-self-len.true, c.len.ensures.count)) c.entry-entry.ensures
