use Rattle.std.proofs.Common.{◌≡◌, refl, subst, ◌+◌, suc, [], ◌∷◌, drop, List, arith}
use Rattle.terms.specs.declared.put.Put.{Put}
use Rattle.machine.specs.Tally.{AreAsMany, HasPlace}
use Rattle.machine.proofs.Roomier.{all_at}
use Rattle.machine.proofs.Tallied.{IsOnTheWay, all_added, as_many, begins, goes_on, is_below, place_stays}
use Rattle.machine.proofs.Woken.{left_at, left_none}
use Rattle.machine.proofs.tally.Tally.add_puts.Goals as goal

pub loop-number-init : goal.loop-number-init
loop-number-init c = (record { items = refl; tags = refl }, begins c.args.self.now c.args.puts.now)

pub add-requires-clause-place : goal.add-requires-clause-place
add-requires-clause-place c =
    let one = c.index-puts-number.result in
    place_stays c.args.self.now c.loop-number.self one c.loop-number.invariant.0
    (all_at (HasPlace c.args.self.now) c.loop-number.number c.args.puts.now one c.requires.places (omega (arith, c.loop-number-test.true, c.number_of-total.ensures.number)) c.index-puts-number.is)

pub add-requires-clause-below : goal.add-requires-clause-below
add-requires-clause-below c =
    let start = c.args.self.now in
    let puts = c.args.puts.now in
    let n = c.loop-number.number in
    let one = c.index-puts-number.result in
    let left = left_at n puts one (omega (arith, c.loop-number-test.true, c.number_of-total.ensures.number)) c.index-puts-number.is in
    is_below start c.loop-number.self one (drop (suc n) puts) puts c.requires.below (omega (arith, c.number_of-total.ensures.number, c.number_of-total.ensures.fits))
    (subst (λ (l : List Put). IsOnTheWay start c.loop-number.self l puts) left c.loop-number.invariant.1)

pub loop-number-preserved : goal.loop-number-preserved
loop-number-preserved c =
    let start = c.args.self.now in
    let puts = c.args.puts.now in
    let n = c.loop-number.number in
    let one = c.index-puts-number.result in
    let old = c.loop-number.self in
    let new = c.add.new.self in
    let left = left_at n puts one (omega (arith, c.loop-number-test.true, c.number_of-total.ensures.number)) c.index-puts-number.is in
    let next : suc n ≡ n + 1 = omega arith in
    subst (λ m. AreAsMany start new × IsOnTheWay start new (drop m puts) puts) next (
      as_many start old new c.loop-number.invariant.0 c.add.ensures.collections,
      goes_on start old new (one ∷ []) (drop (suc n) puts) puts c.add.ensures (subst (λ (l : List Put). IsOnTheWay start old l puts) left c.loop-number.invariant.1),
    )

pub returns-clause-adds : goal.returns-clause-adds
returns-clause-adds c =
    let start = c.args.self.now in
    let puts = c.args.puts.now in
    let none = left_none c.loop-number.number puts (omega (arith, c.loop-number-test.false, c.number_of-total.ensures.number)) in
    all_added start c.loop-number.self puts c.loop-number.invariant.0 (subst (λ (l : List Put). IsOnTheWay start c.loop-number.self l puts) none c.loop-number.invariant.1)
