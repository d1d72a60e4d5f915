use Rattle.std.proofs.Common.{◌≡◌, refl, subst, ◌+◌, ◌*◌, ◌-◌, ◌^◌, suc, drop, List, arith}
use Rattle.terms.specs.declared.event.Event.{Event}
use Rattle.machine.specs.Group.{puts_of_all}
use Rattle.machine.specs.Machine.{puts_of}
use Rattle.machine.specs.Tally.{AreAsMany, HasPlace, IsUpTo}
use Rattle.machine.proofs.Joined.{places_at}
use Rattle.machine.proofs.Tallied.{IsOnTheWay, all_added, all_counted, as_many, begins, goes_on, more_above, none_above, places_stay, still_up_to}
use Rattle.machine.proofs.Woken.{left_at, left_none}
use Rattle.machine.proofs.tally.Tally.count_all.Goals as goal

pub loop-number-init : goal.loop-number-init
loop-number-init c =
    let start = c.clear.new.self in
    (record { items = refl; tags = refl }, begins start (puts_of_all c.args.events.now), still_up_to 0 (0 * 2 ^ 64) start (omega arith) (none_above start c.clear.ensures.counts))

pub add_event-requires-clause-places : goal.add_event-requires-clause-places
add_event-requires-clause-places c =
    let one = c.index-events-number.result in
    places_stay c.args.self.now c.loop-number.self (puts_of one) (as_many c.args.self.now c.clear.new.self c.loop-number.self c.clear.ensures.collections c.loop-number.invariant.0)
    (places_at (HasPlace c.args.self.now) c.loop-number.number c.args.events.now one c.requires (omega (arith, c.loop-number-test.true, c.number_of-total.ensures.number)) c.index-events-number.is)

pub add_event-requires-clause-below : goal.add_event-requires-clause-below
add_event-requires-clause-below c =
    still_up_to (c.loop-number.number * 2 ^ 64) (2 ^ 128 - 2 ^ 64) c.loop-number.self (omega (arith, c.loop-number-test.true, c.number_of-total.ensures.fits)) c.loop-number.invariant.2

pub loop-number-preserved : goal.loop-number-preserved
loop-number-preserved c =
    let start = c.clear.new.self in
    let events = c.args.events.now in
    let n = c.loop-number.number in
    let one = c.index-events-number.result in
    let old = c.loop-number.self in
    let new = c.add_event.new.self in
    let left = left_at n events one (omega (arith, c.loop-number-test.true, c.number_of-total.ensures.number)) c.index-events-number.is in
    let next : suc n ≡ n + 1 = omega arith in
    subst (λ m. AreAsMany start new × IsOnTheWay start new (puts_of_all (drop m events)) (puts_of_all events) × IsUpTo (m * 2 ^ 64) new) next (
      as_many start old new c.loop-number.invariant.0 c.add_event.ensures.adds.collections,
      goes_on start old new (puts_of one) (puts_of_all (drop (suc n) events)) (puts_of_all events) c.add_event.ensures.adds
          (subst (λ (l : List Event). IsOnTheWay start old (puts_of_all l) (puts_of_all events)) left c.loop-number.invariant.1),
      still_up_to (n * 2 ^ 64 + 2 ^ 64) (suc n * 2 ^ 64) new (omega arith) (more_above (n * 2 ^ 64) old new (puts_of one) c.add_event.ensures.fits c.loop-number.invariant.2 c.add_event.ensures.adds),
    )

pub returns-clause-counts : goal.returns-clause-counts
returns-clause-counts c =
    let start = c.clear.new.self in
    let events = c.args.events.now in
    let none = left_none c.loop-number.number events (omega (arith, c.loop-number-test.false, c.number_of-total.ensures.number)) in
    let way = subst (λ (l : List Event). IsOnTheWay start c.loop-number.self (puts_of_all l) (puts_of_all events)) none c.loop-number.invariant.1 in
    all_counted start c.loop-number.self (puts_of_all events) c.clear.ensures.counts (all_added start c.loop-number.self (puts_of_all events) c.loop-number.invariant.0 way)

pub returns-clause-collections : goal.returns-clause-collections
returns-clause-collections c = as_many c.args.self.now c.clear.new.self c.loop-number.self c.clear.ensures.collections c.loop-number.invariant.0
