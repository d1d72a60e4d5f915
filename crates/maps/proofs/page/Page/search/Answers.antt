use Rattle.std.proofs.Common.{◌≡◌, ◌+◌, ◌-◌, ◌/◌, ◌<◌, ◌≤◌, ◌∙◌, ap, sym, suc, length, arith}
use Rattle.std.specs.declared.cmp.Ordering.TheVariants.{Less, Equal, Greater}
use Rattle.std.specs.List.{HoldsAt}
use Rattle.std.proofs.lemmas.List.{length-map}
use Rattle.terms.specs.Key.{key_cmp}
use Rattle.maps.specs.Marks.{entries_in, entry_of}
use Rattle.maps.specs.Paged.{Entry}
use Rattle.maps.specs.PlaceOrder.{keys_total, same_key}
use Rattle.maps.proofs.Costs.{digit_less}
use Rattle.maps.proofs.Places.{found, gap, greater_from, less_up_to, written}
use Rattle.maps.proofs.page.Page.search.Goals as goal

pub loop-low-preserved-in-Less : goal.loop-low-preserved-in-Less
loop-low-preserved-in-Less g c =
    let es = entries_in g.V.Stored.said c.args.words.now c.args.self.now in
    let count = length-map c.args.self.now.1 (entry_of g.V.Stored.said c.args.words.now) in
    let middle = c.loop-low.low + (c.loop-low.high - c.loop-low.low) / 2 in
    let within : middle < length es = omega (arith, count, c.loop-low.invariant.within.0, c.loop-low.invariant.within.1, c.loop-low-test.true) in
    let here : HoldsAt (λ (e : Entry g.row.V.Denot). key_cmp e.0 c.args.key.now ≡ Less) es middle = λ d. sym (ap (λ k. key_cmp k c.args.key.now) (c.key.ensures d)) ∙ sym c.in-Less.ensures.order in
    let next : suc middle ≡ middle + 1 = omega arith in
    record {
      within = (omega (arith, c.loop-low-test.true), c.loop-low.invariant.within.1);
      lesser = λ k d low high. less_up_to keys_total es c.args.key.now middle within c.requires.sorted here k d low (omega (arith, high));
      greater = c.loop-low.invariant.greater;
      more = omega (arith, c.loop-low.invariant.more, c.compare.ensures.more);
      cost = λ digits few. digit_less (c.loop-low.high - c.loop-low.low) (c.loop-low.high - (middle + 1)) c.loop-low.steps c.compare.new.self c.args.steps.now digits (omega (arith, c.loop-low-test.true)) (omega arith) (omega (arith, c.compare.ensures.counts)) (c.loop-low.invariant.cost digits few);
    }

pub loop-low-preserved : goal.loop-low-preserved
loop-low-preserved g c =
    let es = entries_in g.V.Stored.said c.args.words.now c.args.self.now in
    let count = length-map c.args.self.now.1 (entry_of g.V.Stored.said c.args.words.now) in
    let middle = c.loop-low.low + (c.loop-low.high - c.loop-low.low) / 2 in
    let within : middle < length es = omega (arith, count, c.loop-low.invariant.within.0, c.loop-low.invariant.within.1, c.loop-low-test.true) in
    let here : HoldsAt (λ (e : Entry g.row.V.Denot). key_cmp e.0 c.args.key.now ≡ Greater) es middle = λ d. sym (ap (λ k. key_cmp k c.args.key.now) (c.key.ensures d)) ∙ sym c.in-Greater.ensures.order in
    record {
      within = (omega arith, omega (arith, within, count));
      lesser = c.loop-low.invariant.lesser;
      greater = λ k d low high. greater_from keys_total es c.args.key.now middle within c.requires.sorted here k d low (omega (arith, high, count));
      more = omega (arith, c.loop-low.invariant.more, c.compare.ensures.more);
      cost = λ digits few. digit_less (c.loop-low.high - c.loop-low.low) (middle - c.loop-low.low) c.loop-low.steps c.compare.new.self c.args.steps.now digits (omega (arith, c.loop-low-test.true)) (omega arith) (omega (arith, c.compare.ensures.counts)) (c.loop-low.invariant.cost digits few);
    }

pub returns-in-Equal-clause-found : goal.returns-in-Equal-clause-found
returns-in-Equal-clause-found g c =
    let es = entries_in g.V.Stored.said c.args.words.now c.args.self.now in
    let count = length-map c.args.self.now.1 (entry_of g.V.Stored.said c.args.words.now) in
    let middle = c.loop-low.low + (c.loop-low.high - c.loop-low.low) / 2 in
    let within : middle < length es = omega (arith, count, c.loop-low.invariant.within.0, c.loop-low.invariant.within.1, c.loop-low-test.true) in
    let here : HoldsAt (λ (e : Entry g.row.V.Denot). key_cmp e.0 c.args.key.now ≡ Equal) es middle = λ d. sym (ap (λ k. key_cmp k c.args.key.now) (c.key.ensures d)) ∙ sym c.in-Equal.ensures.order in
    record {
      within = within;
      key_there = λ other. same_key _ _ (here other);
      found = λ other. found keys_total es c.args.key.now middle other c.requires.sorted within here;
      written_there = λ value. written keys_total same_key es c.args.key.now middle value c.requires.sorted within here;
    }

pub returns-clause-absent : goal.returns-clause-absent
returns-clause-absent g c =
    let es = entries_in g.V.Stored.said c.args.words.now c.args.self.now in
    let count = length-map c.args.self.now.1 (entry_of g.V.Stored.said c.args.words.now) in
    let within : c.loop-low.low ≤ length es = omega (arith, count, c.loop-low.invariant.within.0, c.loop-low.invariant.within.1) in
    let goes = gap keys_total es c.args.key.now c.loop-low.low within c.loop-low.invariant.lesser (λ k d low high. c.loop-low.invariant.greater k d (omega (arith, low, c.loop-low-test.false)) (omega (arith, high, count))) in
    record { within = within; absent = goes.0; goes_there = goes.1 }
