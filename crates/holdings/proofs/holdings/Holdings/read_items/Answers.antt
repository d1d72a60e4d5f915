use Rattle.std.proofs.Common.{◌≡◌, ◌∙◌, ◌<◌, ◌++◌, ◌∷◌, [], List, Ok, ap, inr, sym, subst, arith, rules}
use Rattle.std.specs.Prelude.{IsTrue}
use Rattle.codec.specs.Entries.{Item}
use Rattle.codec.specs.Lists.{HandsOut}
use Rattle.holdings.specs.Holdings.{with_item}
use Rattle.holdings.proofs.ReadLists.{and_each, not_all, one_further, read_all, one_more_item}
use Rattle.holdings.proofs.holdings.Holdings.read_items.Goals as goal

pub returns-then-count-address-clause-none : goal.returns-then-count-address-clause-none
returns-then-count-address-clause-none c =
    let front = c.loop-address.invariant.0 in
    let handed = subst (λ found. HandsOut c.loop-address.list c.next.new.self (Ok found)) c.in-Some.is c.in_ok-address.ensures in
    inr (λ elements rest whole each.
    not_all (λ it. it.0.collection.0 < c.args.count) c.in_ok-list.list front (c.in-Some.address, c.in-Some.value, c.in-Some.producer) c.next.new.self.elements elements rest (c.loop-address.invariant.1.0 ∙ ap (λ list. front ++ list.elements) handed)
    (λ below. omega (arith, below, c.if-count-address.true)) (c.in_ok-list.ensures.read ∙ whole) each)

pub loop-address-preserved : goal.loop-address-preserved
loop-address-preserved c =
    let front = c.loop-address.invariant.0 in
    let handed = subst (λ found. HandsOut c.loop-address.list c.next.new.self (Ok found)) c.in-Some.is c.in_ok-address.ensures in
    let is : IsTrue c.in_ok-_new._new → c.put_item.new.self ≡ with_item c.loop-address.self c.in-Some.address c.in-Some.value c.in-Some.producer = λ yes. search (rules, yes) in (
      front ++ (c.in-Some.address, c.in-Some.value, c.in-Some.producer) ∷ [],
      one_further c.in_ok-list.list c.loop-address.list c.next.new.self front (c.in-Some.address, c.in-Some.value, c.in-Some.producer) c.loop-address.invariant.1.0 c.loop-address.invariant.1.1 handed,
      and_each (λ it. it.0.collection.0 < c.args.count) front (c.in-Some.address, c.in-Some.value, c.in-Some.producer) c.loop-address.invariant.2 (omega (arith, c.if-count-address.false)),
      one_more_item c.args.self.now c.loop-address.self c.put_item.new.self c.in_ok-_new._new c.in_ok-_new.ensures.there front (c.in-Some.address, c.in-Some.value, c.in-Some.producer) c.loop-address.invariant.3 c.in_ok-_new.ensures.absent is,
    )

pub returns-clause-held : goal.returns-clause-held
returns-clause-held c =
    let front = c.loop-address.invariant.0 in
    let none = subst (λ found. HandsOut c.loop-address.list c.next.new.self (Ok found)) c.in_default.is c.in_ok-address.ensures in
    record {
      elements = front;
      read_whole = read_all c.in_ok-list.list c.loop-address.list front none.0 c.rest.result.now _ c.in_ok-list.ensures.read c.loop-address.invariant.1.0 c.loop-address.invariant.1.1 none.1 (c.rest.ensures none.0 (none.2 ∙ none.1));
      each = c.loop-address.invariant.2;
      held = c.loop-address.invariant.3;
    }
