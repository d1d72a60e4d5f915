use Rattle.std.proofs.Common.{◌≡◌, ◌∙◌, ◌<◌, ◌++◌, ◌∷◌, [], List, Ok, ap, inr, sym, subst, arith, rules}
use Rattle.std.specs.Prelude.{IsTrue}
use Rattle.codec.specs.Entries.{MarkedTag}
use Rattle.codec.specs.Lists.{HandsOut}
use Rattle.holdings.specs.Holdings.{with_tag}
use Rattle.holdings.proofs.ReadLists.{and_each, not_all, one_further, read_all, one_more_tag}
use Rattle.holdings.proofs.holdings.Holdings.read_tags.Goals as goal

pub returns-then-count-name-clause-none : goal.returns-then-count-name-clause-none
returns-then-count-name-clause-none c =
    let front = c.loop-name.invariant.0 in
    let handed = subst (λ found. HandsOut c.loop-name.list c.next.new.self (Ok found)) c.in-Some.is c.in_ok-name.ensures in
    inr (λ elements rest whole each.
    not_all (λ marked. marked.0.collection.0 < c.args.count) c.in_ok-list.list front (c.in-Some.name, c.in-Some.mark) c.next.new.self.elements elements rest (c.loop-name.invariant.1.0 ∙ ap (λ list. front ++ list.elements) handed)
    (λ below. omega (arith, below, c.if-count-name.true)) (c.in_ok-list.ensures.read ∙ whole) each)

pub loop-name-preserved : goal.loop-name-preserved
loop-name-preserved c =
    let front = c.loop-name.invariant.0 in
    let handed = subst (λ found. HandsOut c.loop-name.list c.next.new.self (Ok found)) c.in-Some.is c.in_ok-name.ensures in
    let is : IsTrue c.in_ok-_new._new → c.put_tag.new.self ≡ with_tag c.loop-name.self c.in-Some.name c.in-Some.mark = λ yes. search (rules, yes) in (
      front ++ (c.in-Some.name, c.in-Some.mark) ∷ [],
      one_further c.in_ok-list.list c.loop-name.list c.next.new.self front (c.in-Some.name, c.in-Some.mark) c.loop-name.invariant.1.0 c.loop-name.invariant.1.1 handed,
      and_each (λ marked. marked.0.collection.0 < c.args.count) front (c.in-Some.name, c.in-Some.mark) c.loop-name.invariant.2 (omega (arith, c.if-count-name.false)),
      one_more_tag c.args.self.now c.loop-name.self c.put_tag.new.self c.in_ok-_new._new c.in_ok-_new.ensures.there front (c.in-Some.name, c.in-Some.mark) c.loop-name.invariant.3 c.in_ok-_new.ensures.absent is,
    )

pub returns-clause-held : goal.returns-clause-held
returns-clause-held c =
    let front = c.loop-name.invariant.0 in
    let none = subst (λ found. HandsOut c.loop-name.list c.next.new.self (Ok found)) c.in_default.is c.in_ok-name.ensures in
    record {
      elements = front;
      read_whole = read_all c.in_ok-list.list c.loop-name.list front none.0 c.rest.result.now _ c.in_ok-list.ensures.read c.loop-name.invariant.1.0 c.loop-name.invariant.1.1 none.1 (c.rest.ensures none.0 (none.2 ∙ none.1));
      each = c.loop-name.invariant.2;
      held = c.loop-name.invariant.3;
    }
