use Rattle.std.proofs.Common.{◌≡◌, ◌∙◌, ◌<◌, ◌++◌, ◌∷◌, [], List, Ok, ap, inr, sym, subst, arith, rules}
use Rattle.std.specs.Prelude.{IsTrue}
use Rattle.terms.specs.declared.name.Inst.{Inst}
use Rattle.codec.specs.Lists.{HandsOut}
use Rattle.holdings.specs.Holdings.{with_done}
use Rattle.holdings.proofs.ReadLists.{and_each, not_all, one_further, read_all, one_more_done}
use Rattle.holdings.proofs.holdings.Holdings.read_done.Goals as goal

pub returns-then-count-instance-clause-none : goal.returns-then-count-instance-clause-none
returns-then-count-instance-clause-none c =
    let front = c.loop-instance.invariant.0 in
    let handed = subst (λ found. HandsOut c.loop-instance.list c.next.new.self (Ok found)) c.in-Some.is c.in_ok-instance.ensures in
    inr (λ elements rest whole each.
    not_all (λ instance. instance.collection.0 < c.args.count) c.in_ok-list.list front c.in-Some.instance c.next.new.self.elements elements rest (c.loop-instance.invariant.1.0 ∙ ap (λ list. front ++ list.elements) handed)
    (λ below. omega (arith, below, c.if-count-instance.true)) (c.in_ok-list.ensures.read ∙ whole) each)

pub loop-instance-preserved : goal.loop-instance-preserved
loop-instance-preserved c =
    let front = c.loop-instance.invariant.0 in
    let handed = subst (λ found. HandsOut c.loop-instance.list c.next.new.self (Ok found)) c.in-Some.is c.in_ok-instance.ensures in
    let is : IsTrue c.in_ok-_new._new → c.end.new.self ≡ with_done c.loop-instance.self c.in-Some.instance = λ yes. search (rules, yes) in (
      front ++ c.in-Some.instance ∷ [],
      one_further c.in_ok-list.list c.loop-instance.list c.next.new.self front c.in-Some.instance c.loop-instance.invariant.1.0 c.loop-instance.invariant.1.1 handed,
      and_each (λ instance. instance.collection.0 < c.args.count) front c.in-Some.instance c.loop-instance.invariant.2 (omega (arith, c.if-count-instance.false)),
      one_more_done c.args.self.now c.loop-instance.self c.end.new.self c.in_ok-_new._new c.in_ok-_new.ensures.there front c.in-Some.instance c.loop-instance.invariant.3 c.in_ok-_new.ensures.absent is,
    )

pub returns-clause-held : goal.returns-clause-held
returns-clause-held c =
    let front = c.loop-instance.invariant.0 in
    let none = subst (λ found. HandsOut c.loop-instance.list c.next.new.self (Ok found)) c.in_default.is c.in_ok-instance.ensures in
    record {
      elements = front;
      read_whole = read_all c.in_ok-list.list c.loop-instance.list front none.0 c.rest.result.now _ c.in_ok-list.ensures.read c.loop-instance.invariant.1.0 c.loop-instance.invariant.1.1 none.1 (c.rest.ensures none.0 (none.2 ∙ none.1));
      each = c.loop-instance.invariant.2;
      held = c.loop-instance.invariant.3;
    }
