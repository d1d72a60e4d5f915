use Rattle.std.proofs.Common.{◌≡◌, ◌+◌, sym, subst, suc, [], ◌∷◌, List, drop, arith}
use Rattle.terms.specs.Facts.{Fact, put_facts}
use Rattle.terms.specs.declared.producer.Producer.TheVariants.{By}
use Rattle.terms.specs.declared.put.Put.{Put}
use Rattle.machine.specs.declared.memory.Memory.{Memory}
use Rattle.machine.specs.Memory.{AreListed}
use Rattle.machine.specs.Coming.{CanTakeAll, Grows, fact_of}
use Rattle.machine.proofs.Woken.{left_at, left_none}
use Rattle.machine.proofs.Growing.{grows_none, grows_more, all_stay, can_take_one, fact_is}
use Rattle.machine.proofs.memory.Memory.put_all.Goals as goal

pub put-requires-clause-room : goal.put-requires-clause-room
put-requires-clause-room c =
    let puts = c.args.puts.now in
    let left = left_at c.loop-number.number puts c.index-puts-number.result (omega (arith, c.loop-number-test.true)) c.index-puts-number.is in
    can_take_one c.loop-number.self c.index-puts-number.result (drop (suc c.loop-number.number) puts) (subst (CanTakeAll c.loop-number.self) left c.loop-number.invariant.1)

pub loop-number-preserved : goal.loop-number-preserved
loop-number-preserved c =
    let now = c.loop-number.self in
    let puts = c.args.puts.now in
    let n = c.loop-number.number in
    let one = c.index-puts-number.result in
    let told = c.facts_are_told_apart.ensures.one in
    let rest : List Put = drop (suc n) puts in
    let left = left_at n puts one (omega (arith, c.loop-number-test.true)) c.index-puts-number.is in
    let can = subst (CanTakeAll now) left c.loop-number.invariant.1 in
    let next : suc n ≡ n + 1 = omega arith in
    let grows : Grows now c.put.new.self (fact_of (By c.args.instance n) one ∷ []) [] (one ∷ []) = c.put.ensures in
    subst (λ m. AreListed c.put.new.self × CanTakeAll c.put.new.self (drop m puts)
    × ((new : Memory) → Grows c.put.new.self new (put_facts c.args.instance m (drop m puts)) [] (drop m puts) → Grows c.args.self.now new (put_facts c.args.instance 0 puts) [] puts)) next (
      c.put.ensures.listed,
      all_stay told now c.put.new.self (By c.args.instance n) one [] grows rest can,
      λ new more. c.loop-number.invariant.2 new (subst (λ (l : List Put). Grows now new (put_facts c.args.instance n l) [] l) (sym left)
          (subst (λ (f : Fact). Grows now new (f ∷ put_facts c.args.instance (suc n) rest) [] (one ∷ rest)) (sym (fact_is c.args.instance n one))
          (grows_more told now c.put.new.self new (fact_of (By c.args.instance n) one) (put_facts c.args.instance (suc n) rest) [] one rest grows more))),
    )

pub returns : goal.returns
returns c =
    let n = c.loop-number.number in
    let none = left_none n c.args.puts.now (omega (arith, c.loop-number-test.false)) in
    c.loop-number.invariant.2 c.loop-number.self
    (subst (λ (l : List Put). Grows c.loop-number.self c.loop-number.self (put_facts c.args.instance n l) [] l) (sym none) (grows_none c.loop-number.self c.loop-number.invariant.0))
