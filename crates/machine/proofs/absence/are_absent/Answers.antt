use Rattle.std.proofs.Common.{◌≡◌, ◌+◌, inl, inr, suc, sym, subst, drop, [], ◌∷◌, ◌++◌, List, arith}
use Rattle.terms.specs.declared.name.Addr.{Addr}
use Rattle.terms.specs.declared.put.Put.{Put}
use Rattle.graph.specs.Fits.{addresses, IsIn}
use Rattle.machine.specs.Absence.{AreAllAbsent, IsOneThere}
use Rattle.machine.proofs.Absent.{in_either, in_front, nowhere}
use Rattle.machine.proofs.Growing.{in_later}
use Rattle.machine.proofs.Woken.{left_at, left_none}
use Rattle.machine.proofs.absence.are_absent.Goals as goal

pub loop-number-preserved : goal.loop-number-preserved
loop-number-preserved c =
    let items = c.args.items.now in
    let puts = c.args.puts.now in
    let n = c.loop-number.number in
    let one = c.index-puts-number.result in
    let rest : List Put = drop (suc n) puts in
    let left = left_at n puts one (omega (arith, c.loop-number-test.true)) c.index-puts-number.is in
    let next : suc n ≡ n + 1 = omega arith in
    subst (λ m. (AreAllAbsent items (drop m puts) → AreAllAbsent items puts) × ((a : Addr) → IsIn a (addresses (drop m puts)) → IsIn a (addresses puts))) next (
      λ absent. c.loop-number.invariant.0 (subst (AreAllAbsent items) (sym left) (λ a is. elim (in_either a one rest is) [ inl here ↦ c.if-not-is_absent.ensures a here | inr later ↦ absent a later ])),
      λ a is. c.loop-number.invariant.1 a (subst (λ (l : List Put). IsIn a (addresses l)) (sym left) (in_later a one rest is)),
    )

pub returns-then-not-is_absent : goal.returns-then-not-is_absent
returns-then-not-is_absent c =
    let puts = c.args.puts.now in
    let n = c.loop-number.number in
    let one = c.index-puts-number.result in
    let left = left_at n puts one (omega (arith, c.loop-number-test.true)) c.index-puts-number.is in
    let there : IsOneThere c.args.items.now (one ∷ []) = c.if-not-is_absent.ensures in
    (there.0, (c.loop-number.invariant.1 there.0 (subst (λ (l : List Put). IsIn there.0 (addresses l)) (sym left) (in_front there.0 one (drop (suc n) puts) there.1.0)), there.1.1))

pub returns : goal.returns
returns c =
    let none = left_none c.loop-number.number c.args.puts.now (omega (arith, c.loop-number-test.false)) in
    c.loop-number.invariant.0 (λ a is. absurd (nowhere a is.0 is.1 (subst (λ (l : List Put). addresses l ≡ is.0 ++ a ∷ is.1) none is.2)))
