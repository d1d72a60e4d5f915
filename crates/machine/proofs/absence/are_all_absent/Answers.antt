use Rattle.std.proofs.Common.{◌≡◌, ◌+◌, inl, inr, suc, sym, subst, drop, ◌∷◌, ◌++◌, List, arith}
use Rattle.terms.specs.declared.name.Addr.{Addr}
use Rattle.terms.specs.declared.event.Event.{Event}
use Rattle.graph.specs.Fits.{addresses, IsIn}
use Rattle.machine.specs.Absence.{AreAllAbsent, IsOneThere}
use Rattle.machine.specs.Group.{IsDone, puts_of_all}
use Rattle.machine.specs.Machine.{puts_of}
use Rattle.machine.proofs.Absent.{nowhere}
use Rattle.machine.proofs.Joined.{event_at, in_first_list, in_one_list, in_second_list}
use Rattle.machine.proofs.Woken.{left_at, left_none}
use Rattle.machine.proofs.absence.are_all_absent.Goals as goal

pub puts_of-requires : goal.puts_of-requires
puts_of-requires c = event_at IsDone c.loop-number.number c.args.ends.now c.index-ends-number.result c.requires (omega (arith, c.loop-number-test.true)) c.index-ends-number.is

pub loop-number-preserved : goal.loop-number-preserved
loop-number-preserved c =
    let items = c.args.items.now in
    let ends = c.args.ends.now in
    let n = c.loop-number.number in
    let one = c.index-ends-number.result in
    let rest = puts_of_all (drop (suc n) ends) in
    let left = left_at n ends one (omega (arith, c.loop-number-test.true)) c.index-ends-number.is in
    let here = subst (AreAllAbsent items) c.puts_of.ensures c.if-not-are_absent.ensures in
    let next : suc n ≡ n + 1 = omega arith in
    subst (λ m. (AreAllAbsent items (puts_of_all (drop m ends)) → AreAllAbsent items (puts_of_all ends)) × ((a : Addr) → IsIn a (addresses (puts_of_all (drop m ends))) → IsIn a (addresses (puts_of_all ends)))) next (
      λ absent. c.loop-number.invariant.0
          (subst (λ (l : List Event). AreAllAbsent items (puts_of_all l)) (sym left) (λ a is. elim (in_one_list a (puts_of one) rest is) [ inl first ↦ here a first | inr later ↦ absent a later ])),
      λ a is. c.loop-number.invariant.1 a (subst (λ (l : List Event). IsIn a (addresses (puts_of_all l))) (sym left) (in_second_list a (puts_of one) rest is)),
    )

pub returns-then-not-are_absent : goal.returns-then-not-are_absent
returns-then-not-are_absent c =
    let ends = c.args.ends.now in
    let n = c.loop-number.number in
    let one = c.index-ends-number.result in
    let left = left_at n ends one (omega (arith, c.loop-number-test.true)) c.index-ends-number.is in
    let there : IsOneThere c.args.items.now (puts_of one) = subst (IsOneThere c.args.items.now) c.puts_of.ensures c.if-not-are_absent.ensures in (
      there.0,
      (
        c.loop-number.invariant.1 there.0 (subst (λ (l : List Event). IsIn there.0 (addresses (puts_of_all l))) (sym left) (in_first_list there.0 (puts_of one) (puts_of_all (drop (suc n) ends)) there.1.0)),
        there.1.1,
      ),
    )

pub returns : goal.returns
returns c =
    let none = left_none c.loop-number.number c.args.ends.now (omega (arith, c.loop-number-test.false)) in
    c.loop-number.invariant.0 (λ a is. absurd (nowhere a is.0 is.1 (subst (λ (l : List Event). addresses (puts_of_all l) ≡ is.0 ++ a ∷ is.1) none is.2)))
