use Rattle.std.proofs.Common.{◌≡◌, ◌∙◌, ◌-◌, [], ℕ, zero, ℤ, List, Option, None, Some, ap, arith, drop, refl, rules, subst, suc, sym, to_z, of_z, w64}
use Rattle.std.proofs.lemmas.Int.{to_z-of_z}
use Rattle.terms.specs.declared.event.Event.{Event}
use Rattle.terms.specs.Sets.{stated}
use Rattle.graph.specs.Fits.{IsAbsent}
use Rattle.machine.specs.Meaning.{items}
use Rattle.machine.proofs.Woken.{left_none}
use Rattle.commit.specs.Batch.{Batch, end_said, ends_by, ends_said}
use Rattle.commit.specs.PutAs.{IsPutAs, puts_said}
use Rattle.commit.proofs.ItemsSaid.{absent_more, end_at, first_states, in_all, no_ends, value_said}
use Rattle.commit.proofs.batch.Batch.item.Goals as goal

pub loop-left-init : goal.loop-left-init
loop-left-init c =
    let tasks = c.self.inside.tasks in
    let outcomes = c.self.inside.outcomes.items in
    let n = c.len-left.result in
    let none : drop n outcomes ≡ [] = left_none n outcomes (omega (arith, c.len-left.ensures)) in
    let nothing : ends_by (drop n tasks) (drop n outcomes) ≡ [] = ap (ends_by (drop n tasks)) none ∙ no_ends (drop n tasks) in
    (omega (arith, c.len-left.ensures), subst (λ (list : List Event). IsAbsent (stated list) c.args.address) (sym nothing) (λ value by. refl))

pub index-requires : goal.index-requires
index-requires c = omega (arith, c.loop-left-test.true, c.loop-left.invariant.0)

pub returns-in-Some : goal.returns-in-Some
returns-in-Some c =
    let tasks = c.self.inside.tasks in
    let outcomes = c.self.inside.outcomes.items in
    let a = c.args.address in
    let n = c.loop-left.left - 1 in
    let one = c.index.result.now in
    let value = c.in-Some.value in
    let at = end_at n tasks outcomes one c.self.invariant.0 (omega (arith, c.loop-left-test.true, c.loop-left.invariant.0)) c.index.ensures in
    let here = subst (λ (found : Option ℤ). IsPutAs (puts_said one) a found) c.in-Some.is c.put_by.ensures in
    let rest : List Event = ends_by (drop (suc n) tasks) (drop (suc n) outcomes) in
    let first = first_states c.facts_are_told_apart.ensures.among (end_said at.0 one) rest a value (value_said c.facts_are_told_apart.ensures.one at.0 one a (Some value) here) in
    let all = in_all c.facts_are_told_apart.ensures.among n tasks outcomes a value (subst (λ (list : List Event). items (stated list) a value) (sym at.1) first) in
    let same : to_z w64 (of_z w64 value) ≡ value = to_z-of_z w64 value (search rules) in
    subst (λ (v : ℤ). items (stated (ends_said c.args.self.now)) a v) (sym same)
    (subst (λ (b : Batch). items (stated (ends_said b)) a value) c.self.view_is all)

pub loop-left-preserved : goal.loop-left-preserved
loop-left-preserved c =
    let tasks = c.self.inside.tasks in
    let outcomes = c.self.inside.outcomes.items in
    let a = c.args.address in
    let left = c.loop-left.left in
    let n = left - 1 in
    let one = c.index.result.now in
    let at = end_at n tasks outcomes one c.self.invariant.0 (omega (arith, c.loop-left-test.true, c.loop-left.invariant.0)) c.index.ensures in
    let here = subst (λ (found : Option ℤ). IsPutAs (puts_said one) a found) c.in-None.is c.put_by.ensures in
    let rest : List Event = ends_by (drop (suc n) tasks) (drop (suc n) outcomes) in
    let next : left ≡ suc n = omega (arith, c.loop-left-test.true) in
    let none : IsAbsent (stated rest) a = subst (λ (m : ℕ). IsAbsent (stated (ends_by (drop m tasks) (drop m outcomes))) a) next c.loop-left.invariant.1 in (
      omega (arith, c.loop-left.invariant.0),
      subst (λ (list : List Event). IsAbsent (stated list) a) (sym at.1)
          (absent_more c.facts_are_told_apart.ensures.among (end_said at.0 one) rest a (value_said c.facts_are_told_apart.ensures.one at.0 one a None here) none),
    )

pub returns : goal.returns
returns c =
    let tasks = c.self.inside.tasks in
    let outcomes = c.self.inside.outcomes.items in
    let a = c.args.address in
    let done : c.loop-left.left ≡ zero = omega (arith, c.loop-left-test.false) in
    subst (λ (b : Batch). IsAbsent (stated (ends_said b)) a) c.self.view_is
    (subst (λ (m : ℕ). IsAbsent (stated (ends_by (drop m tasks) (drop m outcomes))) a) done c.loop-left.invariant.1)
