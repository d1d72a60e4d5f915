use Rattle.std.proofs.Common.{◌≡◌, ◌+◌, ◌∷◌, [], ℤ, List, Option, None, Some, arith, drop, rules, subst, suc, sym, to_z, of_z, w64}
use Rattle.std.proofs.lemmas.Int.{to_z-of_z}
use Rattle.terms.specs.declared.put.Put.{Put}
use Rattle.machine.proofs.Woken.{left_at, left_none}
use Rattle.commit.specs.PutAs.{IsPutAs}
use Rattle.commit.proofs.ItemsSaid.{first_puts, none_more, none_puts, others_put}
use Rattle.commit.proofs.said_items.put_among.Goals as goal

pub returns-in-Some : goal.returns-in-Some
returns-in-Some c =
    let puts = c.args.puts.now in
    let n = c.loop-number.number in
    let one = c.index-puts-number.result in
    let left = left_at n puts one (omega (arith, c.loop-number-test.true)) c.index-puts-number.is in
    let value = c.in-Some.value in
    let same : to_z w64 (of_z w64 value) ≡ value = to_z-of_z w64 value (search rules) in
    let here = subst (λ (found : Option ℤ). IsPutAs (one ∷ []) c.args.address.now found) c.in-Some.is c.put_at.ensures in
    subst (λ (v : ℤ). IsPutAs puts c.args.address.now (Some v)) (sym same)
    (c.loop-number.invariant.1 value (subst (λ (list : List Put). IsPutAs list c.args.address.now (Some value)) (sym left) (first_puts c.args.address.now value one (drop (suc n) puts) here)))

pub loop-number-preserved : goal.loop-number-preserved
loop-number-preserved c =
    let puts = c.args.puts.now in
    let a = c.args.address.now in
    let n = c.loop-number.number in
    let one = c.index-puts-number.result in
    let left = left_at n puts one (omega (arith, c.loop-number-test.true)) c.index-puts-number.is in
    let next : suc n ≡ n + 1 = omega arith in
    let here = subst (λ (found : Option ℤ). IsPutAs (one ∷ []) a found) c.in-None.is c.put_at.ensures in
    subst (λ m. (IsPutAs (drop m puts) a None → IsPutAs puts a None) × ((value : ℤ) → IsPutAs (drop m puts) a (Some value) → IsPutAs puts a (Some value))) next (
      λ none. c.loop-number.invariant.0 (subst (λ (list : List Put). IsPutAs list a None) (sym left) (none_more a one (drop (suc n) puts) here none)),
      λ value it. c.loop-number.invariant.1 value (subst (λ (list : List Put). IsPutAs list a (Some value)) (sym left) (others_put a value one (drop (suc n) puts) it)),
    )

pub returns : goal.returns
returns c =
    let none = left_none c.loop-number.number c.args.puts.now (omega (arith, c.loop-number-test.false)) in
    c.loop-number.invariant.0 (subst (λ (list : List Put). IsPutAs list c.args.address.now None) (sym none) (none_puts c.args.address.now))
