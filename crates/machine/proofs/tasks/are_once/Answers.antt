use Rattle.std.proofs.Common.{◌≡◌, ◌∙◌, ◌+◌, Some, ap, drop, false, slice_get, suc, sym, true, arith}
use Rattle.std.proofs.lemmas.Bool.{false≢true}
use Rattle.items.specs.Once.{IsOnceEach, is_one_of}
use Rattle.machine.proofs.OnceOnly.{passed, refuted}
use Rattle.machine.proofs.tasks.are_once.Goals as goal

pub returns-then-is_from : goal.returns-then-is_from
returns-then-is_from c =
    let n = c.loop-number.number in
    let one = c.unwrap-inst.result in
    let next : n + 1 ≡ suc n = omega arith in
    let there : slice_get c.args.tasks.now n ≡ Some one = sym c.get.ensures ∙ c.unwrap-inst.ensures in
    let again : is_one_of one (drop (suc n) c.args.tasks.now) ≡ true = sym (c.is_from.ensures ∙ ap (λ m. is_one_of one (drop m c.args.tasks.now)) next) ∙ c.if-is_from.true in
    refuted IsOnceEach c.args.tasks.now n one there (λ once. false≢true (sym once.0 ∙ again)) c.loop-number.invariant

pub loop-number-preserved : goal.loop-number-preserved
loop-number-preserved c =
    let n = c.loop-number.number in
    let one = c.unwrap-inst.result in
    let next : n + 1 ≡ suc n = omega arith in
    let there : slice_get c.args.tasks.now n ≡ Some one = sym c.get.ensures ∙ c.unwrap-inst.ensures in
    let apart : is_one_of one (drop (suc n) c.args.tasks.now) ≡ false = sym (c.is_from.ensures ∙ ap (λ m. is_one_of one (drop m c.args.tasks.now)) next) ∙ c.if-is_from.false in
    passed IsOnceEach c.args.tasks.now n one there (λ rest. (apart, rest)) (λ all. all.1) c.loop-number.invariant
