use Rattle.std.proofs.Common.{◌≡◌, ◌∙◌, Some, ap, sym, false, slice_get, true}
use Rattle.std.specs.Ordering.{eq_by_cmp, is_eq}
use Rattle.terms.specs.Name.{inst_cmp}
use Rattle.machine.proofs.OnceOnly.{is_the_next, not_the_next}
use Rattle.machine.proofs.tasks.is_from.Goals as goal

pub returns-then-is_eq : goal.returns-then-is_eq
returns-then-is_eq c =
    let there : slice_get c.args.tasks.now c.loop-number.number ≡ Some c.unwrap-other.result = sym c.get.ensures ∙ c.unwrap-other.ensures in
    let same : eq_by_cmp inst_cmp c.args.inst c.unwrap-other.result ≡ true = ap is_eq (sym c.inst_order.ensures) ∙ sym c.is_eq.ensures ∙ c.if-is_eq.true in
    sym (is_the_next c.args.inst c.args.tasks.now c.args.from c.loop-number.number c.unwrap-other.result there same c.loop-number.invariant)

pub loop-number-preserved : goal.loop-number-preserved
loop-number-preserved c =
    let there : slice_get c.args.tasks.now c.loop-number.number ≡ Some c.unwrap-other.result = sym c.get.ensures ∙ c.unwrap-other.ensures in
    let differs : eq_by_cmp inst_cmp c.args.inst c.unwrap-other.result ≡ false = ap is_eq (sym c.inst_order.ensures) ∙ sym c.is_eq.ensures ∙ c.if-is_eq.false in
    not_the_next c.args.inst c.args.tasks.now c.args.from c.loop-number.number c.unwrap-other.result there differs c.loop-number.invariant
