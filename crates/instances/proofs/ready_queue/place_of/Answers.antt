use Rattle.std.proofs.Common.{◌≡◌, ◌∙◌, ap, sym, subst, get_or, arith}
use Rattle.std.specs.Ordering.{is_eq}
use Rattle.std.specs.Cmp.{Equal-is}
use Rattle.terms.specs.Key.{key_cmp}
use Rattle.maps.specs.PlaceOrder.{same_key}
use Rattle.instances.proofs.ready_queue.place_of.Goals as goal

pub returns-then-is_eq : goal.returns-then-is_eq
returns-then-is_eq c =
    let tied = (Equal-is (key_cmp c.index.result.now c.args.key)).0 (sym (ap is_eq c.cmp.ensures) ∙ sym c.is_eq.ensures ∙ c.if-is_eq.true) in (
      omega (arith, c.if-place-len.true, c.len.ensures, c.args.handed.now.ok.0),
      subst (λ key. key ≡ get_or c.args.handed.now.items c.in_ok-place.place key) (same_key c.index.result.now c.args.key tied) c.index.ensures,
    )
