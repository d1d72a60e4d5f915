use Rattle.std.proofs.Common.{◌∙◌, ap, sym, is_eq, arith}
use Rattle.machine.proofs.DistinctSorted.{each_once, same_twice}
use Rattle.machine.proofs.distinct.neighbours_differ.Goals as goal

pub returns-then-is_eq : goal.returns-then-is_eq
returns-then-is_eq c =
    same_twice c.args.addresses.now c.loop-later.later c.index-addresses-later.result c.index-addresses-later-in-loop-later.result (omega arith) (omega arith)
    c.index-addresses-later.is c.index-addresses-later-in-loop-later.is (ap is_eq (sym c.addr_order.ensures) ∙ sym c.is_eq.ensures ∙ c.if-is_eq.true)

pub returns : goal.returns
returns c = each_once c.args.addresses.now c.requires (λ place within. c.loop-later.invariant place (omega (arith, within)))
