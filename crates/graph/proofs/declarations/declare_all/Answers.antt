use Rattle.std.proofs.Common.{refl, arith}
use Rattle.graph.specs.Tree.{items_of, tags_of}
use Rattle.graph.proofs.Resolving.{item_declared, tag_declared, item_fault, tag_fault, all_collected}
use Rattle.graph.proofs.Faultless.{fault_passed_on}
use Rattle.graph.proofs.declarations.declare_all.Goals.{in-Item+in_ok-declare-in-Item, in-Tag+in_ok-declare-in-Tag}
use Rattle.graph.proofs.declarations.declare_all.Goals as goal

pub returns-in_err-declare-in-Item-clause-faults : goal.returns-in_err-declare-in-Item-clause-faults
returns-in_err-declare-in-Item-clause-faults c =
    fault_passed_on _ _ c.from_residual.result _ c.from_residual.ensures.1
    (item_fault c.args.declarations.now _ _ _ _ c.loop-declaration-test.true c.loop-declaration.invariant _ c.in-Item.components _ c.in-Item.is c.in_err-declare-in-Item.ensures.faults)

pub returns-in_err-declare-in-Tag-clause-faults : goal.returns-in_err-declare-in-Tag-clause-faults
returns-in_err-declare-in-Tag-clause-faults c =
    fault_passed_on _ _ c.from_residual-in_err-declare-in-Tag.result _ c.from_residual-in_err-declare-in-Tag.ensures.1
    (tag_fault c.args.declarations.now _ _ _ _ c.loop-declaration-test.true c.loop-declaration.invariant _ c.in-Tag.components _ c.in-Tag.is c.in_err-declare-in-Tag.ensures.faults)

pub loop-declaration-preserved : goal.loop-declaration-preserved
loop-declaration-preserved c =
    elim c.match-declaration.branch [
      | in-Item+in_ok-declare-in-Item w ↦
          rw (w.items-is, w.tags-is)
          (item_declared c.args.declarations.now _ _ _ _ c.loop-declaration-test.true c.loop-declaration.invariant w.in-Item.name w.in-Item.components w.declare.new.self w.in-Item.is
          w.in_ok-declare-in-Item.ensures.faults w.in_ok-declare-in-Item.ensures.declared w.in_ok-declare-in-Item.ensures.numbered)
      | in-Tag+in_ok-declare-in-Tag w ↦
          rw (w.items-is, w.tags-is)
          (tag_declared c.args.declarations.now _ _ _ _ c.loop-declaration-test.true c.loop-declaration.invariant w.in-Tag.name w.in-Tag.components w.declare-in-Tag.new.self w.in-Tag.is
          w.in_ok-declare-in-Tag.ensures.faults w.in_ok-declare-in-Tag.ensures.declared w.in_ok-declare-in-Tag.ensures.numbered)
    ]

pub returns-clause-items : goal.returns-clause-items
returns-clause-items c = all_collected c.args.declarations.now items_of _ _ refl (omega arith) c.loop-declaration.invariant.items_left

pub returns-clause-tags : goal.returns-clause-tags
returns-clause-tags c = all_collected c.args.declarations.now tags_of _ _ refl (omega arith) c.loop-declaration.invariant.tags_left
