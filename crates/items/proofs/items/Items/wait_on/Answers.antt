use Rattle.std.proofs.Common.{◌∙◌, [], ◌∷◌, ◌++◌, IsSome, Some, cond, refl, ap, sym, subst, option_map, Vec}
use Rattle.std.specs.declared.alloc.Global.{Global}
use Rattle.std.specs.Option.{unwrap_or}
use Rattle.std.specs.Ordering.{eq_by_cmp}
use Rattle.std.specs.BTreeMap.{BTreeMap}
use Rattle.terms.specs.Name.{addr_cmp}
use Rattle.terms.specs.declared.name.Addr.{Addr}
use Rattle.terms.specs.declared.name.Inst.{Inst}
use Rattle.items.specs.Once.{WaitOnce, waits_once}
use Rattle.items.proofs.Waiting.{queue_at}
use Rattle.items.proofs.Refusals.{on_err}
use Rattle.items.proofs.Waiting.{waits, waits_as_before}
use Rattle.items.proofs.items.Items.wait_on.Goals as goal

pub returns-in_err-push-in-Some-clause-refused : goal.returns-in_err-push-in-Some-clause-refused
returns-in_err-push-in-Some-clause-refused c =
    on_err c.from_residual.result
    (waits_as_before c.self.inside.items c.self.inside.waiting.entries (c.get_mut.follows.lender c.push.new.self).entries c.args.self.now c.args.addr c.self.view_is
    c.in-Some.waiters.now c.push.new.self (sym c.in-Some.ensures.value) c.in_err-push-in-Some.ensures.items ((c.get_mut.follows.holds c.push.new.self).3 (subst IsSome c.in-Some.ensures.value refl)).0)

pub returns-in_ok-push-in-Some-clause-ok : goal.returns-in_ok-push-in-Some-clause-ok
returns-in_ok-push-in-Some-clause-ok c =
    waits c.self.inside.items c.self.inside.waiting.entries (c.get_mut.follows.lender c.push.new.self).entries c.args.self.now c.args.addr c.self.view_is c.args.inst c.push.new.self
    ((c.get_mut.follows.holds c.push.new.self).3 (subst IsSome c.in-Some.ensures.value refl)).0
    (c.in_ok-push-in-Some.ensures.items ∙ ap (λ o. unwrap_or (option_map (λ (v : Vec Inst Global). v.items) o) [] ++ c.args.inst ∷ []) c.in-Some.ensures.value)

pub returns-in_ok-insert-in-None-clause-ok : goal.returns-in_ok-insert-in-None-clause-ok
returns-in_ok-insert-in-None-clause-ok c =
    waits c.self.inside.items c.self.inside.waiting.entries c.insert.new.self.entries c.args.self.now c.args.addr c.self.view_is c.args.inst c.push-in-None.new.self
    (λ q. c.in_ok-insert-in-None.ensures.updates.0 q ∙ ap (λ (m : BTreeMap Addr (Vec Inst Global)). cond (eq_by_cmp addr_cmp c.args.addr q) (Some c.push-in-None.new.self) (queue_at m.entries q)) c.get_mut.follows.holds-at-none)
    (c.in_ok-push-in-None.ensures.items ∙ ap (λ items. items ++ c.args.inst ∷ []) c.new-waiters.ensures.items
    ∙ ap (λ o. unwrap_or (option_map (λ (v : Vec Inst Global). v.items) o) [] ++ c.args.inst ∷ []) c.in-None.ensures.value)

pub invariant_of-self : goal.invariant_of-self
invariant_of-self c =
    subst WaitOnce
    (sym (waits_as_before c.self.inside.items c.self.inside.waiting.entries (c.get_mut.follows.lender c.push.new.self).entries c.args.self.now c.args.addr c.self.view_is
    c.in-Some.waiters.now c.push.new.self (sym c.in-Some.ensures.value) c.in_err-push-in-Some.ensures.items ((c.get_mut.follows.holds c.push.new.self).3 (subst IsSome c.in-Some.ensures.value refl)).0))
    (subst WaitOnce c.self.view_is c.self.invariant)

pub invariant_of-self-in-Some : goal.invariant_of-self-in-Some
invariant_of-self-in-Some c =
    subst WaitOnce
    (sym (waits c.self.inside.items c.self.inside.waiting.entries (c.get_mut.follows.lender c.push.new.self).entries c.args.self.now c.args.addr c.self.view_is c.args.inst c.push.new.self
    ((c.get_mut.follows.holds c.push.new.self).3 (subst IsSome c.in-Some.ensures.value refl)).0
    (c.in_ok-push-in-Some.ensures.items ∙ ap (λ o. unwrap_or (option_map (λ (v : Vec Inst Global). v.items) o) [] ++ c.args.inst ∷ []) c.in-Some.ensures.value)))
    (waits_once c.orders_are_total.ensures.instances c.args.self.now c.args.addr c.args.inst (subst WaitOnce c.self.view_is c.self.invariant) c.requires)

pub invariant_of-self-in-None : goal.invariant_of-self-in-None
invariant_of-self-in-None c =
    subst WaitOnce
    (sym (waits c.self.inside.items c.self.inside.waiting.entries c.insert.new.self.entries c.args.self.now c.args.addr c.self.view_is c.args.inst c.push-in-None.new.self
    (λ q. c.in_ok-insert-in-None.ensures.updates.0 q ∙ ap (λ (m : BTreeMap Addr (Vec Inst Global)). cond (eq_by_cmp addr_cmp c.args.addr q) (Some c.push-in-None.new.self) (queue_at m.entries q)) c.get_mut.follows.holds-at-none)
    (c.in_ok-push-in-None.ensures.items ∙ ap (λ items. items ++ c.args.inst ∷ []) c.new-waiters.ensures.items
    ∙ ap (λ o. unwrap_or (option_map (λ (v : Vec Inst Global). v.items) o) [] ++ c.args.inst ∷ []) c.in-None.ensures.value)))
    (waits_once c.orders_are_total.ensures.instances c.args.self.now c.args.addr c.args.inst (subst WaitOnce c.self.view_is c.self.invariant) c.requires)
