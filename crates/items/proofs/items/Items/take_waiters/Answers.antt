use Rattle.std.proofs.Common.{◌∙◌, [], ap, sym, subst, option_map, Vec}
use Rattle.std.specs.declared.alloc.Global.{Global}
use Rattle.std.specs.Option.{unwrap_or}
use Rattle.terms.specs.declared.name.Inst.{Inst}
use Rattle.items.specs.Once.{IsOnceEach, WaitOnce, left_once}
use Rattle.items.proofs.Waiting.{waiters_seen, waits_no_more}
use Rattle.items.proofs.items.Items.take_waiters.Goals.{in-Some, in-None}
use Rattle.items.proofs.items.Items.take_waiters.Goals as goal

pub returns-clause-waiters : goal.returns-clause-waiters
returns-clause-waiters c =
    let here = waiters_seen c.self.inside.items c.self.inside.waiting.entries c.args.self.now c.args.addr c.self.view_is in
    elim c.match-remove.branch [
      | in-Some w ↦ ap (λ (v : Vec Inst Global). v.items) w.result-is ∙ ap (λ o. unwrap_or (option_map (λ (v : Vec Inst Global). v.items) o) []) (sym w.in-Some.is ∙ c.remove.ensures.value) ∙ sym here
      | in-None w ↦ ap (λ (v : Vec Inst Global). v.items) w.result-is ∙ w.new.ensures.items ∙ ap (λ o. unwrap_or (option_map (λ (v : Vec Inst Global). v.items) o) []) (sym w.in-None.is ∙ c.remove.ensures.value) ∙ sym here
    ]

pub returns-clause-taken : goal.returns-clause-taken
returns-clause-taken c =
    waits_no_more c.self.inside.items c.self.inside.waiting.entries c.remove.new.self.entries c.args.self.now c.args.addr c.self.view_is c.remove.ensures.updates.0

pub returns-clause-once : goal.returns-clause-once
returns-clause-once c = subst IsOnceEach (sym (returns-clause-waiters c)) (subst WaitOnce c.self.view_is c.self.invariant c.args.addr)

pub invariant_of-self : goal.invariant_of-self
invariant_of-self c =
    subst WaitOnce (sym (waits_no_more c.self.inside.items c.self.inside.waiting.entries c.remove.new.self.entries c.args.self.now c.args.addr c.self.view_is c.remove.ensures.updates.0))
    (left_once c.args.self.now c.args.addr (subst WaitOnce c.self.view_is c.self.invariant))
