use Rattle.std.proofs.Common.{◌≡◌, subst, IfOk, Vec, length}
use Rattle.std.specs.declared.alloc.Global.{Global}
use Rattle.terms.specs.declared.name.Addr.{Addr}
use Rattle.terms.specs.declared.name.Inst.{Inst}
use Rattle.instances.specs.Listed.{AreTheWaiting}
use Rattle.machine.specs.Machine.{Machine, waiting_count}
use Rattle.machine.specs.Status.{AreBlocked, AreUnfinished}
use Rattle.machine.proofs.Left.{unfinished}
use Rattle.machine.proofs.Told.{blocked, if_ok}
use Rattle.machine.proofs.machine.Machine.blocked.Goals as goal

pub returns-clause-blocked : goal.returns-clause-blocked
returns-clause-blocked c =
    let g = c.self.inside.graph.value in
    let m = c.self.inside.memory in
    subst (λ (s : Machine). IfOk c.blocked.result (λ (list : Vec (Inst × Addr) Global). AreBlocked s list.items)) c.self.view_is
    (if_ok (λ (list : Vec (Inst × Addr) Global). AreTheWaiting m.instances list.items) (λ list. AreBlocked (record { graph = g; memory = m }) list.items) c.blocked.result
    (λ list. blocked c.orders_are_total.ensures.keys c.orders_are_total.ensures.keys_tie g m c.self.invariant.0 c.are_there_together.ensures list.items) c.blocked.ensures.waiting)

pub returns-clause-unfinished : goal.returns-clause-unfinished
returns-clause-unfinished c =
    let g = c.self.inside.graph.value in
    let m = c.self.inside.memory in
    subst (λ (s : Machine). IfOk c.blocked.result (λ (list : Vec (Inst × Addr) Global). AreUnfinished s list.items)) c.self.view_is
    (if_ok (λ (list : Vec (Inst × Addr) Global). AreTheWaiting m.instances list.items) (λ list. AreUnfinished (record { graph = g; memory = m }) list.items) c.blocked.result
    (λ list. unfinished c.facts_are_told_apart.ensures.one c.facts_are_told_apart.ensures.among c.ends_once.ensures.one c.unfinished_wait.ensures.quiet c.orders_are_total.ensures.keys c.orders_are_total.ensures.keys_tie
    g m c.self.invariant.0 c.are_there_together.ensures list.items) c.blocked.ensures.waiting)

pub returns-clause-counted : goal.returns-clause-counted
returns-clause-counted c =
    subst (λ (s : Machine). IfOk c.blocked.result (λ (list : Vec (Inst × Addr) Global). length list.items ≡ waiting_count s)) c.self.view_is c.blocked.ensures.counted
