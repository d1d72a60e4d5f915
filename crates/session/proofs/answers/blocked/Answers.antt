use Rattle.std.proofs.Common.{◌∙◌, subst}
use Rattle.std.specs.List.Sorted.{IsSortedBy}
use Rattle.std.specs.Ordering.{is_lt}
use Rattle.graph.specs.Graph.{Graph}
use Rattle.session.specs.Answers.{instance_cmp}
use Rattle.session.proofs.Told.{told_waiting}
use Rattle.session.proofs.answers.blocked.Goals as goal

pub returns-in-Ok : goal.returns-in-Ok
returns-in-Ok g c working idle some =
    told_waiting c.orders_are_total.ensures.instances c.orders_are_total.ensures.instances_tie c.args.core.now.machine c.is_kept.ensures.machine idle some c.in-Ok.waiting.items c.sort_by_name.new.waiting.items c.in-Ok.ensures.blocked c.sort_by_name.ensures.same
    (subst (λ (h : Graph). IsSortedBy (λ one two. is_lt (instance_cmp h one.0 two.0)) c.sort_by_name.new.waiting.items) (c.deref.ensures ∙ c.graph.ensures) c.sort_by_name.ensures.rises)
