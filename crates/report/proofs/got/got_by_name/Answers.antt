use Rattle.std.proofs.Common.{ap}
use Rattle.std.specs.Ordering.{is_lt, nat_cmp, ordering_then}
use Rattle.std.specs.Cmp.Lexicographic.{slice_cmp}
use Rattle.std.specs.declared.cmp.Ordering.{Ordering}
use Rattle.report.specs.Got.{Named}
use Rattle.report.proofs.ByName.{in_order}
use Rattle.report.proofs.got.got_by_name.Goals as goal

pub returns : goal.returns
returns c =
    in_order c.args.graph.now
    (λ (one two : Named). is_lt (ordering_then (slice_cmp nat_cmp one.0.now two.0.now) (nat_cmp one.1.0 two.1.0)))
    (λ one two less. ap (λ (order : Ordering). is_lt (ordering_then order (nat_cmp one.1.0 two.1.0))) less)
    c.item_count.ensures.graph c.in_ok-list.list.items c.sort_unstable.new.self.items c.in_ok-list.ensures c.sort_unstable.ensures.permutation c.sort_unstable.ensures.sorted
