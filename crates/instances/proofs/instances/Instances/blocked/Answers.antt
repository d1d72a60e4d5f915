use Rattle.std.proofs.Common.{◌≡◌, ap, length}
use Rattle.instances.specs.Known.{total}
use Rattle.instances.specs.Listed.{AreTheWaiting}
use Rattle.instances.specs.OfStep.{is_waiting}
use Rattle.instances.proofs.Lengths.{waiting_length}
use Rattle.instances.proofs.Picked.{are_the_waiting, listed_of, waiting_in}
use Rattle.instances.proofs.instances.Instances.blocked.Goals as goal

pub returns-clause-waiting : goal.returns-clause-waiting
returns-clause-waiting c = listed_of (λ list. list.items) (AreTheWaiting c.args.self.now) _ _ c.waiting.result c.waiting.ensures (ap waiting_in c.walk.ensures.walk) (are_the_waiting c.args.self.now)

pub returns-clause-counted : goal.returns-clause-counted
returns-clause-counted c =
    listed_of (λ list. list.items) (λ list. length list ≡ total is_waiting c.args.self.now) _ _ c.waiting.result c.waiting.ensures (ap waiting_in c.walk.ensures.walk) (waiting_length c.args.self.now)
