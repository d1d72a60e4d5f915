use Rattle.std.proofs.Common.{◌≡◌, ◌+◌, ◌≤◌, vec_capacity, length}
use Rattle.instances.proofs.Handing.{Handed}
use Rattle.instances.proofs.instances.Instances.take_tickets.Given as goal

-- a ticket was handed out in each turn, and there is room for the others
abbrev pub invariant-loop-added : goal.invariant-loop-added
invariant-loop-added l =
    (l.self ≡ l.initial.self) × Handed l.initial.self l.initial.numbers l.numbers l.initial.tickets.items l.tickets.items l.added × (length l.initial.tickets.items + 64 ≤ vec_capacity l.tickets)
