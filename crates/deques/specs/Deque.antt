-- A deque of tickets: what was pushed with each of its handles, what came out to each, and what it holds.
use Rattle.std.specs.Prelude.{◌≡◌, ◌+◌, ◌≤◌, ◌==◌, ◌++◌, ◌∷◌, [], ℕ, List, cond}
use Rattle.std.specs.List.{sum_by}
use Rattle.crossbeam_deque.specs.Handles.{worker_view}
use Rattle.instances.specs.declared.ticket.Ticket.{Ticket}
use Rattle.deques.specs.declared.deque.Deque.{Deque}
use Rattle.deques.specs.declared.once_each.Log.{Log}

-- these were pushed, and these came out
abbrev pub log : List Ticket → List Ticket → Log
log pushed came = record { pushed = pushed; came = came }

-- the weight of all that was pushed with these handles, and of all that came out to them
abbrev pub all_pushed : (Ticket → ℕ) → List Log → ℕ
all_pushed weight logs = sum_by (λ log. sum_by weight log.pushed) logs

abbrev pub all_came : (Ticket → ℕ) → List Log → ℕ
all_came weight logs = sum_by (λ log. sum_by weight log.came) logs

-- however tickets are weighed, what was pushed weighs as much as what came out and what the deque holds
abbrev pub IsBalanced : List Ticket → List Log → Type 0
IsBalanced tickets logs = (weight : Ticket → ℕ) → all_pushed weight logs ≡ all_came weight logs + sum_by weight tickets

-- weighs the tickets with this number alone: so it counts them
abbrev pub with_number : ℕ → Ticket → ℕ
with_number number ticket = cond (ticket.number == number) 1 0

-- each number came out at most as often as it was pushed
abbrev pub ComesOutOnce : Type 0
ComesOutOnce = (tickets : List Ticket) (logs : List Log) → IsBalanced tickets logs → (number : ℕ) → all_came (with_number number) logs ≤ all_pushed (with_number number) logs

-- what was pushed with a worker's handle, and what came out to it
abbrev pub logged : Deque → Log
logged deque = worker_view deque.worker

abbrev pub pushed : Deque → List Ticket
pushed deque = (logged deque).pushed

abbrev pub came : Deque → List Ticket
came deque = (logged deque).came

-- a ticket was pushed with it
abbrev pub TakesIn : Deque → Deque → Ticket → Type 0
TakesIn old new ticket = logged new ≡ log (pushed old ++ ticket ∷ []) (came old)

-- a ticket came out to it
abbrev pub GivesOut : Deque → Deque → Ticket → Type 0
GivesOut old new ticket = logged new ≡ log (pushed old) (came old ++ ticket ∷ [])
