-- The ready instances of a step, as a queue of their keys.
use Rattle.std.specs.Prelude.{ℕ, ℤ, List, ◌∷◌, ◌++◌}
use Rattle.std.specs.List.Sorted.{IsPermutation}
use Rattle.std.specs.VecDeque.{deque_capacity}
use Rattle.instances.specs.declared.ready_queue.ReadyQueue.{ReadyQueue}

-- all of its keys, and for how many it has room
abbrev pub keys : ReadyQueue → List (List ℤ)
keys queue = queue.queued.items ++ queue.handed.items

abbrev pub capacity : ReadyQueue → ℕ
capacity queue = deque_capacity queue.queued

-- a key is among these
pub record IsAmong (keys : List (List ℤ)) (key : List ℤ) : Type 0 where
  pub others : List (List ℤ)
  pub taken : IsPermutation keys (key ∷ others)
