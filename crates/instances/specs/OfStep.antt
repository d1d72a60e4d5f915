-- The instances of one step, by the keys of their tags.
use Rattle.std.specs.Prelude.{◌≡◌, ℕ, ℤ, ◌+◌, ◌≤◌, Bool, true, false, cond, List, length, Option, Some, None, ⊤}
use Rattle.std.specs.List.{count_by}
use Rattle.std.specs.Ordering.{eq_by_cmp}
use Rattle.std.specs.FinMap.{FinMap, entries, get, insert}
use Rattle.terms.specs.Key.{key_cmp}
use Rattle.instances.specs.declared.state.State.{State}
use Rattle.instances.specs.declared.state.State.TheVariants.{Ready, Running, Waiting, Done}

-- the state of each prescribed instance, and the number of further instances that there is room for
pub record OfStep : Type 0 where
  pub states : FinMap key_cmp State
  pub room : ℕ

abbrev pub is_ready : State → Bool
is_ready Ready = true
is_ready Running = false
is_ready (Waiting address) = false
is_ready Done = false

abbrev pub is_running : State → Bool
is_running Ready = false
is_running Running = true
is_running (Waiting address) = false
is_running Done = false

abbrev pub is_waiting : State → Bool
is_waiting Ready = false
is_waiting Running = false
is_waiting (Waiting address) = true
is_waiting Done = false

abbrev pub is_done : State → Bool
is_done Ready = false
is_done Running = false
is_done (Waiting address) = false
is_done Done = true

-- the number of instances in a state that passes the test
abbrev pub how_many : (State → Bool) → FinMap key_cmp State → ℕ
how_many test states = count_by (λ entry. test entry.1) (entries states)

-- the instance waits at some address
abbrev pub IsWaiting : Option State → Type 0
IsWaiting (Some (Waiting address)) = ⊤
IsWaiting other = ⊥

-- an instance moves to another state, and nothing else changes
pub record Moves (old new : OfStep) (key : List ℤ) (to : State) : Type 0 where
  pub states : new.states ≡ insert old.states key to
  pub room : new.room ≡ old.room

-- the instance is added with this state, and the room is one less
pub record AddsInstance (old new : OfStep) (key : List ℤ) (state : State) : Type 0 where
  pub states : new.states ≡ insert old.states key state
  pub room : new.room + 1 ≡ old.room

-- ---- what is kept beside the states: the keys of the ready instances, and the number of those that run

-- 1 if the state passes the test, else 0
abbrev pub one_if : (State → Bool) → Option State → ℕ
one_if test None = 0
one_if test (Some state) = cond (test state) 1 0

-- how often a key is in a list
abbrev pub times : List ℤ → List (List ℤ) → ℕ
times key keys = count_by (eq_by_cmp key_cmp key) keys

-- the list has each ready instance once, and no other; `running` instances run; and the list has room for all instances
pub record IsKept (states : FinMap key_cmp State) (ready : List (List ℤ)) (running capacity : ℕ) : Type 0 where
  pub listed : (key : List ℤ) → times key ready ≡ one_if is_ready (get states key)
  pub all_listed : length ready ≡ how_many is_ready states
  pub counted : running ≡ how_many is_running states
  pub enough : length (entries states) ≤ capacity
