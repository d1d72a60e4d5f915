use Rattle.std.proofs.Common.{◌≡◌, ◌<◌, ◌≤◌, ℕ, length, get_or}
use Rattle.std.specs.FinMap.{empty}
use Rattle.std.specs.Vec.{vec_capacity}
use Rattle.instances.specs.Known.{fresh_step}
use Rattle.instances.specs.MarkedDone.{MarksDone}
use Rattle.instances.proofs.done_maps.done_maps.Given as goal

-- the marks of each step so far
abbrev pub invariant-loop-step : goal.invariant-loop-step
invariant-loop-step l = record {
  many : length l.maps.items ≡ l.step-index;
  room : length l.steps ≤ vec_capacity l.maps;
  each : (n : ℕ) → n < length l.maps.items → MarksDone (get_or l.steps n (fresh_step (record { 0 = 0 }))).instances.states (get_or l.maps.items n empty);
}
