-- What of some ends comes is no more than they are, and at least one; each ends the instance at its place.
use Rattle.std.proofs.Common.{◌≡◌, refl, subst, ℕ, zero, suc, ◌≤◌, List, [], ◌∷◌, ◌++◌, length, take, drop, Option, Some, None, arith}
use Rattle.std.specs.List.{AllByRecursion}
use Rattle.terms.specs.declared.fault.FaultKind.{FaultKind}
use Rattle.terms.specs.declared.event.Event.{Event}
use Rattle.terms.specs.declared.event.Event.TheVariants.{EnvItem, EnvTag, Done, Stopped}
use Rattle.machine.specs.declared.group.Ended.{Ended}
use Rattle.machine.specs.Group.{AreEndedBy, AreEndsHere, EndsRunning, EndsTogether, StopsAt, cut, ended_by, stop_at, stopped_as}
use Rattle.machine.specs.GroupLaws.{IsOfEnds}
use Rattle.machine.specs.Machine.{Machine, facts}

module _ (m : Machine) where
  -- a fault in place of the first end
  stopped_first : (kind : FaultKind) (event : Event) (rest : List Event) → EndsRunning m event → AreEndedBy (stopped_as kind event ∷ []) (ended_by (event ∷ rest))
  stopped_first kind (EnvItem address value) rest may = absurd may
  stopped_first kind (EnvTag name) rest may = absurd may
  stopped_first kind (Done instance puts) rest may = (refl, tt)
  stopped_first kind (Stopped instance own) rest may = (refl, tt)

  -- an end as it is, and what comes of the others
  one_more : (event : Event) (rest commit : List Event) → EndsRunning m event → AreEndedBy commit (ended_by rest) → AreEndedBy (event ∷ commit) (ended_by (event ∷ rest))
  one_more (EnvItem address value) rest commit may ended = absurd may
  one_more (EnvTag name) rest commit may ended = absurd may
  one_more (Done instance puts) rest commit may ended = (refl, ended)
  one_more (Stopped instance own) rest commit may ended = (refl, ended)

  stopped_of : (stopped : Option FaultKind) (events : List Event) → AllByRecursion (EndsRunning m) events → StopsAt stopped events → IsOfEnds events (stop_at stopped events)
  stopped_of None events each stops = record { few = omega arith; some = λ any. absurd (none_of events stops any); ended = tt }
    where
      none_of : (events : List Event) → events ≡ [] → 1 ≤ length events → ⊥
      none_of events none any = let here : 1 ≤ 0 = subst (λ (list : List Event). 1 ≤ length list) none any in absurd (omega (arith, here))
  stopped_of (Some kind) [] each stops = absurd stops
  stopped_of (Some kind) (event ∷ rest) each stops = record { few = omega arith; some = λ any. omega arith; ended = stopped_first kind event rest each.0 }

  cut_of : (n : ℕ) (stopped : Option FaultKind) (events : List Event) → AllByRecursion (EndsRunning m) events → StopsAt stopped (drop n events) → IsOfEnds events (take n events ++ stop_at stopped (drop n events))
  cut_of zero stopped events each stops = stopped_of stopped events each stops
  cut_of (suc n) stopped [] each stops = stopped_of stopped [] each stops
  cut_of (suc n) stopped (event ∷ rest) each stops =
      let later = cut_of n stopped rest each.1 stops in record {
        few = omega (arith, later.few);
        some = λ any. omega arith;
        ended = one_more event rest (take n rest ++ stop_at stopped (drop n rest)) each.0 later.ended;
      }

pub cut_is_of_ends : (m : Machine) (events : List Event) (ended : Ended) → AreEndsHere m events → EndsTogether m.graph (facts m) events ended → IsOfEnds events (cut ended events)
cut_is_of_ends m events ended here together = cut_of m ended.done ended.stopped events here.each together.stops
