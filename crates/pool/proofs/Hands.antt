-- What a worker has in hand.
use Rattle.std.proofs.Common.{◌≡◌, ◌∙◌, ◌++◌, ◌∷◌, ◌<◌, [], ℕ, zero, suc, arith, IfSome, length, get_or, Bool, true, false, List, Option, None, Some, ap, subst, sym}
use Rattle.std.specs.Global.{Box}
use mathlib.Core.List.{IsPrefix}
use Rattle.terms.specs.Commits.{Commit}
use Rattle.terms.specs.Facts.{FactsGoOn}
use Rattle.terms.specs.Sets.{AmongBoth}
use Rattle.terms.specs.declared.name.Inst.{Inst}
use Rattle.machine.specs.Results.{ReadsStay}
use Rattle.steplang.specs.Running.{Asking, Running, resumed}
use Rattle.hub.specs.Opening.{facts_behind}
use Rattle.hub.specs.Running.{WaitsIn}
use Rattle.hub.proofs.Bodies.{waits_stay}
use Rattle.passes.specs.Known.{Known, heard_of}
use Rattle.passes.specs.Opening.{Opening}
use Rattle.passes.proofs.Lists.{prefix_further, prefix_self}
use Rattle.pool.specs.declared.hand.Hand.{Hand}
use Rattle.pool.specs.declared.waiting.Waiting.{Waiting}
use Rattle.pool.specs.Worked.{AreClaimed, AreWaitingAt, IsHand, IsHandOf, WaitsSince}

-- ---- runs that are kept

-- they wait when the pass has seen more
pub waiting_stay : (opening : Opening) (some all : List Commit) → IsPrefix some all → (places : List (Option (Box Asking))) → AreWaitingAt opening some places → AreWaitingAt opening all places
waiting_stay opening some all begins [] are = tt
waiting_stay opening some all begins (None ∷ places) are = (tt, waiting_stay opening some all begins places are.1)
waiting_stay opening some all begins (Some run ∷ places) are = (
  record { some = are.0.some; starts = prefix_further are.0.some some all are.0.starts begins; waits = are.0.waits },
  waiting_stay opening some all begins places are.1,
)

-- one more place, where no run is
pub one_more : (opening : Opening) (seen : List Commit) (places : List (Option (Box Asking))) → AreWaitingAt opening seen places → AreWaitingAt opening seen (places ++ None ∷ [])
one_more opening seen [] are = (tt, tt)
one_more opening seen (place ∷ places) are = (are.0, one_more opening seen places are.1)

-- the run at a place waits
pub at_place : (opening : Opening) (seen : List Commit) (places : List (Option (Box Asking))) (place : ℕ) (found : Option (Box Asking)) → place < length places → found ≡ get_or places place found → AreWaitingAt opening seen places
    → IfSome found (λ run. WaitsSince opening seen run.value)
at_place opening seen [] place found within is are = absurd (omega (arith, within))
at_place opening seen (first ∷ places) zero found within is are = subst (λ (o : Option (Box Asking)). IfSome o (λ run. WaitsSince opening seen run.value)) (sym is) are.0
at_place opening seen (first ∷ places) (suc place) found within is are = at_place opening seen places place found (omega (arith, within)) is are.1

-- a run that is parked may be kept
pub since_parked : (opening : Opening) (some all : List Commit) (task : Inst) (run : Running) (asking : Asking) → IsPrefix some all → WaitsIn opening.graph (facts_behind opening some) task run → run ≡ resumed asking → WaitsSince opening all asking
since_parked opening some all task run asking begins waits is =
    let own : asking.instance ≡ task = sym (ap (λ (r : Running). r.instance) is) ∙ waits.instance_is in
    record {
      some = some;
      starts = begins;
      waits = subst (λ (i : Inst). WaitsIn opening.graph (facts_behind opening some) i (resumed asking)) (sym own)
          (subst (λ (r : Running). WaitsIn opening.graph (facts_behind opening some) task r) is waits);
    }

-- and is one of the instance whose name it has
pub taken_out : AmongBoth → FactsGoOn → ReadsStay → (opening : Opening) (seen : List Commit) (asking : Asking) (instance : Inst) (run : Running) → WaitsSince opening seen asking → asking.instance ≡ instance → run ≡ resumed asking
    → WaitsIn opening.graph (facts_behind opening seen) instance run
taken_out both go_on stay opening seen asking instance run since same is =
    subst (λ (i : Inst). WaitsIn opening.graph (facts_behind opening seen) i run) same
    (subst (λ (r : Running). WaitsIn opening.graph (facts_behind opening seen) asking.instance r) (sym is)
    (waits_stay both go_on stay opening since.some seen since.starts asking.instance (resumed asking) since.waits))

-- ---- the hand

-- it is one when the pass has seen more
pub hand_stays : (opening : Opening) (some all : List Commit) (tasks : List Inst) (runs : Waiting) → IsPrefix some all → IsHandOf opening some tasks runs → IsHandOf opening all tasks runs
hand_stays opening some all tasks runs begins is = record { claimed = is.claimed; waiting = waiting_stay opening some all begins runs.places.items is.waiting }

-- other instances are claimed
pub hand_with : (opening : Opening) (some all : List Commit) (old new : List Inst) (runs : Waiting) → IsPrefix some all → IsHandOf opening some old runs → AreClaimed opening new → IsHandOf opening all new runs
hand_with opening some all old new runs begins is claimed = record { claimed = claimed; waiting = waiting_stay opening some all begins runs.places.items is.waiting }

-- nothing is claimed, and nothing kept
pub empty_hand : (opening : Opening) (seen : List Commit) (hand : Hand) → (hand.claimed ≡ []) × (hand.waiting.places.items ≡ []) → IsHand opening seen hand
empty_hand opening seen hand both = record {
  claimed = subst (λ (tasks : List Inst). AreClaimed opening tasks) (sym both.0) tt;
  waiting = subst (λ (places : List (Option (Box Asking))). AreWaitingAt opening seen places) (sym both.1) tt;
}

-- it has the same instances and runs
pub same_hand : (opening : Opening) (seen : List Commit) (old new : List Inst) (before after : Waiting) → (new ≡ old) × (after ≡ before) → IsHandOf opening seen old before → IsHandOf opening seen new after
same_hand opening seen old new before after same is = subst (λ (at : List Inst × Waiting). IsHandOf opening seen at.0 at.1) (λ i. (sym same.0 i, sym same.1 i)) is

-- a pass that looked whether a stop was asked for has seen no less
pub heard_ahead : (heard : Bool) (old new : Known) → new ≡ heard_of heard old → IsPrefix old.seen new.seen
heard_ahead heard old new is = subst (λ (known : Known). IsPrefix old.seen known.seen) (sym is) (same heard)
  where
    same : (heard : Bool) → IsPrefix old.seen (heard_of heard old).seen
    same true = prefix_self old.seen
    same false = prefix_self old.seen
