-- Ends are taken one behind another: what was taken so far, and what is still to be taken.
use Rattle.std.proofs.Common.{◌≡◌, ◌∙◌, ◌+◌, ◌≤◌, ap, sym, refl, subst, ℕ, zero, suc, List, [], ◌∷◌, drop, length, arith}
use Rattle.terms.specs.declared.name.Inst.{Inst}
use Rattle.terms.specs.declared.event.Event.{Event}
use Rattle.terms.specs.Sets.{Facts}
use Rattle.graph.specs.Graph.{Graph}
use Rattle.machine.specs.Group.{AreEndedBy, AreRunning, TakesInTurn, puts_of_all}
use Rattle.machine.specs.GroupLaws.{RoomInTurn}
use Rattle.machine.specs.GroupTaking.{TakesFirst}
use Rattle.machine.specs.Machine.{HasRoom, Machine, facts, puts_of, running_count}
use Rattle.machine.specs.State.{AreLegalFrom}

-- Of the events, those in `rest` are still to be taken, from this machine, and they end the first of the instances that are left.
pub record AreTaken (old : Machine) (instances : List Inst) (events : List Event) (now : Machine) (left : List Inst) (rest : List Event) : Type 0 where
  pub goes_on : (new : Machine) → TakesInTurn now rest new → TakesInTurn old events new
  pub ended : AreEndedBy rest left
  pub running : AreRunning now left
  pub legal : AreLegalFrom now.graph (facts now) rest
  pub room : HasRoom now (puts_of_all rest)
  pub behind : drop (length events) instances ≡ drop (length rest) left
  pub counted : running_count now + length events ≤ running_count old + length rest

-- the first of the rest can be taken
pub ended_next : (event : Event) (rest : List Event) (left : List Inst) → AreEndedBy (event ∷ rest) left → AreEndedBy (event ∷ []) left
ended_next event rest [] ended = ended
ended_next event rest (task ∷ left) ended = (ended.0, tt)

ended_later : (event : Event) (rest : List Event) (left : List Inst) → AreEndedBy (event ∷ rest) left → AreEndedBy rest (drop 1 left)
ended_later event rest [] ended = absurd ended
ended_later event rest (task ∷ left) ended = ended.1

drop_later : (n : ℕ) (left : List Inst) → drop (suc n) left ≡ drop n (drop 1 left)
drop_later n (task ∷ left) = refl
drop_later zero [] = refl
drop_later (suc n) [] = refl

counted_on : (next now old all rest : ℕ) → now + all ≤ old + suc rest → next + 1 ≤ now → next + all ≤ old + rest
counted_on next now old all rest so_far one = omega (arith, so_far, one)

module _ (in_turn : RoomInTurn) (old : Machine) (instances : List Inst) (events : List Event) (now : Machine) (left : List Inst) (event : Event) (rest : List Event) where
  pub room_next : AreTaken old instances events now left (event ∷ rest) → HasRoom now (puts_of event)
  room_next taken = (in_turn now event rest taken.room).0

  -- and then the others are still to be taken
  pub taken_on : (next : Machine) (after : List Inst) → AreTaken old instances events now left (event ∷ rest) → TakesFirst now left event next after → AreTaken old instances events next after rest
  taken_on next after taken first = record {
    goes_on = λ new others. taken.goes_on new (next, first.takes, others);
    ended = subst (AreEndedBy rest) (sym first.rest) (ended_later event rest left taken.ended);
    running = first.running;
    legal =
        subst (λ (g : Graph). AreLegalFrom g (facts next) rest) (sym first.takes.graph)
        (subst (λ (X : Facts). AreLegalFrom now.graph X rest) (λ i fact. sym (first.takes.facts fact) i) taken.legal.1);
    room = (in_turn now event rest taken.room).1 next first.takes;
    behind = taken.behind ∙ drop_later (length rest) left ∙ ap (λ (list : List Inst). drop (length rest) list) (sym first.rest);
    counted = counted_on (running_count next) (running_count now) (running_count old) (length events) (length rest) taken.counted first.counted;
  }

-- at first none was taken
pub none_taken : (old : Machine) (instances : List Inst) (events : List Event)
    → AreEndedBy events instances → AreRunning old instances → AreLegalFrom old.graph (facts old) events → HasRoom old (puts_of_all events) → AreTaken old instances events old instances events
none_taken old instances events ended running legal room = record {
  goes_on = λ new all. all;
  ended = ended;
  running = running;
  legal = legal;
  room = room;
  behind = refl;
  counted = omega arith;
}

-- at last all were
pub record AllAreTaken (old : Machine) (instances : List Inst) (events : List Event) (new : Machine) (left : List Inst) : Type 0 where
  pub takes : TakesInTurn old events new
  pub rest : left ≡ drop (length events) instances
  pub running : AreRunning new left
  pub counted : running_count new + length events ≤ running_count old

pub all_taken : (old : Machine) (instances : List Inst) (events : List Event) (new : Machine) (left : List Inst) (rest : List Event)
    → rest ≡ [] → AreTaken old instances events new left rest → AllAreTaken old instances events new left
all_taken old instances events new left rest none taken =
    let at_last : AreTaken old instances events new left [] = subst (AreTaken old instances events new left) none taken in record {
      takes = at_last.goes_on new refl;
      rest = sym at_last.behind;
      running = at_last.running;
      counted = omega (arith, at_last.counted);
    }
