-- A block counts a statement for each read that it uses.
use Rattle.std.proofs.Common.{◌≡◌, ◌≤◌, ◌+◌, ℕ, zero, suc, ℤ, pos, ◌+ℤ◌, Bool, true, false, List, [], ◌∷◌, ◌++◌, length, nat_lt, if◌then◌else◌, Some, refl, arith}
use Rattle.std.proofs.lemmas.Bool.{ltb-true}
use Rattle.std.specs.Prelude.{⊤, Result, Ok, Err}
use Rattle.std.specs.Int.{int_gap}
use Rattle.std.specs.Ordering.{int_eq}
use Rattle.terms.specs.declared.name.Addr.{Addr}
use Rattle.terms.specs.declared.put.Put.{Put}
use Rattle.terms.specs.declared.put.TheConstants.{MOST_PUTS}
use Rattle.terms.specs.declared.fault.FaultKind.{FaultKind}
use Rattle.terms.specs.declared.fault.FaultKind.TheVariants.{Budget, TooManyPuts}
use Rattle.terms.specs.Same.{is_same}
use Rattle.steptree.specs.Tree.{End, Do, If, For}
use Rattle.steptree.specs.Simple.{Block, action_of}
use Rattle.steptree.specs.declared.simple.Action.{Action}
use Rattle.steptree.specs.declared.simple.Action.TheVariants.{Assigns, Gets, Puts}
use Rattle.steptree.specs.declared.body.Body.{Body}
use Rattle.steptree.specs.declared.body.TheConstants.{BUDGET}
use Rattle.steptree.specs.Values.{value_of}
use Rattle.steptree.specs.Run.{Read, State, Outcome, ends, faults, asks, strays, followed, counting, given, assigned, answered, putting, acting, turns, run}
use Rattle.steptree.specs.Bodies.{Ending, Gives, Faults, used_up, ending_of, begun, outcome_of, Along}

-- `reads` is at most the statements counted and the reads left together, and the count is within the budget
abbrev Covers : ℕ → State → Type 0
Covers reads state = (reads ≤ state.counted + length state.reads) × (state.counted ≤ BUDGET)

module _ (all : ℕ) where
  abbrev Covered : Outcome → Type 0
  Covered (ends state) = Covers all state
  Covered (faults kind left) = all ≤ BUDGET + length left
  Covered (asks address) = all ≤ BUDGET
  Covered strays = ⊤

  abbrev StaysCovered : (State → Outcome) → Type 0
  StaysCovered step = (state : State) → Covers all state → Covered (step state)

  -- ---- each way in which a block goes on

  either : (holds : Bool) (first second : Outcome) → Covered first → Covered second → Covered (if holds then first else second)
  either true first second one two = one
  either false first second one two = two

  where_it_holds : (holds : Bool) (first second : Outcome) → (holds ≡ true → Covered first) → Covered second → Covered (if holds then first else second)
  where_it_holds true first second one two = one refl
  where_it_holds false first second one two = two

  left : (state : State) → Covers all state → all ≤ BUDGET + length state.reads
  left state covers = omega (arith, covers.0, covers.1)

  weaker : (state : State) → Covers (suc all) state → Covers all state
  weaker state covers = (omega (arith, covers.0), covers.1)

  behind : (outcome : Outcome) (next : State → Outcome) → Covered outcome → StaysCovered next → Covered (followed outcome next)
  behind (ends state) next covered stays = stays state covered
  behind (faults kind rest) next covered stays = covered
  behind (asks address) next covered stays = covered
  behind strays next covered stays = tt

  -- after a statement is counted, one more read is covered
  counted : (next : State → Outcome) → ((now : State) → Covers (suc all) now → Covered (next now)) → StaysCovered (λ state. counting state next)
  counted next stays state covers =
      where_it_holds (nat_lt state.counted BUDGET) (next (record state { counted = suc state.counted })) (faults Budget state.reads)
      (λ room. stays (record state { counted = suc state.counted }) (omega (arith, covers.0), omega (arith, ltb-true state.counted BUDGET room))) (left state covers)

  with_result : {X : Type 0} (result : Result X FaultKind) (state : State) (next : X → Outcome) → Covers all state → ((v : X) → Covered (next v)) → Covered (given result state next)
  with_result (Ok v) state next covers stays = stays v
  with_result (Err kind) state next covers stays = left state covers

  -- a read uses that one
  with_answer : (address : Addr) (state : State) (reads : List Read) (next : ℤ → List Read → Outcome) → Covers (suc all) (record state { reads = reads })
      → ((v : ℤ) (rest : List Read) → Covers all (record state { reads = rest }) → Covered (next v rest)) → Covered (answered address reads next)
  with_answer address state [] next covers stays = omega (arith, covers.0, covers.1)
  with_answer address state (read ∷ reads) next covers stays =
      either (is_same read.0 address) (next read.1 reads) strays (stays read.1 reads (omega (arith, covers.0), covers.1)) tt

  put_one : (one : Put) (next : State → Outcome) → StaysCovered next → StaysCovered (λ state. putting one state next)
  put_one one next stays state covers =
      either (nat_lt (length state.puts) MOST_PUTS) (next (record state { puts = state.puts ++ one ∷ [] })) (faults TooManyPuts state.reads)
      (stays (record state { puts = state.puts ++ one ∷ [] }) covers) (left state covers)

  all_turns : (block : State → Outcome) → StaysCovered block → (slot turns_left : ℕ) (from : ℤ) → StaysCovered (turns block slot from turns_left)
  all_turns block stays slot zero from state covers = covers
  all_turns block stays slot (suc turns_left) from state covers =
      counted (λ now. followed (block (assigned slot from now)) (turns block slot (from +ℤ pos 1) turns_left))
      (λ now more. behind (block (assigned slot from now)) (turns block slot (from +ℤ pos 1) turns_left) (stays (assigned slot from now) (weaker now more)) (all_turns block stays slot turns_left (from +ℤ pos 1)))
      state covers

  -- what a simple statement does uses one read at most
  acts : (action : Action) (next : State → Outcome) → StaysCovered next → (now : State) → Covers (suc all) now → Covered (acting action now next)
  acts (Assigns slot value) next stays now more = stays (assigned slot value now) (weaker now more)
  acts (Gets slot address) next stays now more =
      with_answer address now now.reads (λ value reads. next (assigned slot value (record now { reads = reads }))) more (λ value reads covers. stays (assigned slot value (record now { reads = reads })) covers)
  acts (Puts one) next stays now more = put_one one next stays now (weaker now more)

  -- ---- blocks and bodies

  blocks : (block : Block) → StaysCovered (run block)
  blocks End state covers = covers
  blocks (Do statement rest) state covers =
      counted (λ now. given (action_of statement now.variables) now (λ action. acting action now (run rest)))
      (λ now more. with_result (action_of statement now.variables) now (λ action. acting action now (run rest)) (weaker now more) (λ action. acts action (run rest) (blocks rest) now more))
      state covers
  blocks (If condition first second rest) state covers =
      counted (λ now. given (value_of condition now.variables) now (λ v. followed (if int_eq v (pos 0) then run second now else run first now) (run rest)))
      (λ now more. with_result (value_of condition now.variables) now (λ v. followed (if int_eq v (pos 0) then run second now else run first now) (run rest)) (weaker now more) (λ v.
      behind (if int_eq v (pos 0) then run second now else run first now) (run rest)
      (either (int_eq v (pos 0)) (run second now) (run first now) (blocks second now (weaker now more)) (blocks first now (weaker now more))) (blocks rest)))
      state covers
  blocks (For slot from to block rest) state covers =
      counted (λ now. given (value_of from now.variables) now (λ a. given (value_of to now.variables) now (λ b. followed (turns (run block) slot a (int_gap a b) now) (run rest))))
      (λ now more. with_result (value_of from now.variables) now (λ a. given (value_of to now.variables) now (λ b. followed (turns (run block) slot a (int_gap a b) now) (run rest))) (weaker now more) (λ a.
      with_result (value_of to now.variables) now (λ b. followed (turns (run block) slot a (int_gap a b) now) (run rest)) (weaker now more) (λ b.
      behind (turns (run block) slot a (int_gap a b) now) (run rest) (all_turns (run block) (blocks block) slot (int_gap a b) a now (weaker now more)) (blocks rest))))
      state covers

  used : (rest : List Read) (end ending : Ending) → used_up rest end ≡ Some ending → all ≤ BUDGET + length rest → all ≤ BUDGET
  used [] end ending is few = omega (arith, few)
  used (read ∷ rest) end ending is few = absurd (cc)

  ended : (outcome : Outcome) (ending : Ending) → ending_of outcome ≡ Some ending → Covered outcome → all ≤ BUDGET
  ended (ends state) ending is covered = used state.reads (Gives state.puts) ending is (left state covered)
  ended (faults kind rest) ending is covered = used rest (Faults kind) ending is covered
  ended (asks address) ending is covered = covered
  ended strays ending is covered = absurd (cc)

pub bodies : (body : Body) (key : List ℤ) (reads : List Read) (ending : Ending) → Along body key reads ending → length reads ≤ BUDGET
bodies body key reads ending along =
    ended (length reads) (outcome_of body key reads) ending along
    (behind (length reads) (run body.read (begun key reads)) (run body.write) (blocks (length reads) body.read (begun key reads) (omega arith, omega arith)) (blocks (length reads) body.write))
