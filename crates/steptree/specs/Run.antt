-- What a block does, from one state of its instance to the next.
use Rattle.std.specs.Prelude.{ℕ, zero, suc, ℤ, pos, ◌+ℤ◌, List, [], ◌∷◌, ◌++◌, length, nat_lt, if◌then◌else◌, slice_set, Result, Ok, Err}
use Rattle.std.specs.Int.{int_gap}
use Rattle.std.specs.Ordering.{int_eq}
use Rattle.terms.specs.declared.name.Addr.{Addr}
use Rattle.terms.specs.declared.put.Put.{Put}
use Rattle.terms.specs.declared.fault.FaultKind.{FaultKind}
use Rattle.terms.specs.declared.fault.FaultKind.TheVariants.{Budget, TooManyPuts}
use Rattle.terms.specs.Same.{is_same}
use Rattle.steptree.specs.declared.simple.Action.{Action}
use Rattle.steptree.specs.declared.simple.Action.TheVariants.{Assigns, Gets, Puts}
use Rattle.steptree.specs.Tree.{End, Do, If, For}
use Rattle.steptree.specs.Simple.{NumberedSimple, Block, action_of}
use Rattle.steptree.specs.declared.body.TheConstants.{BUDGET}
use Rattle.terms.specs.declared.put.TheConstants.{MOST_PUTS}
use Rattle.steptree.specs.Values.{value_of}

-- an item that a step read: its address and its value
abbrev pub Read : Type 0
Read = Addr × ℤ

-- an instance while its body runs: the values of its variables, the number of statements and turns counted so far, the reads
-- that are still to come, and the puts so far
pub record State : Type 0 where
  pub variables : List ℤ
  pub counted : ℕ
  pub reads : List Read
  pub puts : List Put

-- a block came to its end; it is at fault, with these reads left; it asks for an item and no read is left; or the next
-- read is of another item than the one that it asks for
pub data Outcome : Type 0 where
  ends : State → Outcome
  faults : FaultKind → List Read → Outcome
  asks : Addr → Outcome
  strays : Outcome

-- one block after another: the second runs from the state in which the first ended, if it did
abbrev pub followed : Outcome → (State → Outcome) → Outcome
followed (ends state) next = next state
followed (faults kind reads) next = faults kind reads
followed (asks address) next = asks address
followed strays next = strays

-- a statement, or a turn of a loop, is counted before anything else
abbrev pub counting : State → (State → Outcome) → Outcome
counting state next = if nat_lt state.counted BUDGET then next (record state { counted = suc state.counted }) else faults Budget state.reads

-- goes on with the value of an expression, or is at fault
abbrev pub given : {X : Type 0} → Result X FaultKind → State → (X → Outcome) → Outcome
given (Ok value) state next = next value
given (Err kind) state next = faults kind state.reads

abbrev pub assigned : ℕ → ℤ → State → State
assigned slot value state = record state { variables = slice_set state.variables slot value }

-- goes on with the next read, if it is of this item
abbrev pub answered : Addr → List Read → (ℤ → List Read → Outcome) → Outcome
answered address [] next = asks address
answered address (read ∷ reads) next = if is_same read.0 address then next read.1 reads else strays

-- one more put, if there may be one
abbrev pub putting : Put → State → (State → Outcome) → Outcome
putting one state next = if nat_lt (length state.puts) MOST_PUTS then next (record state { puts = state.puts ++ one ∷ [] }) else faults TooManyPuts state.reads

-- a block, turn after turn: `left` turns are left, and the variable has this value when the next turn begins
abbrev pub turns : (State → Outcome) → ℕ → ℤ → ℕ → State → Outcome
turns block slot value zero state = ends state
turns block slot value (suc left) state =
    counting state (λ now. followed (block (assigned slot value now)) (turns block slot (value +ℤ pos 1) left))

-- does what a simple statement comes to, and goes on
abbrev pub acting : Action → State → (State → Outcome) → Outcome
acting (Assigns slot value) now next = next (assigned slot value now)
acting (Gets slot address) now next = answered address now.reads (λ value reads. next (assigned slot value (record now { reads = reads })))
acting (Puts one) now next = putting one now next

-- a simple statement, after it was counted
abbrev pub doing : NumberedSimple → State → (State → Outcome) → Outcome
doing statement now next = given (action_of statement now.variables) now (λ action. acting action now next)

abbrev pub run : Block → State → Outcome
run End state = ends state
run (Do statement rest) state = counting state (λ now. doing statement now (run rest))
run (If condition first second rest) state =
    counting state (λ now. given (value_of condition now.variables) now (λ v. followed (if int_eq v (pos 0) then run second now else run first now) (run rest)))
run (For slot from to block rest) state =
    counting state (λ now. given (value_of from now.variables) now (λ a. given (value_of to now.variables) now (λ b.
    followed (turns (run block) slot a (int_gap a b) now) (run rest))))
