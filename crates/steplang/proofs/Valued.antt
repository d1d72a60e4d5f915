-- If an expression gave a value, the block goes on with it.
use Rattle.std.proofs.Common.{◌≡◌, ℕ, ℤ, ap}
use Rattle.std.specs.Prelude.{Result, Ok, Err}
use Rattle.terms.specs.declared.fault.FaultKind.{FaultKind}
use Rattle.steptree.specs.declared.simple.Simple.TheVariants.{Assign}
use Rattle.steptree.specs.declared.simple.Action.TheVariants.{Assigns}
use Rattle.steptree.specs.Tree.{Expression}
use Rattle.steptree.specs.Values.{with_value, value_of}
use Rattle.steptree.specs.Run.{State, Outcome, faults, given, assigned, acting, doing}

pub given_ok : {X : Type 0} (result : Result X FaultKind) (value : X) (state : State) (next : X → Outcome) → result ≡ Ok value → given result state next ≡ next value
given_ok result value state next is = ap (λ r. given r state next) is

-- And if it gave a fault, the block ends in that.
pub given_err : {X : Type 0} (result : Result X FaultKind) (kind : FaultKind) (state : State) (next : X → Outcome) → result ≡ Err kind → given result state next ≡ faults kind state.reads
given_err result kind state next is = ap (λ r. given r state next) is

-- The same of an assignment.
abbrev assigns : ℕ → State → (State → Outcome) → Result ℤ FaultKind → Outcome
assigns variable state next result = given (with_value result (λ value. Ok (Assigns variable value))) state (λ action. acting action state next)

pub assigns_value : (variable : ℕ) (expression : Expression) (value : ℤ) (state : State) (next : State → Outcome) → value_of expression state.variables ≡ Ok value
    → doing (Assign variable expression) state next ≡ next (assigned variable value state)
assigns_value variable expression value state next is = ap (assigns variable state next) is

pub assigns_fault : (variable : ℕ) (expression : Expression) (kind : FaultKind) (state : State) (next : State → Outcome) → value_of expression state.variables ≡ Err kind
    → doing (Assign variable expression) state next ≡ faults kind state.reads
assigns_fault variable expression kind state next is = ap (assigns variable state next) is
