-- A body's puts are not too many, and its fault is never a double put.
use Rattle.std.proofs.Common.{◌≡◌, ◌≤◌, ℕ, zero, suc, ℤ, pos, ◌+ℤ◌, ◌-ℤ◌, ◌*ℤ◌, neg_ℤ, int_div, int_rem, Bool, true, false, List, [], ◌∷◌, ◌++◌, length, length-append, nat_lt, if◌then◌else◌, Some, refl, subst, arith}
use Rattle.std.proofs.lemmas.Bool.{ltb-true}
use Rattle.std.specs.Prelude.{⊤, ◌≢◌, Result, Ok, Err}
use Rattle.std.specs.Int.{int_gap}
use Rattle.std.specs.Ordering.{int_eq}
use Rattle.terms.specs.declared.name.Addr.{Addr}
use Rattle.terms.specs.declared.put.Put.{Put}
use Rattle.terms.specs.declared.put.TheConstants.{MOST_PUTS}
use Rattle.terms.specs.declared.fault.FaultKind.{FaultKind}
use Rattle.terms.specs.declared.fault.FaultKind.TheVariants.{Overflow, DivisionByZero, Budget, DoublePut, TooManyPuts}
use Rattle.terms.specs.Same.{is_same}
use Rattle.steptree.specs.declared.expression.Operator.{Operator}
use Rattle.steptree.specs.declared.expression.Operator.TheVariants as operator
use Rattle.steptree.specs.Tree.{Expression, Number, Variable, Negation, Operation, End, Do, If, For}
use Rattle.steptree.specs.Simple.{NumberedSimple, Block, action_of}
use Rattle.steptree.specs.declared.simple.Action.{Action}
use Rattle.steptree.specs.declared.simple.Action.TheVariants.{Assigns, Gets, Puts}
use Rattle.steptree.specs.declared.body.Body.{Body}
use Rattle.steptree.specs.declared.body.TheConstants.{BUDGET}
use Rattle.steptree.specs.Values.{is_held, held, operated, with_value, value_of, values_of}
use Rattle.steptree.specs.Run.{Read, State, Outcome, ends, faults, asks, strays, followed, counting, given, assigned, answered, putting, acting, turns, run}
use Rattle.steptree.specs.Bodies.{Ending, Gives, Faults, Asks, used_up, ending_of, begun, outcome_of, Along}

-- ---- expressions

-- a fault in place of a value is never a double put
abbrev Valued : {X : Type 0} → Result X FaultKind → Type 0
Valued (Ok value) = ⊤
Valued (Err kind) = kind ≢ DoublePut

either_value : {X : Type 0} (holds : Bool) (first second : Result X FaultKind) → Valued first → Valued second → Valued (if holds then first else second)
either_value true first second one two = one
either_value false first second one two = two

held_value : (number : ℤ) → Valued (held number)
held_value number = either_value (is_held number) (Ok number) (Err Overflow) tt (λ is. cc)

then_value : {X Y : Type 0} (result : Result X FaultKind) (next : X → Result Y FaultKind) → Valued result → ((value : X) → Valued (next value)) → Valued (with_value result next)
then_value (Ok value) next is others = others value
then_value (Err kind) next is others = is

operated_value : (between : Operator) (left right : ℤ) → Valued (operated between left right)
operated_value operator.Add left right = held_value (left +ℤ right)
operated_value operator.Subtract left right = held_value (left -ℤ right)
operated_value operator.Multiply left right = held_value (left *ℤ right)
operated_value operator.Divide left right = either_value (int_eq right (pos 0)) (Err DivisionByZero) (held (int_div left right)) (λ is. cc) (held_value (int_div left right))
operated_value operator.Remainder left right = either_value (int_eq right (pos 0)) (Err DivisionByZero) (Ok (int_rem left right)) (λ is. cc) tt
operated_value operator.Equal left right = tt
operated_value operator.NotEqual left right = tt
operated_value operator.Less left right = tt
operated_value operator.LessOrEqual left right = tt
operated_value operator.Greater left right = tt
operated_value operator.GreaterOrEqual left right = tt

value : (expression : Expression) (variables : List ℤ) → Valued (value_of expression variables)
value (Number number) variables = tt
value (Variable slot) variables = tt
value (Negation operand) variables = then_value (value_of operand variables) (λ v. held (neg_ℤ v)) (value operand variables) (λ v. held_value (neg_ℤ v))
value (Operation between left right) variables =
    then_value (value_of left variables) (λ x. with_value (value_of right variables) (λ y. operated between x y)) (value left variables) (λ x.
    then_value (value_of right variables) (λ y. operated between x y) (value right variables) (λ y. operated_value between x y))

values : (expressions : List Expression) (variables : List ℤ) → Valued (values_of expressions variables)
values [] variables = tt
values (first ∷ rest) variables =
    then_value (value_of first variables) (λ v. with_value (values_of rest variables) (λ others. Ok (v ∷ others))) (value first variables) (λ v.
    then_value (values_of rest variables) (λ others. Ok (v ∷ others)) (values rest variables) (λ others. tt))

action : (statement : NumberedSimple) (variables : List ℤ) → Valued (action_of statement variables)
action statement variables = grind (arith, then_value, value, values)

-- ---- each way in which a block goes on

abbrev Within : Outcome → Type 0
Within (ends state) = length state.puts ≤ MOST_PUTS
Within (faults kind reads) = kind ≢ DoublePut
Within (asks address) = ⊤
Within strays = ⊤

abbrev StaysWithin : (State → Outcome) → Type 0
StaysWithin step = (state : State) → length state.puts ≤ MOST_PUTS → Within (step state)

either : (holds : Bool) (first second : Outcome) → Within first → Within second → Within (if holds then first else second)
either true first second one two = one
either false first second one two = two

where_it_holds : (holds : Bool) (first second : Outcome) → (holds ≡ true → Within first) → Within second → Within (if holds then first else second)
where_it_holds true first second one two = one refl
where_it_holds false first second one two = two

behind : (outcome : Outcome) (next : State → Outcome) → Within outcome → StaysWithin next → Within (followed outcome next)
behind (ends state) next within stays = stays state within
behind (faults kind left) next within stays = within
behind (asks address) next within stays = tt
behind strays next within stays = tt

counted : (next : State → Outcome) → StaysWithin next → StaysWithin (λ state. counting state next)
counted next stays state few =
    either (nat_lt state.counted BUDGET) (next (record state { counted = suc state.counted })) (faults Budget state.reads)
    (stays (record state { counted = suc state.counted }) few) (λ is. cc)

with_result : {X : Type 0} (result : Result X FaultKind) (state : State) (next : X → Outcome) → Valued result → ((v : X) → Within (next v)) → Within (given result state next)
with_result (Ok v) state next is within = within v
with_result (Err kind) state next is within = is

with_answer : (address : Addr) (reads : List Read) (next : ℤ → List Read → Outcome) → ((v : ℤ) (left : List Read) → Within (next v left)) → Within (answered address reads next)
with_answer address [] next within = tt
with_answer address (read ∷ reads) next within = either (is_same read.0 address) (next read.1 reads) strays (within read.1 reads) tt

one_more : (puts : List Put) (one : Put) → nat_lt (length puts) MOST_PUTS ≡ true → length (puts ++ one ∷ []) ≤ MOST_PUTS
one_more puts one room = omega (arith, length-append puts (one ∷ []), ltb-true (length puts) MOST_PUTS room)

put_one : (one : Put) (next : State → Outcome) → StaysWithin next → StaysWithin (λ state. putting one state next)
put_one one next stays state few =
    where_it_holds (nat_lt (length state.puts) MOST_PUTS) (next (record state { puts = state.puts ++ one ∷ [] })) (faults TooManyPuts state.reads)
    (λ room. stays (record state { puts = state.puts ++ one ∷ [] }) (one_more state.puts one room)) (λ is. cc)

all_turns : (block : State → Outcome) → StaysWithin block → (slot left : ℕ) (from : ℤ) → StaysWithin (turns block slot from left)
all_turns block stays slot zero from state few = few
all_turns block stays slot (suc left) from state few =
    counted (λ now. followed (block (assigned slot from now)) (turns block slot (from +ℤ pos 1) left))
    (λ now still. behind (block (assigned slot from now)) (turns block slot (from +ℤ pos 1) left) (stays (assigned slot from now) still) (all_turns block stays slot left (from +ℤ pos 1)))
    state few

acts : (one : Action) (next : State → Outcome) → StaysWithin next → StaysWithin (λ state. acting one state next)
acts (Assigns slot value) next stays state few = stays (assigned slot value state) few
acts (Gets slot address) next stays state few =
    with_answer address state.reads (λ value reads. next (assigned slot value (record state { reads = reads }))) (λ value reads. stays (assigned slot value (record state { reads = reads })) few)
acts (Puts one) next stays state few = put_one one next stays state few

-- ---- blocks and bodies

blocks : (block : Block) → StaysWithin (run block)
blocks End state few = few
blocks (Do statement rest) state few =
    counted (λ now. given (action_of statement now.variables) now (λ action. acting action now (run rest)))
    (λ now still. with_result (action_of statement now.variables) now (λ action. acting action now (run rest)) (action statement now.variables) (λ one. acts one (run rest) (blocks rest) now still))
    state few
blocks (If condition first second rest) state few =
    counted (λ now. given (value_of condition now.variables) now (λ v. followed (if int_eq v (pos 0) then run second now else run first now) (run rest)))
    (λ now still. with_result (value_of condition now.variables) now (λ v. followed (if int_eq v (pos 0) then run second now else run first now) (run rest)) (value condition now.variables) (λ v.
    behind (if int_eq v (pos 0) then run second now else run first now) (run rest) (either (int_eq v (pos 0)) (run second now) (run first now) (blocks second now still) (blocks first now still)) (blocks rest)))
    state few
blocks (For slot from to block rest) state few =
    counted (λ now. given (value_of from now.variables) now (λ a. given (value_of to now.variables) now (λ b. followed (turns (run block) slot a (int_gap a b) now) (run rest))))
    (λ now still. with_result (value_of from now.variables) now (λ a. given (value_of to now.variables) now (λ b. followed (turns (run block) slot a (int_gap a b) now) (run rest))) (value from now.variables) (λ a.
    with_result (value_of to now.variables) now (λ b. followed (turns (run block) slot a (int_gap a b) now) (run rest)) (value to now.variables) (λ b.
    behind (turns (run block) slot a (int_gap a b) now) (run rest) (all_turns (run block) (blocks block) slot (int_gap a b) a now still) (blocks rest))))
    state few

-- the same limits, for the ending of an outcome
abbrev EndsWithin : Ending → Type 0
EndsWithin (Gives puts) = length puts ≤ MOST_PUTS
EndsWithin (Faults kind) = kind ≢ DoublePut
EndsWithin (Asks address) = ⊤

used : (left : List Read) (end ending : Ending) → used_up left end ≡ Some ending → EndsWithin end → EndsWithin ending
used [] end ending is within =
    let same : end ≡ ending = cc in
    subst EndsWithin same within
used (read ∷ left) end ending is within = absurd (cc)

ended : (outcome : Outcome) (ending : Ending) → ending_of outcome ≡ Some ending → Within outcome → EndsWithin ending
ended (ends state) ending is within = used state.reads (Gives state.puts) ending is within
ended (faults kind left) ending is within = used left (Faults kind) ending is within
ended (asks address) ending is within =
    let same : Asks address ≡ ending = cc in
    subst EndsWithin same within
ended strays ending is within = absurd (cc)

none_yet : (key : List ℤ) (reads : List Read) → length (begun key reads).puts ≤ MOST_PUTS
none_yet key reads = omega arith

pub bodies : (body : Body) (key : List ℤ) (reads : List Read) (ending : Ending) → Along body key reads ending → EndsWithin ending
bodies body key reads ending along =
    ended (outcome_of body key reads) ending along (behind (run body.read (begun key reads)) (run body.write) (blocks body.read (begun key reads) (none_yet key reads)) (blocks body.write))
