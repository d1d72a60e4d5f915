-- Each block, from a state, is a tree of what it asks for.
use Rattle.std.proofs.Common.{◌≡◌, ℕ, zero, suc, ℤ, pos, ◌+ℤ◌, Bool, true, false, List, [], ◌∷◌, ◌++◌, length, nat_lt, if◌then◌else◌, refl, ap, ◌∙◌}
use Rattle.std.specs.Prelude.{Result, Ok, Err}
use Rattle.std.specs.Int.{int_gap}
use Rattle.std.specs.Ordering.{int_eq}
use Rattle.terms.specs.declared.name.Addr.{Addr}
use Rattle.terms.specs.declared.put.Put.{Put}
use Rattle.terms.specs.declared.fault.FaultKind.{FaultKind}
use Rattle.terms.specs.declared.fault.FaultKind.TheVariants.{Budget, TooManyPuts}
use Rattle.steptree.specs.Tree.{End, Do, If, For}
use Rattle.steptree.specs.Simple.{Block, action_of}
use Rattle.steptree.specs.declared.simple.Action.{Action}
use Rattle.steptree.specs.declared.simple.Action.TheVariants.{Assigns, Gets, Puts}
use Rattle.steptree.specs.declared.body.Body.{Body}
use Rattle.steptree.specs.declared.body.TheConstants.{BUDGET}
use Rattle.terms.specs.declared.put.TheConstants.{MOST_PUTS}
use Rattle.terms.specs.Same.{is_same}
use Rattle.steptree.specs.Values.{value_of}
use Rattle.steptree.specs.Run.{Read, State, Outcome, ends, faults, strays, followed, given, assigned, answered, putting, acting, turns, run}
use Rattle.steptree.specs.Bodies.{begun, outcome_of}

-- it ends, is at fault, or asks for an item and goes on with its value
pub data Tree : Type 0 where
  Ends : State → Tree
  Fails : FaultKind → Tree
  Needs : Addr → (ℤ → Tree) → Tree

abbrev pub with_reads : State → List Read → State
with_reads state reads = record state { reads = reads }

-- where a tree leads along a list of reads
abbrev pub led : Tree → List Read → Outcome
led (Ends state) reads = ends (with_reads state reads)
led (Fails kind) reads = faults kind reads
led (Needs address next) reads = answered address reads (λ value rest. led (next value) rest)

-- along each list of reads it has the outcome to which some tree leads
abbrev pub IsTree : (List Read → Outcome) → Type 0
IsTree outcome = (tree : Tree) × ((reads : List Read) → outcome reads ≡ led tree reads)

-- and this holds from each state
abbrev pub AreTrees : (State → Outcome) → Type 0
AreTrees step = (state : State) → IsTree (λ reads. step (with_reads state reads))

-- ---- each way in which a block goes on

ended : AreTrees ends
ended state = (Ends state, λ reads. refl)

failed : (kind : FaultKind) → IsTree (faults kind)
failed kind = (Fails kind, λ reads. refl)

either : (holds : Bool) {first second : List Read → Outcome} → IsTree first → IsTree second → IsTree (λ reads. if holds then first reads else second reads)
either true first second = first
either false first second = second

counted : (state : State) {next : State → List Read → Outcome} → ((now : State) → IsTree (next now))
    → IsTree (λ reads. if nat_lt state.counted BUDGET then next (record state { counted = suc state.counted }) reads else faults Budget reads)
counted state next = either (nat_lt state.counted BUDGET) (next (record state { counted = suc state.counted })) (failed Budget)

put_one : (one : Put) (next : State → Outcome) → AreTrees next → AreTrees (λ state. putting one state next)
put_one one next trees state = either (nat_lt (length state.puts) MOST_PUTS) (trees (record state { puts = state.puts ++ one ∷ [] })) (failed TooManyPuts)

with_result : {X : Type 0} (result : Result X FaultKind) (state : State) {next : X → List Read → Outcome} → ((value : X) → IsTree (next value))
    → IsTree (λ reads. given result (with_reads state reads) (λ value. next value reads))
with_result (Ok value) state next = next value
with_result (Err kind) state next = failed kind

with_answer : (address : Addr) {next : ℤ → List Read → Outcome} → ((value : ℤ) → IsTree (next value)) → IsTree (λ reads. answered address reads next)
with_answer address next = (Needs address (λ value. (next value).0), λ reads i. answered address reads (λ value rest. (next value).1 rest i))

-- ---- one block after another

-- a tree, with others in place of its ends
abbrev grown : Tree → (State → Tree) → Tree
grown (Ends state) next = next state
grown (Fails kind) next = Fails kind
grown (Needs address more) next = Needs address (λ value. grown (more value) next)

followed_if : (holds : Bool) (outcome : Outcome) (next : State → Outcome) → followed (if holds then outcome else strays) next ≡ (if holds then followed outcome next else strays)
followed_if true outcome next = refl
followed_if false outcome next = refl

followed_answer : (address : Addr) (reads : List Read) (more : ℤ → List Read → Outcome) (next : State → Outcome)
    → followed (answered address reads more) next ≡ answered address reads (λ value rest. followed (more value rest) next)
followed_answer address [] more next = refl
followed_answer address (read ∷ reads) more next = followed_if (is_same read.0 address) (more read.1 reads) next

led_on : (tree : Tree) (next : State → Outcome) (trees : AreTrees next) (reads : List Read) → followed (led tree reads) next ≡ led (grown tree (λ state. (trees state).0)) reads
led_on (Ends state) next trees reads = (trees state).1 reads
led_on (Fails kind) next trees reads = refl
led_on (Needs address more) next trees reads =
    followed_answer address reads (λ value rest. led (more value) rest) next ∙ (λ i. answered address reads (λ value rest. led_on (more value) next trees rest i))

behind : {first : List Read → Outcome} (next : State → Outcome) → IsTree first → AreTrees next → IsTree (λ reads. followed (first reads) next)
behind next first trees =
    (grown first.0 (λ state. (trees state).0), λ reads. ap (λ (o : Outcome). followed o next) (first.1 reads) ∙ led_on first.0 next trees reads)

-- what a simple statement does, and what comes after it
acts : (action : Action) (next : State → Outcome) → AreTrees next → AreTrees (λ state. acting action state next)
acts (Assigns slot value) next trees state = trees (assigned slot value state)
acts (Gets slot address) next trees state = with_answer address (λ value. trees (assigned slot value state))
acts (Puts one) next trees state = put_one one next trees state

-- ---- blocks and bodies

all_turns : (block : State → Outcome) → AreTrees block → (slot left : ℕ) (value : ℤ) → AreTrees (turns block slot value left)
all_turns block trees slot zero value state = ended state
all_turns block trees slot (suc left) value state =
    counted state (λ now. behind (turns block slot (value +ℤ pos 1) left) (trees (assigned slot value now)) (all_turns block trees slot left (value +ℤ pos 1)))

pub blocks : (block : Block) → AreTrees (run block)
blocks End state = ended state
blocks (Do statement rest) state =
    counted state (λ now. with_result (action_of statement now.variables) now (λ action. acts action (run rest) (blocks rest) now))
blocks (If condition first second rest) state =
    counted state (λ now. with_result (value_of condition now.variables) now (λ v. behind (run rest) (either (int_eq v (pos 0)) (blocks second now) (blocks first now)) (blocks rest)))
blocks (For slot from to block rest) state =
    counted state (λ now. with_result (value_of from now.variables) now (λ a. with_result (value_of to now.variables) now (λ b. behind (run rest) (all_turns (run block) (blocks block) slot (int_gap a b) a now) (blocks rest))))

pub bodies : (body : Body) (key : List ℤ) → IsTree (outcome_of body key)
bodies body key = behind (run body.write) (blocks body.read (begun key [])) (blocks body.write)
