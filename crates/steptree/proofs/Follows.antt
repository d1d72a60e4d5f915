-- Code does what its block does.
use Rattle.std.proofs.Common.{◌≡◌, ℕ, zero, suc, ◌+◌, ◌≤◌, ℤ, pos, ◌+ℤ◌, int_lt, nat_lt, List, [], ◌∷◌, length, Bool, true, false, if◌then◌else◌, refl, sym, ap, subst, ◌∙◌, arith, rules}
use Rattle.std.specs.Prelude.{Option, Some, Result, Ok, Err}
use Rattle.std.specs.Int.{int_gap}
use Rattle.std.proofs.lemmas.Bool.Decides.{nat_tests}
use Rattle.std.specs.Ordering.{int_eq}
use Rattle.terms.specs.declared.name.Addr.{Addr}
use Rattle.terms.specs.declared.put.Put.{Put}
use Rattle.terms.specs.declared.put.TheConstants.{MOST_PUTS}
use Rattle.terms.specs.declared.fault.FaultKind.{FaultKind}
use Rattle.terms.specs.declared.fault.FaultKind.TheVariants.{Budget, TooManyPuts}
use Rattle.terms.specs.Same.{is_same}
use Rattle.steptree.specs.Tree.{End, Do, If, For}
use Rattle.steptree.specs.Simple.{NumberedSimple, Block, action_of}
use Rattle.steptree.specs.declared.simple.Action.{Action}
use Rattle.steptree.specs.declared.simple.Action.TheVariants.{Assigns, Gets, Puts}
use Rattle.steptree.specs.declared.body.TheConstants.{BUDGET}
use Rattle.steptree.specs.declared.code.Instruction.{Instruction}
use Rattle.steptree.specs.declared.code.Instruction.TheVariants as instruction
use Rattle.steptree.specs.declared.code.Loop.{Loop}
use Rattle.steptree.specs.Run.{Read, State, Outcome, ends, faults, asks, strays, followed, counting, given, assigned, answered, putting, acting, doing, turns, run}
use Rattle.steptree.specs.Values.{value_of}
use Rattle.steptree.specs.Executed.{Onward, advanced, performed, turned, stepped, executed}
use Rattle.steptree.specs.Compiled.{Stands, IsCode, simple_of}

-- what is still to be done: a block, or the turns of a loop that are left, from a number up to but not including another
pub data Rest : Type 0 where
  Block' : Block → Rest
  Turns : ℕ → ℤ → ℤ → Block → Rest

-- one after another, the first of the list first
abbrev pub unwound : List Rest → Outcome → Outcome
unwound [] outcome = outcome
unwound (Block' block ∷ more) outcome = unwound more (followed outcome (run block))
unwound (Turns variable next to block ∷ more) outcome = unwound more (followed outcome (turns (run block) variable next (int_gap next to)))

-- the instructions from a place on are the code of all that is still to be done, if these loops are open
abbrev pub IsAhead : List Instruction → List Loop → ℕ → List Rest → Type 0
IsAhead code loops at [] = Stands code at instruction.End
IsAhead code loops at (Block' block ∷ more) = (stop : ℕ) × IsCode code at block stop × IsAhead code loops stop more
IsAhead code loops at (Turns variable next to block ∷ more) = (begin : ℕ) × (after : ℕ) × (others : List Loop)
    × (loops ≡ record { variable = variable; next = next; to = to; begin = begin; after = after } ∷ others)
    × Stands code at instruction.Turn × IsCode code begin block at × IsAhead code others after more

unwound_faults : (more : List Rest) (kind : FaultKind) (reads : List Read) → unwound more (faults kind reads) ≡ faults kind reads
unwound_faults [] kind reads = refl
unwound_faults (Block' block ∷ more) kind reads = unwound_faults more kind reads
unwound_faults (Turns variable next to block ∷ more) kind reads = unwound_faults more kind reads

unwound_asks : (more : List Rest) (address : Addr) → unwound more (asks address) ≡ asks address
unwound_asks [] address = refl
unwound_asks (Block' block ∷ more) address = unwound_asks more address
unwound_asks (Turns variable next to block ∷ more) address = unwound_asks more address

unwound_strays : (more : List Rest) → unwound more strays ≡ strays
unwound_strays [] = refl
unwound_strays (Block' block ∷ more) = unwound_strays more
unwound_strays (Turns variable next to block ∷ more) = unwound_strays more

module _ (more : List Rest) where
  chosen : (test : Bool) (a b c d : Outcome) → (test ≡ true → a ≡ unwound more c) → b ≡ unwound more d → (if test then a else b) ≡ unwound more (if test then c else d)
  chosen true a b c d same other = same refl
  chosen false a b c d same other = other

  gives : {X : Type 0} (result : Result X FaultKind) (state : State) (f g : X → Outcome) → ((x : X) → f x ≡ unwound more (g x)) → given result state f ≡ unwound more (given result state g)
  gives (Ok x) state f g same = same x
  gives (Err kind) state f g same = sym (unwound_faults more kind state.reads)

  counts : (state : State) (f g : State → Outcome) → ((now : State) → nat_lt state.counted BUDGET ≡ true → now.counted ≡ suc state.counted → f now ≡ unwound more (g now))
      → counting state f ≡ unwound more (counting state g)
  counts state f g same =
      chosen (nat_lt state.counted BUDGET) _ _ _ _ (λ below. same (record state { counted = suc state.counted }) below refl) (sym (unwound_faults more Budget state.reads))

  answers : (address : Addr) (reads : List Read) (f g : ℤ → List Read → Outcome) → ((v : ℤ) (left : List Read) → f v left ≡ unwound more (g v left))
      → answered address reads f ≡ unwound more (answered address reads g)
  answers address [] f g same = sym (unwound_asks more address)
  answers address (read ∷ reads) f g same =
      chosen (is_same read.0 address) _ _ _ _ (λ is. same read.1 reads) (sym (unwound_strays more))

  puts : (one : Put) (state : State) (f g : State → Outcome) → ((now : State) → now.counted ≡ state.counted → f now ≡ unwound more (g now)) → putting one state f ≡ unwound more (putting one state g)
  puts one state f g same =
      chosen (nat_lt (length state.puts) MOST_PUTS) _ _ _ _ (λ below. same _ refl) (sym (unwound_faults more TooManyPuts state.reads))

  acts : (action : Action) (state : State) (f g : State → Outcome) → ((now : State) → now.counted ≡ state.counted → f now ≡ unwound more (g now)) → acting action state f ≡ unwound more (acting action state g)
  acts (Assigns slot value) state f g same = same _ refl
  acts (Gets slot address) state f g same = answers address state.reads _ _ (λ value reads. same _ refl)
  acts (Puts one) state f g same = puts one state f g same

  simply : (statement : NumberedSimple) (state : State) (f g : State → Outcome) → ((now : State) → now.counted ≡ state.counted → f now ≡ unwound more (g now)) → doing statement state f ≡ unwound more (doing statement state g)
  simply statement state f g same = gives (action_of statement state.variables) state _ _ (λ action. acts action state f g same)

-- an instruction that does a simple statement
does_it : (onward : Onward) (loops : List Loop) (one : Instruction) (statement : NumberedSimple) (next : ℕ) (state : State) (out : Outcome) → simple_of one ≡ Some (statement, next)
    → performed onward loops (Some one) state out ≡ counting state (λ now. doing statement now (onward loops next))
does_it onward loops one statement next state out is = grind arith

under : (a b : ℕ) → nat_lt a b ≡ true → suc a ≤ b
under a b is = grind (arith, nat_tests)

one_left : (next to : ℤ) → int_lt next to ≡ true → int_gap next to ≡ suc (int_gap (next +ℤ pos 1) to)
one_left next to below = search rules

none_left : (next to : ℤ) → int_lt next to ≡ false → int_gap next to ≡ 0
none_left next to over = search rules

module _ (code : List Instruction) (left : ℕ) (onward : Onward)
    (later : (more : List Rest) (loops : List Loop) (at : ℕ) (now : State) → IsAhead code loops at more → now.counted + left ≡ suc BUDGET → now.counted ≤ BUDGET
    → onward loops at now ≡ unwound more (ends now)) where
  -- after a statement or a turn was counted
  goes_on : (more : List Rest) (loops : List Loop) (at : ℕ) (now : State) → IsAhead code loops at more → (state : State) → state.counted + left ≡ BUDGET
      → nat_lt state.counted BUDGET ≡ true → now.counted ≡ suc state.counted → onward loops at now ≡ unwound more (ends now)
  goes_on more loops at now ahead state sum below one = later more loops at now ahead (omega arith) (omega (arith, under state.counted BUDGET below))

  -- an instruction that does not leave the innermost loop
  stands_for : (loops : List Loop) (one : Instruction) (at : ℕ) (state : State) (outcome : Outcome) → Stands code at one
      → ((out : Outcome) → performed onward loops (Some one) state out ≡ outcome) → stepped onward code loops at state ≡ outcome
  stands_for [] one at state outcome stands same = ap (λ (o : Option Instruction). performed onward [] o state (ends state)) stands ∙ same (ends state)
  stands_for (innermost ∷ others) one at state outcome stands same =
      ap (λ (o : Option Instruction). performed onward (innermost ∷ others) o state (stepped onward code others innermost.after state)) stands
      ∙ same (stepped onward code others innermost.after state)

  module _ (more : List Rest) (variable : ℕ) (next to : ℤ) (block : Block) (at begin after : ℕ) (others : List Loop) (state : State) where
    abbrev this : Loop
    this = record { variable = variable; next = next; to = to; begin = begin; after = after }

    a_turn : (test : Bool) → int_lt next to ≡ test → Stands code at instruction.Turn → IsCode code begin block at → IsAhead code others after more → state.counted + left ≡ BUDGET
        → stepped onward code others after state ≡ unwound more (ends state)
        → turned onward (this ∷ others) state (stepped onward code others after state) ≡ unwound more (turns (run block) variable next (int_gap next to) state)
    a_turn true is stands is_code ahead sum over =
        ap (λ (b : Bool). if b then counting state (λ now. onward (advanced this ∷ others) begin (assigned variable next now)) else stepped onward code others after state) is
        ∙ counts more state _ _ (λ now below one. goes_on (Block' block ∷ Turns variable (next +ℤ pos 1) to block ∷ more) (advanced this ∷ others) begin (assigned variable next now)
        (at, is_code, (begin, after, others, refl, stands, is_code, ahead)) state sum below one)
        ∙ sym (ap (λ (n : ℕ). unwound more (turns (run block) variable next n state)) (one_left next to is))
    a_turn false is stands is_code ahead sum over =
        ap (λ (b : Bool). if b then counting state (λ now. onward (advanced this ∷ others) begin (assigned variable next now)) else stepped onward code others after state) is
        ∙ over
        ∙ sym (ap (λ (n : ℕ). unwound more (turns (run block) variable next n state)) (none_left next to is))

  follows : (more : List Rest) (loops : List Loop) (at : ℕ) (state : State) → IsAhead code loops at more → state.counted + left ≡ BUDGET
      → stepped onward code loops at state ≡ unwound more (ends state)
  follows [] loops at state ahead sum = stands_for loops instruction.End at state (ends state) ahead (λ out. refl)
  follows (Block' End ∷ more) loops at state ahead sum = follows more loops at state (subst (λ (n : ℕ). IsAhead code loops n more) (sym ahead.1) ahead.2) sum
  follows (Block' (Do statement rest) ∷ more) loops at state ahead sum =
      let is = ahead.1 in
      stands_for loops is.0 at state _ is.2 (λ out. does_it onward loops is.0 statement is.1 state out is.3)
      ∙ counts more state _ _ (λ now below one. simply more statement now _ _ (λ after same.
      goes_on (Block' rest ∷ more) loops is.1 after (ahead.0, is.4, ahead.2) state sum below (same ∙ one)))
  follows (Block' (If condition first second rest) ∷ more) loops at state ahead sum =
      let is = ahead.1 in
      stands_for loops (instruction.Branch is.0 is.1 is.2) at state _ is.4 (λ out. refl)
      ∙ counts more state _ _ (λ now below one.
      ap (λ e. given (value_of e now.variables) now (λ v. onward loops (if int_eq v (pos 0) then is.2 else is.1) now)) is.5
      ∙ gives more (value_of condition now.variables) now _ _ (λ v.
      elim (int_eq v (pos 0)) as (λ (test : Bool). onward loops (if test then is.2 else is.1) now ≡ unwound more (followed (if test then run second now else run first now) (run rest))) [
        | true ↦ goes_on (Block' second ∷ Block' rest ∷ more) loops is.2 now (is.3, is.7, (ahead.0, is.8, ahead.2)) state sum below one
        | false ↦ goes_on (Block' first ∷ Block' rest ∷ more) loops is.1 now (is.3, is.6, (ahead.0, is.8, ahead.2)) state sum below one
      ]))
  follows (Block' (For variable from to block rest) ∷ more) loops at state ahead sum =
      let is = ahead.1 in
      stands_for loops (instruction.For variable from to is.0 is.1 is.2) at state _ is.3 (λ out. refl)
      ∙ counts more state _ _ (λ now below one. gives more (value_of from now.variables) now _ _ (λ a. gives more (value_of to now.variables) now _ _ (λ b.
      goes_on (Turns variable a b block ∷ Block' rest ∷ more) (record { variable = variable; next = a; to = b; begin = is.1; after = is.2 } ∷ loops) is.0 now
      (is.1, is.2, loops, refl, is.4, is.5, (ahead.0, is.6, ahead.2)) state sum below one)))
  follows (Turns variable next to block ∷ more) loops at state ahead sum =
      subst (λ (l : List Loop). stepped onward code l at state ≡ unwound more (turns (run block) variable next (int_gap next to) state)) (sym ahead.3)
      (ap (λ (o : Option Instruction). performed onward (record { variable = variable; next = next; to = to; begin = ahead.0; after = ahead.1 } ∷ ahead.2) o state (stepped onward code ahead.2 ahead.1 state)) ahead.4
      ∙ a_turn more variable next to block at ahead.0 ahead.1 ahead.2 state (int_lt next to) refl ahead.4 ahead.5 ahead.6 sum (follows more ahead.2 ahead.1 state ahead.6 sum))

-- the code of all that is still to be done does it
pub executes : (code : List Instruction) (left : ℕ) (more : List Rest) (loops : List Loop) (at : ℕ) (state : State) → IsAhead code loops at more → state.counted + left ≡ BUDGET
    → executed left code loops at state ≡ unwound more (ends state)
unfolding executed
executes code zero = follows code zero (λ loops at now. strays) (λ more loops at now ahead sum few. absurd (omega arith))
executes code (suc left) = follows code (suc left) (executed left code) (λ more loops at now ahead sum few. executes code left more loops at now ahead (omega arith))
