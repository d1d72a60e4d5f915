-- A block that keeps to a sheet reads and puts only what the sheet allows.
use Rattle.std.proofs.Common.{◌≡◌, ℕ, zero, suc, ℤ, pos, ◌+ℤ◌, Bool, true, false, List, [], ◌∷◌, ◌++◌, length, nat_lt, if◌then◌else◌, Some, refl, sym, ap, subst, ◌∙◌, arith}
use Rattle.std.specs.Prelude.{⊤, Result, Ok, Err}
use Rattle.std.specs.List.{AllByRecursion}
use Rattle.std.specs.Int.{int_gap}
use Rattle.std.specs.Ordering.{int_eq}
use Rattle.terms.specs.declared.name.Addr.{Addr}
use Rattle.terms.specs.declared.put.Put.{Put}
use Rattle.terms.specs.declared.fault.FaultKind.{FaultKind}
use Rattle.terms.specs.declared.fault.FaultKind.TheVariants.{Budget, TooManyPuts}
use Rattle.terms.specs.Same.{is_same, same_address}
use Rattle.steptree.specs.Tree.{Expression, End, Do, If, For}
use Rattle.steptree.specs.Simple.{NumberedSimple, Block, action_of}
use Rattle.steptree.specs.declared.simple.Action.{Action}
use Rattle.steptree.specs.declared.simple.Action.TheVariants.{Assigns, Gets, Puts}
use Rattle.steptree.specs.declared.body.Body.{Body}
use Rattle.steptree.specs.declared.body.TheConstants.{BUDGET}
use Rattle.terms.specs.declared.put.TheConstants.{MOST_PUTS}
use Rattle.steptree.specs.Nameable.{Nameable}
use Rattle.steptree.specs.Values.{with_value, value_of, values_of}
use Rattle.steptree.specs.Run.{Read, State, Outcome, ends, faults, asks, strays, followed, counting, given, assigned, answered, putting, acting, turns, run}
use Rattle.steptree.specs.Bodies.{Ending, Gives, Faults, Asks, used_up, ending_of, begun, outcome_of, Along}
use Rattle.steptree.specs.Sheet.{AllowsAll, KeepsTo, BodyKeepsTo, ReadIsAllowed, PutIsAllowed, EndingIsAllowed}

-- ---- as many values as expressions

length_then : (values : Result (List ℤ) FaultKind) (value : ℤ) (key : List ℤ) (count : ℕ) → ((rest : List ℤ) → values ≡ Ok rest → length rest ≡ count)
    → with_value values (λ rest. Ok (value ∷ rest)) ≡ Ok key → length key ≡ suc count
length_then (Ok rest) value key count same is =
    let key_is : value ∷ rest ≡ key = cc in
    ap length (sym key_is) ∙ ap suc (same rest refl)
length_then (Err kind) value key count same is = absurd (cc)

length_from : (first : Result ℤ FaultKind) (values : Result (List ℤ) FaultKind) (key : List ℤ) (count : ℕ) → ((rest : List ℤ) → values ≡ Ok rest → length rest ≡ count)
    → with_value first (λ value. with_value values (λ rest. Ok (value ∷ rest))) ≡ Ok key → length key ≡ suc count
length_from (Ok value) values key count same is = length_then values value key count same is
length_from (Err kind) values key count same is = absurd (cc)

as_many : (expressions : List Expression) (variables key : List ℤ) → values_of expressions variables ≡ Ok key → length key ≡ length expressions
as_many [] variables key is =
    let key_is : [] ≡ key = cc in
    ap length (sym key_is)
as_many (first ∷ rest) variables key is =
    length_from (value_of first variables) (values_of rest variables) key (length rest) (as_many rest variables) is

-- ---- one sheet

module _ (sheet : Nameable) where
  abbrev Readable : List Read → Type 0
  Readable reads = AllByRecursion (λ read. ReadIsAllowed sheet read.0) reads

  abbrev Puttable : List Put → Type 0
  Puttable puts = AllByRecursion (PutIsAllowed sheet) puts

  -- from these reads on, the outcome reads, puts and asks for only what is allowed
  abbrev Kept : List Read → Outcome → Type 0
  Kept reads (ends state) = (Readable state.reads → Readable reads) × Puttable state.puts
  Kept reads (faults kind left) = Readable left → Readable reads
  Kept reads (asks address) = Readable reads × ReadIsAllowed sheet address
  Kept reads strays = ⊤

  abbrev Keeps : (State → Outcome) → Type 0
  Keeps step = (state : State) → Puttable state.puts → Kept state.reads (step state)

  -- ---- each way in which a block goes on

  either : (reads : List Read) (holds : Bool) (first second : Outcome) → Kept reads first → Kept reads second → Kept reads (if holds then first else second)
  either reads true first second one two = one
  either reads false first second one two = two

  earlier : (reads left : List Read) (outcome : Outcome) → (Readable left → Readable reads) → Kept left outcome → Kept reads outcome
  earlier reads left (ends state) before kept = (λ all. before (kept.0 all), kept.1)
  earlier reads left (faults kind rest) before kept = λ all. before (kept all)
  earlier reads left (asks address) before kept = (before kept.0, kept.1)
  earlier reads left strays before kept = kept

  behind : (reads : List Read) (outcome : Outcome) (next : State → Outcome) → Kept reads outcome → Keeps next → Kept reads (followed outcome next)
  behind reads (ends state) next kept keeps = earlier reads state.reads (next state) kept.0 (keeps state kept.1)
  behind reads (faults kind left) next kept keeps = kept
  behind reads (asks address) next kept keeps = kept
  behind reads strays next kept keeps = kept

  counted : (next : State → Outcome) → Keeps next → Keeps (λ state. counting state next)
  counted next keeps state puts =
      either state.reads (nat_lt state.counted BUDGET) (next (record state { counted = suc state.counted })) (faults Budget state.reads)
      (keeps (record state { counted = suc state.counted }) puts) (λ all. all)

  with_result : {X : Type 0} (result : Result X FaultKind) (state : State) (next : X → Outcome) → ((value : X) → result ≡ Ok value → Kept state.reads (next value))
      → Kept state.reads (given result state next)
  with_result (Ok value) state next kept = kept value refl
  with_result (Err kind) state next kept = λ all. all

  one_more : (puts : List Put) (one : Put) → Puttable puts → PutIsAllowed sheet one → Puttable (puts ++ one ∷ [])
  one_more [] one all this = (this, tt)
  one_more (first ∷ rest) one all this = (all.0, one_more rest one all.1 this)

  put_one : (one : Put) (next : State → Outcome) → PutIsAllowed sheet one → Keeps next → Keeps (λ state. putting one state next)
  put_one one next allowed keeps state puts =
      either state.reads (nat_lt (length state.puts) MOST_PUTS) (next (record state { puts = state.puts ++ one ∷ [] })) (faults TooManyPuts state.reads)
      (keeps (record state { puts = state.puts ++ one ∷ [] }) (one_more state.puts one puts allowed)) (λ all. all)

  where_same : (holds : Bool) (reads : List Read) (outcome : Outcome) → (holds ≡ true → Kept reads outcome) → Kept reads (if holds then outcome else strays)
  where_same true reads outcome kept = kept refl
  where_same false reads outcome kept = tt

  with_answer : (address : Addr) (reads : List Read) (next : ℤ → List Read → Outcome) → ReadIsAllowed sheet address → ((value : ℤ) (left : List Read) → Kept left (next value left))
      → Kept reads (answered address reads next)
  with_answer address [] next allowed kept = (tt, allowed)
  with_answer address (read ∷ reads) next allowed kept =
      where_same (is_same read.0 address) (read ∷ reads) (next read.1 reads) (λ same.
      let this = subst (λ (a : Addr). ReadIsAllowed sheet a) (sym (same_address read.0 address same)) allowed in
      earlier (read ∷ reads) reads (next read.1 reads) (λ all. (this, all)) (kept read.1 reads))

  all_turns : (block : State → Outcome) → Keeps block → (slot left : ℕ) (value : ℤ) → Keeps (turns block slot value left)
  all_turns block keeps slot zero value state puts = (λ all. all, puts)
  all_turns block keeps slot (suc left) value state puts =
      counted (λ now. followed (block (assigned slot value now)) (turns block slot (value +ℤ pos 1) left))
      (λ now still. behind now.reads (block (assigned slot value now)) (turns block slot (value +ℤ pos 1) left) (keeps (assigned slot value now) still) (all_turns block keeps slot left (value +ℤ pos 1)))
      state puts

  -- ---- simple statements

  abbrev ActionIsAllowed : Action → Type 0
  ActionIsAllowed (Assigns slot value) = ⊤
  ActionIsAllowed (Gets slot address) = ReadIsAllowed sheet address
  ActionIsAllowed (Puts one) = PutIsAllowed sheet one

  acts : (action : Action) (next : State → Outcome) → ActionIsAllowed action → Keeps next → Keeps (λ state. acting action state next)
  acts (Assigns slot value) next allowed keeps state puts = keeps (assigned slot value state) puts
  acts (Gets slot address) next allowed keeps state puts =
      with_answer address state.reads (λ value reads. next (assigned slot value (record state { reads = reads }))) allowed (λ value reads. keeps (assigned slot value (record state { reads = reads })) puts)
  acts (Puts one) next allowed keeps state puts = put_one one next allowed keeps state puts

  -- a statement that keeps to the sheet does only what is allowed
  allowed : (statement : NumberedSimple) (variables : List ℤ) (action : Action) → AllowsAll sheet statement → action_of statement variables ≡ Ok action → ActionIsAllowed action
  allowed statement variables action is does = grind (arith, as_many)

  -- ---- blocks and bodies

  blocks : (block : Block) → KeepsTo sheet block → Keeps (run block)
  blocks End is state puts = (λ all. all, puts)
  blocks (Do statement rest) is state puts =
      counted (λ now. given (action_of statement now.variables) now (λ action. acting action now (run rest)))
      (λ now still. with_result (action_of statement now.variables) now (λ action. acting action now (run rest)) (λ action does.
      acts action (run rest) (allowed statement now.variables action is.0 does) (blocks rest is.1) now still))
      state puts
  blocks (If condition first second rest) is state puts =
      counted (λ now. given (value_of condition now.variables) now (λ v. followed (if int_eq v (pos 0) then run second now else run first now) (run rest)))
      (λ now still. with_result (value_of condition now.variables) now (λ v. followed (if int_eq v (pos 0) then run second now else run first now) (run rest)) (λ v same.
      behind now.reads (if int_eq v (pos 0) then run second now else run first now) (run rest)
      (either now.reads (int_eq v (pos 0)) (run second now) (run first now) (blocks second is.1 now still) (blocks first is.0 now still)) (blocks rest is.2)))
      state puts
  blocks (For slot from to block rest) is state puts =
      counted (λ now. given (value_of from now.variables) now (λ a. given (value_of to now.variables) now (λ b. followed (turns (run block) slot a (int_gap a b) now) (run rest))))
      (λ now still. with_result (value_of from now.variables) now (λ a. given (value_of to now.variables) now (λ b. followed (turns (run block) slot a (int_gap a b) now) (run rest))) (λ a here.
      with_result (value_of to now.variables) now (λ b. followed (turns (run block) slot a (int_gap a b) now) (run rest)) (λ b there.
      behind now.reads (turns (run block) slot a (int_gap a b) now) (run rest) (all_turns (run block) (blocks block is.0) slot (int_gap a b) a now still) (blocks rest is.1))))
      state puts

  -- an ending has used all of its reads
  all_used : (left : List Read) (end ending : Ending) → used_up left end ≡ Some ending → Readable left × (end ≡ ending)
  all_used [] end ending is = (tt, cc)
  all_used (read ∷ left) end ending is = absurd (cc)

  ended : (reads : List Read) (outcome : Outcome) (ending : Ending) → Kept reads outcome → ending_of outcome ≡ Some ending → Readable reads × EndingIsAllowed sheet ending
  ended reads (ends state) ending kept is =
      let used = all_used state.reads (Gives state.puts) ending is in
      (kept.0 used.0, subst (EndingIsAllowed sheet) used.1 kept.1)
  ended reads (faults kind left) ending kept is =
      let used = all_used left (Faults kind) ending is in
      (kept used.0, subst (EndingIsAllowed sheet) used.1 tt)
  ended reads (asks address) ending kept is =
      let same : Asks address ≡ ending = cc in
      (kept.0, subst (EndingIsAllowed sheet) same kept.1)
  ended reads strays ending kept is = absurd (cc)

  pub bodies : (body : Body) (key : List ℤ) (reads : List Read) (ending : Ending) → BodyKeepsTo sheet body → Along body key reads ending → Readable reads × EndingIsAllowed sheet ending
  bodies body key reads ending is along =
      ended reads (outcome_of body key reads) ending
      (behind reads (run body.read (begun key reads)) (run body.write) (blocks body.read is.0 (begun key reads) tt) (blocks body.write is.1)) along
