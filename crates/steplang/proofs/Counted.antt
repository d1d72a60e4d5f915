-- An instruction that was counted, or not.
use Rattle.std.proofs.Common.{◌≡◌, ◌-◌, ℕ, zero, suc, Bool, true, false, nat_lt, List, [], ◌∷◌, if◌then◌else◌, refl, ap, ◌∙◌, sym, arith}
use Rattle.std.specs.Prelude.{Option, Some, slice_get}
use Rattle.std.proofs.lemmas.Bool.Decides.{nat_tests}
use Rattle.terms.specs.declared.fault.FaultKind.TheVariants.{Budget}
use Rattle.steptree.specs.declared.body.TheConstants.{BUDGET}
use Rattle.steptree.specs.declared.code.Instruction.{Instruction}
use Rattle.steptree.specs.declared.code.Loop.{Loop}
use Rattle.steptree.specs.Run.{Read, State, Outcome, ends, faults, strays, counting}
use Rattle.steptree.specs.Executed.{Onward, carried_out, performed, stepped, executed}
use Rattle.steptree.specs.Compiled.{Stands}
use Rattle.steplang.specs.declared.machine.Progress.{Progress}
use Rattle.steplang.specs.declared.machine.Machine.{Machine}
use Rattle.steplang.specs.Machine.{state_of, open_loops, outcome_from, outcome_after}

-- what comes of a place after the next instruction that is counted
unfoldable pub onward_of : ℕ → List Instruction → Onward
onward_of zero code = λ loops at now. strays
onward_of (suc left) code = executed left code

module _ (code : List Instruction) where
  pub begins : (left : ℕ) (loops : List Loop) (at : ℕ) (state : State) → executed left code loops at state ≡ stepped (onward_of left code) code loops at state
  unfolding executed onward_of
  begins zero loops at state = refl
  begins (suc left) loops at state = refl

  pub stands_for : (onward : Onward) (loops : List Loop) (there : Option Instruction) (at : ℕ) (state : State) (outcome : Outcome) → slice_get code at ≡ there
      → ((out : Outcome) → performed onward loops there state out ≡ outcome) → stepped onward code loops at state ≡ outcome
  stands_for onward [] there at state outcome stands same = ap (λ (o : Option Instruction). performed onward [] o state (ends state)) stands ∙ same (ends state)
  stands_for onward (innermost ∷ others) there at state outcome stands same =
      ap (λ (o : Option Instruction). performed onward (innermost ∷ others) o state (stepped onward code others innermost.after state)) stands
      ∙ same (stepped onward code others innermost.after state)

  -- the end of the code, or a place past it
  pub ended : (there : Option Instruction) (left : ℕ) (loops : List Loop) (at : ℕ) (state : State) → slice_get code at ≡ there
      → ((onward : Onward) (out : Outcome) → performed onward loops there state out ≡ ends state) → executed left code loops at state ≡ ends state
  ended there left loops at state stands same = begins left loops at state ∙ stands_for (onward_of left code) loops there at state (ends state) stands (same (onward_of left code))

  pub within : (counted : ℕ) → nat_lt counted BUDGET ≡ true → BUDGET - counted ≡ suc (BUDGET - suc counted)
  within counted below = grind (arith, nat_tests)

  counted_on : (left : ℕ) (loops : List Loop) (at : ℕ) (state : State) (one : Instruction) → Stands code at one
      → ((onward : Onward) (out : Outcome) → performed onward loops (Some one) state out ≡ counting state (carried_out onward loops one))
      → executed left code loops at state ≡ counting state (carried_out (onward_of left code) loops one)
  counted_on left loops at state one stands same = begins left loops at state ∙ stands_for (onward_of left code) loops (Some one) at state _ stands (same (onward_of left code))

abbrev one_more : Progress → Bool → Progress
one_more before below = record before { counted = if below then suc before.counted else before.counted }

module _ (old : Machine) (before after : Progress) (below : Bool) (counted : below ≡ nat_lt before.counted BUDGET) (one : Instruction) (stands : Stands old.code.now before.at one)
    (same : (state : State) (onward : Onward) (out : Outcome) → performed onward (open_loops old) (Some one) state out ≡ counting state (carried_out onward (open_loops old) one)) where
  -- the outcome is what the instruction leads to after it was counted
  pub made : below ≡ true → after ≡ record before { counted = if below then suc before.counted else before.counted }
      → (reads : List Read) → outcome_from old before reads ≡ outcome_after one old after reads
  unfolding onward_of
  made is_below is_after reads =
      let loops = open_loops old in
      let state = state_of old before reads in
      let now = state_of old (one_more before true) reads in
      ap (λ (n : ℕ). executed n old.code.now loops before.at state) (within old.code.now before.counted (sym counted ∙ is_below))
      ∙ counted_on old.code.now (suc (BUDGET - suc before.counted)) loops before.at state one stands (same state)
      ∙ ap (λ (b : Bool). if b then carried_out (executed (BUDGET - suc before.counted) old.code.now) loops one now else faults Budget reads) (sym counted ∙ is_below)
      ∙ ap (λ (b : Bool). outcome_after one old (one_more before b) reads) (sym is_below)
      ∙ ap (λ (p : Progress). outcome_after one old p reads) (sym is_after)

  -- with no budget left it ends in a fault
  pub overspent : below ≡ false → (reads : List Read) → outcome_from old before reads ≡ faults Budget reads
  overspent is_over reads =
      let loops = open_loops old in
      let state = state_of old before reads in
      counted_on old.code.now (BUDGET - before.counted) loops before.at state one stands (same state)
      ∙ ap (λ (b : Bool). if b then carried_out (onward_of (BUDGET - before.counted) old.code.now) loops one (state_of old (one_more before true) reads) else faults Budget reads) (sym counted ∙ is_over)
