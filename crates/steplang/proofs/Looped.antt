-- The innermost loop, when a turn of it is to begin.
use Rattle.std.proofs.Common.{◌≡◌, ◌-◌, ◌<◌, ℕ, suc, int_lt, List, [], ◌∷◌, ◌++◌, length, reverse, slice_set, Bool, true, false, nat_lt, if◌then◌else◌, refl, rules, sym, ap, ◌∙◌}
use Rattle.std.specs.Prelude.{Vec, Option, None, Some, IsSome, option_to_list}
use Rattle.std.specs.declared.alloc.Global.{Global}
use Rattle.std.proofs.lemmas.List.{reverse-append}
use Rattle.terms.specs.declared.fault.FaultKind.TheVariants.{Budget}
use Rattle.steptree.specs.declared.body.TheConstants.{BUDGET}
use Rattle.steptree.specs.declared.code.Instruction.TheVariants as instruction
use Rattle.steptree.specs.declared.code.Loop.{Loop}
use Rattle.steptree.specs.Run.{Read, ends, faults, counting, assigned}
use Rattle.steptree.specs.Executed.{advanced, stepped, executed}
use Rattle.steptree.specs.Compiled.{Stands}
use Rattle.steplang.specs.declared.machine.Progress.{Progress}
use Rattle.steplang.specs.declared.machine.Machine.{Machine}
use Rattle.steplang.specs.Machine.{state_of, loops_of, open_loops, outcome_from}
use Rattle.steplang.proofs.Counted.{onward_of, begins, within}

-- when the innermost loop is left, the last of those around it is the innermost one
pub left_one : (old new : List Loop) (inner : Option Loop) → old ≡ new ++ option_to_list inner → (0 < length old → IsSome inner) → loops_of inner new ≡ reverse old
left_one [] new None items some = refl
left_one (first ∷ others) new None items some = search rules
left_one old new (Some outer) items some = sym (ap reverse items ∙ reverse-append new (outer ∷ []))

-- the machine, when a turn of its innermost loop has begun
abbrev begun_turn : Machine → Loop → Machine
begun_turn old innermost = record old { inner = Some (advanced innermost); variables = slice_set old.variables innermost.variable innermost.next }

module _ (old : Machine) (before : Progress) (stands : Stands old.code.now before.at instruction.Turn) (reads : List Read) where
  -- no loop is open
  pub none_open : old.inner ≡ None → outcome_from old before reads ≡ ends (state_of old before reads)
  none_open none = begins old.code.now (BUDGET - before.counted) (open_loops old) before.at (state_of old before reads) ∙ rw (none, stands) refl

  module _ (innermost : Loop) (is_open : old.inner ≡ Some innermost) where
    turns_on : (left : ℕ) (some : Bool) → int_lt innermost.next innermost.to ≡ some → executed left old.code.now (open_loops old) before.at (state_of old before reads)
        ≡ (if some
        then counting (state_of old before reads) (λ now. onward_of left old.code.now (advanced innermost ∷ reverse old.around.items) innermost.begin (assigned innermost.variable innermost.next now))
        else stepped (onward_of left old.code.now) old.code.now (reverse old.around.items) innermost.after (state_of old before reads))
    turns_on left some is = begins old.code.now left (open_loops old) before.at (state_of old before reads) ∙ rw (is_open, stands, is) refl

    -- no turn is left: the loop is left
    pub over : (inner : Option Loop) (around : Vec Loop Global) → int_lt innermost.next innermost.to ≡ false → loops_of inner around.items ≡ reverse old.around.items
        → outcome_from old before reads ≡ outcome_from (record old { inner = inner; around = around }) (record before { at = innermost.after }) reads
    over inner around is rest =
        turns_on (BUDGET - before.counted) false is
        ∙ sym (begins old.code.now (BUDGET - before.counted) (reverse old.around.items) innermost.after (state_of old before reads))
        ∙ rw rest refl

    -- with no budget left it ends in a fault
    pub spent : int_lt innermost.next innermost.to ≡ true → nat_lt before.counted BUDGET ≡ false → outcome_from old before reads ≡ faults Budget reads
    spent is none = turns_on (BUDGET - before.counted) true is ∙ rw none refl

    -- one more turn begins
    pub turned_on : (new : Machine) (counted : ℕ) → int_lt innermost.next innermost.to ≡ true → nat_lt before.counted BUDGET ≡ true → counted ≡ suc before.counted → new ≡ begun_turn old innermost
        → outcome_from old before reads ≡ outcome_from new (record { at = innermost.begin; counted = counted }) reads
    unfolding onward_of
    turned_on new counted is some one begun =
        ap (λ (n : ℕ). executed n old.code.now (open_loops old) before.at (state_of old before reads)) (within old.code.now before.counted some)
        ∙ turns_on (suc (BUDGET - suc before.counted)) true is ∙ rw (some, one, begun) refl
