use Rattle.std.proofs.Common.{◌≡◌, ◌-◌, ℕ, suc, pos, Bool, true, false, List, int_lt, if◌then◌else◌, refl, rules, sym, ap, ◌∙◌}
use Rattle.std.specs.Prelude.{None, Some, slice_get}
use Rattle.steptree.specs.declared.code.Instruction.{Instruction}
use Rattle.std.specs.Ordering.{int_eq}
use Rattle.steptree.specs.declared.body.TheConstants.{BUDGET}
use Rattle.steptree.specs.declared.code.Instruction.TheVariants as instruction
use Rattle.steptree.specs.Compiled.{Stands}
use Rattle.steptree.specs.Executed.{expression_of, executed}
use Rattle.steplang.specs.declared.machine.Progress.{Progress}
use Rattle.steplang.specs.declared.machine.Step.TheVariants.{Failed, Ended}
use Rattle.terms.specs.declared.fault.FaultKind.TheVariants.{Budget}
use Rattle.steplang.specs.declared.machine.Machine.{Machine}
use Rattle.steplang.specs.Machine.{state_of, open_loops, outcome_from}
use Rattle.steplang.proofs.Counted.{ended, made, overspent}
use Rattle.steplang.proofs.Leads.{stopped}
use Rattle.steplang.proofs.Looped.{left_one, none_open, over, spent, turned_on}
use Rattle.steplang.proofs.Valued.{given_ok, given_err, assigns_value, assigns_fault}
use Rattle.steplang.proofs.machine.Machine.go.Goals as goal

pub returns-in_default-clause-leads : goal.returns-in_default-clause-leads
returns-in_default-clause-leads c =
    let old = c.steps.self in
    let before = c.steps.progress in
    stopped (outcome_from c.args.self.now c.args.self.now.progress) old c.stop.new.self before Ended c.stop.result c.stop.ensures
    (λ reads. c.steps.invariant.same reads ∙ ended old.code.now None (BUDGET - before.counted) (open_loops old) before.at (state_of old before reads) (ap (λ (l : List Instruction). slice_get l before.at) (sym c.steps.invariant.code) ∙ c.in_default.ensures) (λ onward out. refl))

pub returns-in_default-inner-clause-leads : goal.returns-in_default-inner-clause-leads
returns-in_default-inner-clause-leads c =
    let old = c.steps.self in
    let before = c.steps.progress in
    let there : Stands old.code.now before.at instruction.Turn = ap (λ (l : List Instruction). slice_get l before.at) (sym c.steps.invariant.code) ∙ c.in-Some.ensures ∙ ap Some c.in-Turn.is in
    stopped (outcome_from c.args.self.now c.args.self.now.progress) old c.stop-in_default-inner.new.self before Ended c.stop-in_default-inner.result c.stop-in_default-inner.ensures
    (λ reads. c.steps.invariant.same reads ∙ none_open old before there reads c.in_default-inner.is)

pub steps-preserved-then-innermost : goal.steps-preserved-then-innermost
steps-preserved-then-innermost c =
    let old = c.steps.self in
    let before = c.steps.progress in
    let innermost = c.in-Some-inner.innermost in
    let there : Stands old.code.now before.at instruction.Turn = ap (λ (l : List Instruction). slice_get l before.at) (sym c.steps.invariant.code) ∙ c.in-Some.ensures ∙ ap Some c.in-Turn.is in
    let none : int_lt innermost.next innermost.to ≡ false = search rules in
    record {
      same = λ reads. c.steps.invariant.same reads
          ∙ over old before there reads innermost c.in-Some-inner.is c.pop-self.result c.pop-self.new.self none (left_one _ _ _ c.pop-self.ensures.items (search rules));
      code = c.steps.invariant.code;
    }

pub returns-then-not-count-clause-leads : goal.returns-then-not-count-clause-leads
returns-then-not-count-clause-leads c =
    let old = c.steps.self in
    let before = c.steps.progress in
    let innermost = c.in-Some-inner.innermost in
    let there : Stands old.code.now before.at instruction.Turn = ap (λ (l : List Instruction). slice_get l before.at) (sym c.steps.invariant.code) ∙ c.in-Some.ensures ∙ ap Some c.in-Turn.is in
    let below : int_lt innermost.next innermost.to ≡ true = search rules in
    stopped (outcome_from c.args.self.now c.args.self.now.progress) old c.stop-then-not-count.new.self c.count.new.self (Failed Budget) c.stop-then-not-count.result c.stop-then-not-count.ensures
    (λ reads. c.steps.invariant.same reads
    ∙ spent old before there reads innermost c.in-Some-inner.is below (sym c.count.ensures.counted ∙ c.if-not-count.true))

pub steps-preserved-in-Turn : goal.steps-preserved-in-Turn
steps-preserved-in-Turn c =
    let old = c.steps.self in
    let before = c.steps.progress in
    let innermost = c.in-Some-inner.innermost in
    let there : Stands old.code.now before.at instruction.Turn = ap (λ (l : List Instruction). slice_get l before.at) (sym c.steps.invariant.code) ∙ c.in-Some.ensures ∙ ap Some c.in-Turn.is in
    let below : int_lt innermost.next innermost.to ≡ true = search rules in
    let one = ap (λ (p : Progress). p.counted) c.count.ensures.one ∙ ap (λ (b : Bool). if b then suc before.counted else before.counted) c.if-not-count.false in
    record {
      same = λ reads. c.steps.invariant.same reads
          ∙ turned_on old before there reads innermost c.in-Some-inner.is c.turn.new.self c.count.new.self.counted below (sym c.count.ensures.counted ∙ c.if-not-count.false) one c.turn.ensures;
      code = c.steps.invariant.code ∙ ap (λ (m : Machine). m.code.now) (sym c.turn.ensures);
    }

pub returns-then-not-count-2-clause-leads : goal.returns-then-not-count-2-clause-leads
returns-then-not-count-2-clause-leads c =
    let old = c.steps.self in
    let before = c.steps.progress in
    let one = instruction.Assign c.in-Assign.variable c.in-Assign.value c.in-Assign.next in
    let there : Stands old.code.now before.at one = ap (λ (l : List Instruction). slice_get l before.at) (sym c.steps.invariant.code) ∙ c.in-Some.ensures ∙ ap Some c.in-Assign.is in
    stopped (outcome_from c.args.self.now c.args.self.now.progress) old c.stop-then-not-count-2.new.self c.count-in-Assign.new.self (Failed Budget) c.stop-then-not-count-2.result c.stop-then-not-count-2.ensures
    (λ reads. c.steps.invariant.same reads ∙ overspent old before c.count-in-Assign.new.self c.count-in-Assign.result c.count-in-Assign.ensures.counted one there (λ state onward out. refl) c.if-not-count-2.true reads)

pub steps-preserved-in-Ok : goal.steps-preserved-in-Ok
steps-preserved-in-Ok c =
    let old = c.steps.self in
    let before = c.steps.progress in
    let one = instruction.Assign c.in-Assign.variable c.in-Assign.value c.in-Assign.next in
    let there : Stands old.code.now before.at one = ap (λ (l : List Instruction). slice_get l before.at) (sym c.steps.invariant.code) ∙ c.in-Some.ensures ∙ ap Some c.in-Assign.is in
    record {
      same = λ reads. c.steps.invariant.same reads
          ∙ made old before c.count-in-Assign.new.self c.count-in-Assign.result c.count-in-Assign.ensures.counted one there (λ state onward out. refl) c.if-not-count-2.false c.count-in-Assign.ensures.one reads
          ∙ assigns_value c.in-Assign.variable (expression_of c.in-Assign.value) c.in-Ok.value _ _ (sym c.in-Ok.ensures)
          ∙ search rules;
      code = c.steps.invariant.code;
    }

pub returns-in-Err-clause-leads : goal.returns-in-Err-clause-leads
returns-in-Err-clause-leads c =
    let old = c.steps.self in
    let before = c.steps.progress in
    let one = instruction.Assign c.in-Assign.variable c.in-Assign.value c.in-Assign.next in
    let there : Stands old.code.now before.at one = ap (λ (l : List Instruction). slice_get l before.at) (sym c.steps.invariant.code) ∙ c.in-Some.ensures ∙ ap Some c.in-Assign.is in
    stopped (outcome_from c.args.self.now c.args.self.now.progress) old c.stop-in-Err.new.self c.count-in-Assign.new.self (Failed c.in-Err.kind) c.stop-in-Err.result c.stop-in-Err.ensures
    (λ reads. c.steps.invariant.same reads
    ∙ made old before c.count-in-Assign.new.self c.count-in-Assign.result c.count-in-Assign.ensures.counted one there (λ state onward out. refl) c.if-not-count-2.false c.count-in-Assign.ensures.one reads
    ∙ assigns_fault c.in-Assign.variable (expression_of c.in-Assign.value) c.in-Err.kind _ _ (sym c.in-Err.ensures))

pub returns-then-not-count-3-clause-leads : goal.returns-then-not-count-3-clause-leads
returns-then-not-count-3-clause-leads c =
    let old = c.steps.self in
    let before = c.steps.progress in
    let one = instruction.Branch c.in-Branch.condition c.in-Branch.first c.in-Branch.second in
    let there : Stands old.code.now before.at one = ap (λ (l : List Instruction). slice_get l before.at) (sym c.steps.invariant.code) ∙ c.in-Some.ensures ∙ ap Some c.in-Branch.is in
    stopped (outcome_from c.args.self.now c.args.self.now.progress) old c.stop-then-not-count-3.new.self c.count-in-Branch.new.self (Failed Budget) c.stop-then-not-count-3.result c.stop-then-not-count-3.ensures
    (λ reads. c.steps.invariant.same reads ∙ overspent old before c.count-in-Branch.new.self c.count-in-Branch.result c.count-in-Branch.ensures.counted one there (λ state onward out. refl) c.if-not-count-3.true reads)

pub steps-preserved-in-Ok-evaluate : goal.steps-preserved-in-Ok-evaluate
steps-preserved-in-Ok-evaluate c =
    let old = c.steps.self in
    let before = c.steps.progress in
    let after = c.count-in-Branch.new.self in
    let one = instruction.Branch c.in-Branch.condition c.in-Branch.first c.in-Branch.second in
    let there : Stands old.code.now before.at one = ap (λ (l : List Instruction). slice_get l before.at) (sym c.steps.invariant.code) ∙ c.in-Some.ensures ∙ ap Some c.in-Branch.is in
    let next : c.chosen.result ≡ (if int_eq c.in-Ok-evaluate.value (pos 0) then c.in-Branch.second else c.in-Branch.first) = search rules in
    record {
      same = λ reads. c.steps.invariant.same reads
          ∙ made old before after c.count-in-Branch.result c.count-in-Branch.ensures.counted one there (λ state onward out. refl) c.if-not-count-3.false c.count-in-Branch.ensures.one reads
          ∙ given_ok _ c.in-Ok-evaluate.value _ _ (sym c.in-Ok-evaluate.ensures)
          ∙ ap (λ (n : ℕ). executed (BUDGET - after.counted) old.code.now (open_loops old) n (state_of old after reads)) (sym next);
      code = c.steps.invariant.code;
    }

pub returns-in-Err-evaluate-clause-leads : goal.returns-in-Err-evaluate-clause-leads
returns-in-Err-evaluate-clause-leads c =
    let old = c.steps.self in
    let before = c.steps.progress in
    let one = instruction.Branch c.in-Branch.condition c.in-Branch.first c.in-Branch.second in
    let there : Stands old.code.now before.at one = ap (λ (l : List Instruction). slice_get l before.at) (sym c.steps.invariant.code) ∙ c.in-Some.ensures ∙ ap Some c.in-Branch.is in
    stopped (outcome_from c.args.self.now c.args.self.now.progress) old c.stop-in-Err-evaluate.new.self c.count-in-Branch.new.self (Failed c.in-Err-evaluate.kind) c.stop-in-Err-evaluate.result c.stop-in-Err-evaluate.ensures
    (λ reads. c.steps.invariant.same reads
    ∙ made old before c.count-in-Branch.new.self c.count-in-Branch.result c.count-in-Branch.ensures.counted one there (λ state onward out. refl) c.if-not-count-3.false c.count-in-Branch.ensures.one reads
    ∙ given_err _ c.in-Err-evaluate.kind _ _ (sym c.in-Err-evaluate.ensures))

pub step-requires-clause-stands : goal.step-requires-clause-stands
step-requires-clause-stands c = ap (λ (l : List Instruction). slice_get l c.steps.progress.at) (sym c.steps.invariant.code) ∙ c.in-Some.ensures
