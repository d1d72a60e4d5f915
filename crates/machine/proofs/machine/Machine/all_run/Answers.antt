use Rattle.std.proofs.Common.{◌≡◌, ◌∙◌, Some, slice_get, rules, sym}
use Rattle.std.specs.List.{AllByRecursion}
use Rattle.terms.specs.declared.name.Inst.{Inst}
use Rattle.instances.specs.declared.state.State.TheVariants.{Running}
use Rattle.machine.specs.Machine.{state_of}
use Rattle.machine.proofs.OnceOnly.{passed}
use Rattle.machine.proofs.machine.Machine.all_run.Goals as goal

pub loop-number-preserved : goal.loop-number-preserved
loop-number-preserved c =
    let n = c.loop-number.number in
    let one = c.unwrap-inst.result in
    let there : slice_get c.args.tasks.now n ≡ Some one = sym c.get.ensures ∙ c.unwrap-inst.ensures in
    let runs : state_of c.args.self.now one ≡ Some Running = search rules in
    passed (AllByRecursion (λ (instance : Inst). state_of c.args.self.now instance ≡ Some Running)) c.args.tasks.now n one there (λ rest. (runs, rest)) (λ all. all.1) c.loop-number.invariant
