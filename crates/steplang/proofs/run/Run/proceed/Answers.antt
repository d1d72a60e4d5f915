use Rattle.std.proofs.Common.{[], List, refl, sym, ap, ◌∙◌}
use Rattle.std.specs.Prelude.{Some}
use Rattle.terms.specs.declared.put.Put.{Put}
use Rattle.steptree.specs.Bodies.{Gives}
use Rattle.steplang.specs.declared.machine.Machine.{Machine}
use Rattle.steplang.specs.Machine.{outcome_from}
use Rattle.steplang.specs.Running.{Running}
use Rattle.steplang.proofs.Begun.{is_ready}
use Rattle.steplang.proofs.Endings.{ended}
use Rattle.steplang.proofs.run.Run.proceed.Goals as goal

pub invariant_of-result : goal.invariant_of-result
invariant_of-result c =
    let run = c.self.inside in
    let ready = is_ready run.stage (ap (λ (r : Running). r.awaits) c.self.view_is ∙ c.requires) in
    let leads = rw c.in-Failed.is at c.in_ok-go.ensures.leads in
    record { along = ended run.checked.now.body run.instance.key run.reads.items _ _ _ (c.new-in-Failed.ensures ∙ ap (λ v. v.items) c.replace-reads.ensures.value) (run.ready ready [] ∙ ap (λ (m : Machine). outcome_from m m.progress []) (sym c.deref_mut.ensures.value) ∙ leads []) refl }

pub invariant_of-result-in-Ended : goal.invariant_of-result-in-Ended
invariant_of-result-in-Ended c =
    let run = c.self.inside in
    let ready = is_ready run.stage (ap (λ (r : Running). r.awaits) c.self.view_is ∙ c.requires) in
    let leads = rw c.in-Ended.is at c.in_ok-go.ensures.leads in
    let puts = c.new-in-Ended-4.ensures ∙ ap (λ v. v.items) c.replace-puts.ensures.value ∙ ap (λ (m : Machine). m.puts.items) c.deref_mut-in-Ended.ensures.value in
    record { along = ended run.checked.now.body run.instance.key run.reads.items _ _ _ (c.new-in-Ended-3.ensures ∙ ap (λ v. v.items) c.replace-reads-in-Ended.ensures.value) (run.ready ready [] ∙ ap (λ (m : Machine). outcome_from m m.progress []) (sym c.deref_mut.ensures.value) ∙ leads []) (ap (λ (l : List Put). Some (Gives l)) (sym puts)) }
