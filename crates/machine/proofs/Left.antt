-- If nothing is left to do, the waiting instances are those that the meaning leaves unfinished.
use Rattle.std.proofs.Common.{◌≡◌, ◌∙◌, ap, sym, refl, List, Option, Some, None, is_some}
use Rattle.std.proofs.lemmas.Bool.{false≢true}
use Rattle.std.specs.Cmp.{IsTotalOrder}
use Rattle.std.specs.FinMap.{IsAntisymmetric}
use Rattle.terms.specs.Key.{key_cmp}
use Rattle.terms.specs.declared.name.Addr.{Addr}
use Rattle.terms.specs.declared.name.Inst.{Inst}
use Rattle.terms.specs.Sets.{OneFact, AmongBoth}
use Rattle.steptree.specs.Bodies.{Asks}
use Rattle.steptree.specs.Laws.{LookUpEndsOnce}
use Rattle.graph.specs.Graph.{Graph}
use Rattle.instances.specs.declared.state.State.{State}
use Rattle.instances.specs.declared.state.State.TheVariants.{Ready, Running, Waiting, Done}
use Rattle.instances.specs.Known.{state_at}
use Rattle.instances.specs.Listed.{AreTheWaiting}
use Rattle.instances.specs.There.{AreThereTogether}
use Rattle.machine.specs.declared.memory.Memory.{Memory}
use Rattle.machine.specs.Memory.{is_done, environment_of, facts_of, IsOf}
use Rattle.machine.specs.State.{IsReached, Waits}
use Rattle.machine.specs.StateLaws.{QuietWaits}
use Rattle.machine.specs.Status.{AreUnfinished, NoneIsActive}
use Rattle.machine.proofs.Reached.{reached_one_ending}
use Rattle.machine.proofs.Told.{blocked, kept, quiet}

module _ (told : OneFact) (both : AmongBoth) (once : LookUpEndsOnce) (waits : QuietWaits) (total : IsTotalOrder key_cmp) (tie : IsAntisymmetric key_cmp) (g : Graph) (m : Memory)
    (is : IsOf g m) (there : AreThereTogether m.instances) where
  module _ (idle : NoneIsActive (record { graph = g; memory = m })) (reached : IsReached g (environment_of m) (facts_of m)) where
    -- an instance that is prescribed, not done and needs an item waits for it
    waits_here : (i : Inst) (address : Addr) → Waits g (facts_of m) i address → state_at m.instances i ≡ Some (Waiting address)
    waits_here i address it = at (state_at m.instances i) refl
      where
        same_address : (other : Addr) → Asks other ≡ Asks address → other ≡ address
        same_address other asks = cc

        at : (o : Option State) → state_at m.instances i ≡ o → o ≡ Some (Waiting address)
        at None here =
            absurd (false≢true (ap is_some (sym here) ∙ there.together it.prescribed.0 i (kept total tie g m is it.prescribed.0 i it.prescribed.2) ∙ it.prescribed.1))
        at (Some Ready) here = absurd ((idle i).0 here)
        at (Some Running) here = absurd ((idle i).1 here)
        at (Some (Waiting other)) here = ap (λ (a : Addr). Some (Waiting a))
            (same_address other (reached_one_ending told both once g (environment_of m) (facts_of m) reached i (Asks other) (Asks address) (is.needs i other here) it.needs))
        at (Some Done) here = absurd (false≢true (sym it.not_done ∙ ap is_done here))

  pub unfinished : (list : List (Inst × Addr)) → AreTheWaiting m.instances list → AreUnfinished (record { graph = g; memory = m }) list
  unfinished list waiting working idle reached i address =
      let told_by = waits g (environment_of m) (facts_of m) reached (quiet total tie g m is there working idle) i address in (
        λ found. told_by.0 ((blocked total tie g m is there list waiting).waits i address found),
        λ it. (waiting.each i address).1 (waits_here idle reached i address (told_by.1 it)),
      )
