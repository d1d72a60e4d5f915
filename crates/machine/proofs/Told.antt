-- What a store reports about itself follows from its invariant.
use Rattle.std.proofs.Common.{Result, Ok, Err, IfOk, ◌≡◌, ◌↔◌, ◌⊎◌, ◌∙◌, ap, sym, refl, subst, inl, inr, ℕ, ℤ, ◌==◌, Bool, true, false, ◌&&◌, List, Option, Some, None, is_some}
use Rattle.std.proofs.lemmas.Bool.{false≢true}
use Rattle.std.specs.Cmp.{IsTotalOrder, unsigned_Decides}
use Rattle.std.specs.FinMap.{IsAntisymmetric, find}
use Rattle.std.specs.Option.{option_map}
use Rattle.std.specs.Ordering.{eq_by_cmp, is_eq}
use Rattle.std.proofs.lemmas.Cmp.{tied_itself}
use Rattle.terms.specs.Key.{key_cmp}
use Rattle.terms.specs.Name.{inst_cmp}
use Rattle.terms.specs.declared.name.Addr.{Addr}
use Rattle.terms.specs.declared.name.Inst.{Inst}
use Rattle.terms.specs.declared.name.Tag.{Tag}
use Rattle.terms.specs.declared.fault.FaultKind.{FaultKind}
use Rattle.terms.specs.Facts.{done, bad}
use Rattle.terms.specs.Sets.{OneFact}
use Rattle.graph.specs.Graph.{Graph, Step, Prescribes}
use Rattle.graph.specs.Fits.{HasNoFault, IsPrescribed}
use Rattle.instances.specs.declared.state.State.{State}
use Rattle.instances.specs.declared.state.State.TheVariants.{Ready, Running, Waiting, Done}
use Rattle.instances.specs.Known.{state_at, is_prescribed_by, prescribed_in}
use Rattle.instances.specs.Known as instances
use Rattle.instances.specs.Listed.{AreTheWaiting}
use Rattle.instances.specs.There.{AreThereTogether}
use Rattle.machine.specs.declared.memory.Memory.{Memory}
use Rattle.machine.specs.Legal.{IsQuiet, IsBlocked}
use Rattle.holdings.specs.ImageLaws.{is_fault}
use Rattle.machine.specs.Memory.{is_done, facts_of, IsOf}
use Rattle.machine.specs.Status.{AreBlocked, NoneIsActive}
use Rattle.machine.proofs.Unfinished.{by_graph}

-- ---- faults

module _ (told : OneFact) where
  -- the fault that is there is this one, and no other
  pub tells_fault : (fault : Option (Inst × FaultKind)) (i : Inst) (kind : FaultKind) → (is_fault fault i kind ≡ true) ↔ (fault ≡ Some (i, kind))
  tells_fault None i kind = (λ is. absurd (false≢true is), λ same. absurd (cc))
  tells_fault (Some there) i kind = (λ is. one ((told (bad there.0 there.1) (bad i kind)).1 is), λ same. subst (λ (p : Inst × FaultKind). is_fault (Some there) p.0 p.1 ≡ true) (inside same) (told (bad there.0 there.1) (bad there.0 there.1)).0)
    where
      one : bad there.0 there.1 ≡ bad i kind → Some there ≡ Some (i, kind)
      one same =
          let instance : there.0 ≡ i = cc in
          let kinds : there.1 ≡ kind = cc in
          ap (λ (j : Inst). Some (j, there.1)) instance ∙ ap (λ (k : FaultKind). Some (i, k)) kinds

      inside : Some there ≡ Some (i, kind) → there ≡ (i, kind)
      inside same = cc

-- ---- which tags prescribe

and_both : (a b : Bool) → a ≡ true → b ≡ true → (a && b) ≡ true
and_both true b one two = two
and_both false b one two = one

module _ (total : IsTotalOrder key_cmp) (tie : IsAntisymmetric key_cmp) (g : Graph) (m : Memory) (is : IsOf g m) where
  -- if a tag prescribes an instance by the graph, it does so by what the store holds
  pub kept : (name : Tag) (i : Inst) → Prescribes g name i → is_prescribed_by m.instances name i ≡ true
  kept name i it =
      ap (λ (o : Option ℕ). prescribed_in o name i.key) (is.prescribers i.collection.0 ∙ ap (option_map (λ (s : Step). s.prescriber)) it.is_step)
      ∙ and_both (it.step.prescriber == name.collection.0) (eq_by_cmp key_cmp i.key name.key) ((unsigned_Decides it.step.prescriber name.collection.0).1 it.prescriber)
      (subst (λ (k : List ℤ). eq_by_cmp key_cmp i.key k ≡ true) (sym it.key) (ap is_eq (tied_itself total i.key)))

  module _ (there : AreThereTogether m.instances) where
    -- an instance that is there is prescribed
    pub prescribed : (i : Inst) (s : State) → state_at m.instances i ≡ Some s → IsPrescribed g (facts_of m) i
    prescribed i s here =
        let by = there.prescribed i (ap is_some here) in
        (by.0, sym (there.together by.0 i by.1) ∙ ap is_some here, by_graph g m is by.0 i by.1)

    -- if no instance is ready, running or at fault, the store is quiet
    pub quiet : HasNoFault (facts_of m) → NoneIsActive (record { graph = g; memory = m }) → IsQuiet g (facts_of m)
    quiet working idle = record { no_fault = working; done_or_blocked = λ i it. at i (state_at m.instances i) refl (there.together it.0 i (kept it.0 i it.2) ∙ it.1) }
      where
        at : (i : Inst) (o : Option State) → state_at m.instances i ≡ o → is_some (state_at m.instances i) ≡ true → (facts_of m (done i) ≡ true) ⊎ IsBlocked g (facts_of m) i
        at i None here some = absurd (false≢true (ap is_some (sym here) ∙ some))
        at i (Some Ready) here some = absurd ((idle i).0 here)
        at i (Some Running) here some = absurd ((idle i).1 here)
        at i (Some (Waiting address)) here some = inr (address, is.needs i address here)
        at i (Some Done) here some = inl (ap is_done here)

    -- waiting instances are blocked
    pub blocked : (list : List (Inst × Addr)) → AreTheWaiting m.instances list → AreBlocked (record { graph = g; memory = m }) list
    blocked list waiting = record {
      rises = waiting.rises;
      each = waiting.each;
      waits = λ i address found. (let here = (waiting.each i address).0 found in
          record { prescribed = prescribed i (Waiting address) here; not_done = ap is_done here; needs = is.needs i address here });
      all = λ idle i it unfinished. at idle i unfinished (state_at m.instances i) refl (there.together it.0 i (kept it.0 i it.2) ∙ it.1);
    }
      where
        at : NoneIsActive (record { graph = g; memory = m }) → (i : Inst) → facts_of m (done i) ≡ false → (o : Option State) → state_at m.instances i ≡ o → is_some (state_at m.instances i) ≡ true
            → (address : Addr) × (find inst_cmp i list ≡ Some address)
        at idle i unfinished None here some = absurd (false≢true (ap is_some (sym here) ∙ some))
        at idle i unfinished (Some Ready) here some = absurd ((idle i).0 here)
        at idle i unfinished (Some Running) here some = absurd ((idle i).1 here)
        at idle i unfinished (Some (Waiting address)) here some = (address, (waiting.each i address).1 here)
        at idle i unfinished (Some Done) here some = absurd (false≢true (sym unfinished ∙ ap is_done here))

-- ---- who is active

-- no instance is ready or running, for the instances alone and for a store
pub idle_of : (g : Graph) (m : Memory) → instances.NoneIsActive m.instances → NoneIsActive (record { graph = g; memory = m })
idle_of g m none i = (λ ready. absurd (false≢true (sym (none i Ready ready).0)), λ running. absurd (false≢true (sym (none i Running running).1)))

pub none_of : (g : Graph) (m : Memory) → NoneIsActive (record { graph = g; memory = m }) → instances.NoneIsActive m.instances
none_of g m idle i Ready here = absurd ((idle i).0 here)
none_of g m idle i Running here = absurd ((idle i).1 here)
none_of g m idle i (Waiting address) here = (refl, refl)
none_of g m idle i Done here = (refl, refl)

-- what follows from a value that is there
pub if_ok : {X E : Type 0} (P Q : X → Type 0) (result : Result X E) → ((x : X) → P x → Q x) → IfOk result P → IfOk result Q
if_ok P Q (Ok x) follows is = follows x is
if_ok P Q (Err error) follows is = tt
