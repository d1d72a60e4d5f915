-- An instance that runs is prescribed, and not done.
use Rattle.std.proofs.Common.{◌≡◌, ◌∙◌, ap, sym, refl, Bool, true, false, ◌&&◌, ◌==◌, Option, Some, None, Result, Ok, Err, OnOk, option_map, is_some, slice_get}
use Rattle.std.proofs.lemmas.Bool.{false≢true}
use Rattle.std.specs.Ordering.{eq_by_cmp}
use Rattle.std.specs.Cmp.{Equal-is}
use Rattle.terms.specs.Key.{key_cmp}
use Rattle.terms.specs.declared.name.Inst.{Inst}
use Rattle.terms.specs.declared.name.Tag.{Tag}
use Rattle.terms.specs.Facts.{done}
use Rattle.maps.specs.PlaceOrder.{same_key}
use Rattle.graph.specs.Graph.{Graph, Step, Prescribes}
use Rattle.graph.specs.Fits.{IsPrescribed}
use Rattle.instances.specs.declared.state.State.TheVariants.{Running}
use Rattle.instances.specs.Known.{state_at, prescribed_in, is_prescribed_by}
use Rattle.instances.specs.There.{AreThereTogether}
use Rattle.machine.specs.declared.memory.Memory.{Memory}
use Rattle.machine.specs.Memory.{is_done, facts_of, prescriber_of, IsOf}
use Rattle.machine.proofs.Coming.{same_number}

pub on_ok : {A B X E : Type 0} (result : Result X E) → OnOk result A → (A → B) → OnOk result B
on_ok (Ok x) is follows = follows is
on_ok (Err e) is follows = tt

both : (a b : Bool) → (a && b) ≡ true → (a ≡ true) × (b ≡ true)
both true b is = (refl, is)
both false b is = absurd (false≢true is)

module _ (g : Graph) (m : Memory) (is : IsOf g m) where
  -- if a tag prescribes an instance here, it does so by the graph
  pub by_graph : (name : Tag) (i : Inst) → is_prescribed_by m.instances name i ≡ true → Prescribes g name i
  by_graph name i prescribed = at (slice_get g.steps i.collection.0) refl (ap (λ o. prescribed_in o name i.key) (sym (is.prescribers i.collection.0)) ∙ prescribed)
    where
      at : (o : Option Step) → slice_get g.steps i.collection.0 ≡ o → prescribed_in (prescriber_of g i.collection.0) name i.key ≡ true → Prescribes g name i
      at None here it = absurd (false≢true (ap (λ (o : Option Step). prescribed_in (option_map (λ (step : Step). step.prescriber) o) name i.key) (sym here) ∙ it))
      at (Some step) here it =
          let parts = both (step.prescriber == name.collection.0) (eq_by_cmp key_cmp i.key name.key)
          (ap (λ (o : Option Step). prescribed_in (option_map (λ (step : Step). step.prescriber) o) name i.key) (sym here) ∙ it) in
          record {
            step = step;
            is_step = here;
            prescriber = same_number step.prescriber name.collection.0 parts.0;
            key = sym (same_key i.key name.key ((Equal-is (key_cmp i.key name.key)).0 parts.1));
          }

  pub unfinished : AreThereTogether m.instances → (i : Inst) → state_at m.instances i ≡ Some Running → IsPrescribed g (facts_of m) i × (facts_of m (done i) ≡ false)
  unfinished together i runs =
      let there = ap is_some runs in
      let by = together.prescribed i there in
      ((by.0, sym (together.together by.0 i by.1) ∙ there, by_graph by.0 i by.1), ap is_done runs)
