-- The invariant of a machine.
use Rattle.std.proofs.Common.{◌≡◌, ◌∙◌, ap, sym, refl, ℤ, true, Option, Some, None, is_some}
use Rattle.std.proofs.lemmas.Bool.{false≢true}
use Rattle.std.specs.FinMap.{IsAntisymmetric}
use Rattle.std.specs.Cmp.{IsTotalOrder}
use Rattle.terms.specs.Key.{key_cmp}
use Rattle.terms.specs.declared.name.Inst.{Inst}
use Rattle.terms.specs.declared.producer.Producer.{Producer}
use Rattle.terms.specs.Sets.{OneFact}
use Rattle.graph.specs.Graph.{Graph}
use Rattle.graph.specs.Fits.{IsPrescribed, HasOneItemEach}
use Rattle.items.specs.Held.{item_at}
use Rattle.instances.specs.declared.state.State.{State}
use Rattle.instances.specs.declared.state.State.TheVariants.{Ready, Running, Waiting, Done}
use Rattle.instances.specs.Known.{state_at}
use Rattle.instances.specs.There.{AreCounted, AreThereTogether}
use Rattle.machine.specs.declared.memory.Memory.{Memory}
use Rattle.machine.specs.Memory.{is_done, facts_of, IsOf}
use Rattle.machine.specs.Promise.{IsKept}
use Rattle.machine.proofs.Coming.{the_item}
use Rattle.machine.proofs.Told.{kept, prescribed}

pub ended : (o : Option State) → is_done o ≡ true → o ≡ Some Done
ended None is = absurd (false≢true is)
ended (Some Ready) is = absurd (false≢true is)
ended (Some Running) is = absurd (false≢true is)
ended (Some (Waiting address)) is = absurd (false≢true is)
ended (Some Done) is = refl

module _ (told : OneFact) (total : IsTotalOrder key_cmp) (tie : IsAntisymmetric key_cmp) (g : Graph) (m : Memory) (is : IsOf g m) (there : AreThereTogether m.instances) (counted : AreCounted m.instances) where
  one_item : HasOneItemEach (facts_of m)
  one_item a v w p q first second =
      let one : ℤ × Producer = (v, p) in
      let two : ℤ × Producer = (w, q) in
      let same = inside one two (sym (the_item told a (item_at m.items a) v p first) ∙ the_item told a (item_at m.items a) w q second) in
      (ap (λ (it : ℤ × Producer). it.0) same, ap (λ (it : ℤ × Producer). it.1) same)
    where
      inside : (x y : ℤ × Producer) → Some x ≡ Some y → x ≡ y
      inside x y is = cc

  its_tag : (i : Inst) → is_some (state_at m.instances i) ≡ true → IsPrescribed g (facts_of m) i
  its_tag i some = at (state_at m.instances i) refl
    where
      at : (o : Option State) → state_at m.instances i ≡ o → IsPrescribed g (facts_of m) i
      at None here = absurd (false≢true (ap is_some (sym here) ∙ some))
      at (Some state) here = prescribed total tie g m is there i state here

  pub keeps : IsKept (record { graph = g; memory = m })
  keeps = record {
    graph = is.graph;
    fits = is.fits;
    one_item = one_item;
    prescribed = λ i. (its_tag i, λ it. there.together it.0 i (kept total tie g m is it.0 i it.2) ∙ it.1);
    done = λ i. (λ here. ap is_done here, ended (state_at m.instances i));
    counted = counted;
    numbered = is.numbered;
    waits = λ i a here. record { prescribed = prescribed total tie g m is there i (Waiting a) here; not_done = ap is_done here; needs = is.needs i a here };
  }
