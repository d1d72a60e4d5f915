-- Whether an instance is at fault: then no event fits.
use Rattle.std.proofs.Common.{◌≡◌, ◌↔◌, IsTrue, Bool, true, false, Option, Some, None, is_some, sym, ap, subst, refl, ◌∙◌}
use Rattle.std.proofs.lemmas.Bool.{false≢true}
use Rattle.terms.specs.declared.event.Event.{Event}
use Rattle.terms.specs.declared.fault.FaultKind.{FaultKind}
use Rattle.terms.specs.declared.name.Inst.{Inst}
use Rattle.terms.specs.Facts.{bad}
use Rattle.terms.specs.Sets.{OneFact}
use Rattle.codec.specs.declared.image.Image.{Image}
use Rattle.codec.specs.Image.{facts_in}
use Rattle.graph.specs.Graph.{Graph}
use Rattle.graph.specs.Fits.{FitsAs, Fits}
use Rattle.holdings.specs.Holdings.{Holdings, image_of}
use Rattle.holdings.specs.ImageLaws.{TellsRest, is_fault}

none_at_fault : (fault : Option (Inst × FaultKind)) → is_some fault ≡ false → (instance : Inst) (kind : FaultKind) → is_fault fault instance kind ≡ false
none_at_fault None none instance kind = refl
none_at_fault (Some fault) none instance kind = absurd (false≢true (sym none))

one_at_fault : OneFact → (fault : Option (Inst × FaultKind)) → is_some fault ≡ true → ((instance : Inst) (kind : FaultKind) → is_fault fault instance kind ≡ false) → ⊥
one_at_fault told None one absent = false≢true one
one_at_fault told (Some fault) one absent = false≢true (sym (absent fault.0 fault.1) ∙ (told (bad fault.0 fault.1) (bad fault.0 fault.1)).0)

module _ (rest : (image : Image) → TellsRest image) (g : Graph) (held : Holdings) (event : Event) (found : Option (Inst × FaultKind)) (finds : found ≡ held.fault) (at_fault : Bool) (tells : at_fault ≡ is_some found) where
  asked : is_some held.fault ≡ at_fault
  asked = ap is_some (sym finds) ∙ sym tells

  -- after a fault no event fits
  pub none_fits : OneFact → at_fault ≡ true → IsTrue false ↔ Fits g (facts_in (image_of held)) event
  none_fits told is = (
    λ never. absurd (false≢true never),
    λ fits. absurd (one_at_fault told held.fault (asked ∙ is) (λ instance kind. sym ((rest (image_of held)).of_fault instance kind) ∙ fits.working instance kind)),
  )

  -- without a fault the event alone decides
  pub fits_alone : at_fault ≡ false → (taken : Bool) (one : Event) → event ≡ one → IsTrue taken ↔ FitsAs g (facts_in (image_of held)) one → IsTrue taken ↔ Fits g (facts_in (image_of held)) event
  fits_alone isnt taken one is decides = (
    λ yes_taken. record {
      working = λ instance kind. (rest (image_of held)).of_fault instance kind ∙ none_at_fault held.fault (asked ∙ isnt) instance kind;
      event_fits = subst (FitsAs g (facts_in (image_of held))) (sym is) (decides.0 yes_taken);
    },
    λ fits. decides.1 (subst (FitsAs g (facts_in (image_of held))) is fits.event_fits),
  )
