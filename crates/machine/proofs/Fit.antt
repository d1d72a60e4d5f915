-- Legal events fit, and an event that fits adds no second item at an address.
use Rattle.std.proofs.Common.{◌≡◌, ℕ, true, List, [], ◌∷◌, ◌++◌, length, Some, slice_get, sym, ap, ◌∙◌}
use Rattle.std.specs.List.{AllByRecursion}
use Rattle.terms.specs.declared.name.Tag.{Tag}
use Rattle.terms.specs.declared.name.Inst.{Inst}
use Rattle.terms.specs.declared.put.Put.{Put}
use Rattle.terms.specs.declared.put.Put.TheVariants as put
use Rattle.terms.specs.declared.event.Event.{Event}
use Rattle.terms.specs.declared.event.Event.TheVariants.{EnvItem, EnvTag, Done, Stopped}
use Rattle.terms.specs.Facts.{Fact, tag, bad, event_facts, environment_facts}
use Rattle.terms.specs.Sets.{Facts, among, OneFact, AmongBoth}
use Rattle.steptree.specs.Nameable.{Collection}
use Rattle.steptree.specs.Sheet.{PutIsAllowed, KeepsAtAnyReads}
use Rattle.steptree.specs.Laws.{FewPuts}
use Rattle.steptree.specs.Bodies.{Gives}
use Rattle.codec.specs.Spelling.{HasFewPuts}
use Rattle.graph.specs.Graph.{Graph, Step, sheet_of, IsGraph}
use Rattle.graph.specs.Fits.{AllFit, IsPrescribed, TagIsOf, InstanceIsOf, PutIsOf, Fits, FitsState, HasOneItemEach}
use Rattle.graph.specs.FitLaws.{FitKeeps}
use Rattle.machine.specs.Meaning.{BodyGives}
use Rattle.machine.specs.Legal.{IsLegal, AreLegal}
use Rattle.machine.proofs.Kept.{AddsItems, one_item_more, adds_no_item, adds_item, adds_puts}

-- ---- legal events fit

-- the tags of a set belong to the graph
abbrev TagsAreOf : Graph → Facts → Type 0
TagsAreOf g X = (name : Tag) → X (tag name) ≡ true → TagIsOf g name

module _ (keeps : KeepsAtAnyReads) (g : Graph) (is_graph : IsGraph g) where
  instance_is_of : (X : Facts) → TagsAreOf g X → (instance : Inst) → IsPrescribed g X instance → InstanceIsOf g instance
  instance_is_of X tags instance prescribed =
      let it = prescribed.2 in
      let of_graph = (is_graph.steps instance.collection.0 it.step it.is_step).prescribed in
      let of_tag = tags prescribed.0 prescribed.1 in
      let one : of_graph.0 ≡ of_tag.0 = same_collection (sym of_graph.1 ∙ ap (λ (n : ℕ). slice_get g.tags n) it.prescriber ∙ of_tag.1) in
      (it.step, it.is_step, sym of_graph.2 ∙ ap (λ (c : Collection). c.components) one ∙ of_tag.2 ∙ ap length it.key)
    where
      same_collection : {a b : Collection} → Some a ≡ Some b → a ≡ b
      same_collection same = cc

  put_is_of : (step : Step) (one : Put) → PutIsAllowed (sheet_of g step) one → PutIsOf g one
  put_is_of step (put.Item address value) allowed = allowed.declared
  put_is_of step (put.Tag name) allowed = allowed.declared

  puts_are_of : (step : Step) (puts : List Put) → AllByRecursion (PutIsAllowed (sheet_of g step)) puts → AllByRecursion (PutIsOf g) puts
  puts_are_of step [] allowed = tt
  puts_are_of step (one ∷ puts) allowed = (put_is_of step one allowed.0, puts_are_of step puts allowed.1)

  pub given_are_of : (X : Facts) (instance : Inst) (puts : List Put) → BodyGives g X instance puts → AllByRecursion (PutIsOf g) puts
  given_are_of X instance puts gives =
      let it = is_graph.steps instance.collection.0 gives.step gives.is_step in
      puts_are_of gives.step puts (keeps (sheet_of g gives.step) gives.step.body instance.key gives.means.reads (Gives puts) it.keeps gives.means.along).1

  pub event_fits : (X : Facts) (event : Event) → TagsAreOf g X → IsLegal g X event → Fits g X event
  event_fits X (EnvItem address value) tags legal = record { working = legal.working; event_fits = legal.event_is_legal }
  event_fits X (EnvTag name) tags legal = record { working = legal.working; event_fits = legal.event_is_legal }
  event_fits X (Done instance puts) tags legal =
      let it = legal.event_is_legal in
      record {
        working = legal.working;
        event_fits = (record { of_graph = instance_is_of X tags instance it.0; prescribed = it.0; not_done = it.1 }, given_are_of X instance puts it.2, it.3);
      }
  event_fits X (Stopped instance kind) tags legal =
      let it = legal.event_is_legal in
      record { working = legal.working; event_fits = record { of_graph = instance_is_of X tags instance it.0; prescribed = it.0; not_done = it.1 } }

  pub legal_fits : FitKeeps → (given before : List Fact) (events : List Event) → FitsState g (among given) (among before) → AreLegal g before events → AllFit g before events
  legal_fits kept given before [] state legal = tt
  legal_fits kept given before (event ∷ events) state legal =
      let fits = event_fits (among before) event (λ name there. state.of_graph (tag name) there) legal.0 in
      (fits, legal_fits kept (given ++ environment_facts event) (before ++ event_facts event) events (kept g given before event state fits) legal.1)

-- ---- the same for sets

few_puts : FewPuts → (g : Graph) (X : Facts) (event : Event) → IsLegal g X event → HasFewPuts event
few_puts few g X (EnvItem address value) legal = tt
few_puts few g X (EnvTag name) legal = tt
few_puts few g X (Done instance puts) legal =
    let gives = legal.event_is_legal.2 in
    few gives.step.body instance.key gives.means.reads puts gives.means.along
few_puts few g X (Stopped instance kind) legal = tt

pub legal_fits_state : KeepsAtAnyReads → FewPuts → (g : Graph) → IsGraph g → (E X : Facts) (event : Event) → FitsState g E X → IsLegal g X event → Fits g X event × HasFewPuts event
legal_fits_state keeps few g is_graph E X event state legal = (event_fits keeps g is_graph X event (λ name there. state.of_graph (tag name) there) legal, few_puts few g X event legal)

-- ---- no two items at one address

module _ (told : OneFact) (both : AmongBoth) (g : Graph) where
  adds : (X : Facts) (event : Event) → Fits g X event → AddsItems X (event_facts event)
  adds X (EnvItem address value) fits = adds_item told both X address value fits.event_fits.1
  adds X (EnvTag name) fits = adds_no_item told both X (tag name) (λ address value by same. cc)
  adds X (Done instance puts) fits = adds_puts told both X instance puts fits.event_fits.2
  adds X (Stopped instance kind) fits = adds_no_item told both X (bad instance kind) (λ address value by same. cc)

  pub keeps_one_item : (before : List Fact) (event : Event) → HasOneItemEach (among before) → Fits g (among before) event → HasOneItemEach (among (before ++ event_facts event))
  keeps_one_item before event each fits = one_item_more told both before (event_facts event) (adds (among before) event fits) each
