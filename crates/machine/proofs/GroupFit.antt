-- Events that are legal one after another fit one after another.
use Rattle.std.proofs.Common.{List, [], ◌∷◌, ◌++◌}
use Rattle.std.specs.List.{AllByRecursion}
use Rattle.terms.specs.declared.put.Put.{Put}
use Rattle.terms.specs.declared.event.Event.{Event}
use Rattle.terms.specs.declared.event.Event.TheVariants.{EnvItem, EnvTag, Done, Stopped}
use Rattle.terms.specs.Facts.{environment_facts, event_facts}
use Rattle.terms.specs.Sets.{Facts, with_facts}
use Rattle.steptree.specs.Sheet.{KeepsAtAnyReads}
use Rattle.steptree.specs.Laws.{FewPuts}
use Rattle.graph.specs.Graph.{Graph, IsGraph}
use Rattle.graph.specs.Fits.{Fits, FitsState, PutIsOf}
use Rattle.graph.specs.FitLaws.{StateKeeps}
use Rattle.machine.specs.Group.{puts_of_all}
use Rattle.machine.specs.GroupLaws.{AreFit}
use Rattle.machine.specs.Machine.{puts_of}
use Rattle.machine.specs.State.{AreLegalFrom}
use Rattle.machine.proofs.Fit.{legal_fits_state}

-- the puts of an event that fits belong to the graph
puts_fit : (g : Graph) (X : Facts) (event : Event) → Fits g X event → AllByRecursion (PutIsOf g) (puts_of event)
puts_fit g X (EnvItem address value) fits = (fits.event_fits.0.0, tt)
puts_fit g X (EnvTag name) fits = (fits.event_fits.0.0, tt)
puts_fit g X (Done instance puts) fits = fits.event_fits.1
puts_fit g X (Stopped instance kind) fits = tt

both_fit : (g : Graph) (one two : List Put) → AllByRecursion (PutIsOf g) one → AllByRecursion (PutIsOf g) two → AllByRecursion (PutIsOf g) (one ++ two)
both_fit g [] two first second = second
both_fit g (put ∷ one) two first second = (first.0, both_fit g one two first.1 second)

pub legal_fit_in_turn : KeepsAtAnyReads → FewPuts → StateKeeps → (g : Graph) → IsGraph g → (E X : Facts) (events : List Event) → FitsState g E X → AreLegalFrom g X events → AreFit g X events
legal_fit_in_turn keeps few kept g is_graph E X [] state legal = record { fit = tt; few = tt; of_graph = tt }
legal_fit_in_turn keeps few kept g is_graph E X (event ∷ events) state legal =
    let fits = legal_fits_state keeps few g is_graph E X event state legal.0 in
    let later = legal_fit_in_turn keeps few kept g is_graph (with_facts E (environment_facts event)) (with_facts X (event_facts event)) events (kept g E X event state fits.0) legal.1 in
    record {
      fit = (fits.0, later.fit);
      few = (fits.1, later.few);
      of_graph = both_fit g (puts_of event) (puts_of_all events) (puts_fit g X event fits.0) later.of_graph;
    }
