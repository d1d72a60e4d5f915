-- Events that are taken one after another: their room, their facts, and the parts of a legal list.
use Rattle.std.proofs.Common.{◌≡◌, ◌∙◌, ap, sym, subst, Bool, true, false, ◌||◌, refl, List, [], ◌∷◌, ◌++◌, Some, arith}
use Rattle.terms.specs.declared.name.Inst.{Inst}
use Rattle.terms.specs.declared.event.Event.{Event}
use Rattle.terms.specs.Facts.{Fact, environment_facts, event_facts}
use Rattle.terms.specs.Facts as stated
use Rattle.terms.specs.Sets.{Facts, among, with_facts, AmongBoth}
use Rattle.graph.specs.Graph.{Graph}
use Rattle.instances.specs.declared.state.State.TheVariants.{Running}
use Rattle.machine.specs.Group.{puts_of_all, TakesInTurn}
use Rattle.machine.specs.GroupLaws.{AddsAllFacts}
use Rattle.machine.specs.Machine.{GoesOn, HasRoom, Machine, Takes, Ends, environment, facts, puts_of, state_of}
use Rattle.machine.specs.Memory.{facts_of}
use Rattle.machine.specs.State.{AreLegalFrom}
use Rattle.machine.proofs.Joined.{items_both, tags_both}

pub room_in_turn : (old : Machine) (event : Event) (rest : List Event) → HasRoom old (puts_of_all (event ∷ rest))
    → HasRoom old (puts_of event) × ((mid : Machine) → Takes old mid event → HasRoom mid (puts_of_all rest))
room_in_turn old event rest room = (
  record {
    items = λ c. omega (arith, room.items c, items_both c (puts_of event) (puts_of_all rest));
    tags = λ c. omega (arith, room.tags c, tags_both c (puts_of event) (puts_of_all rest));
  },
  λ mid takes. record {
    items = λ c. omega (arith, room.items c, items_both c (puts_of event) (puts_of_all rest), takes.item_room c);
    tags = λ c. omega (arith, room.tags c, tags_both c (puts_of event) (puts_of_all rest), takes.tag_room c);
  },
)

pub run_in_turn : (old new : Machine) (event : Event) (instance : Inst) → Takes old new event → (Ends event instance → ⊥) → state_of old instance ≡ Some Running → state_of new instance ≡ Some Running
run_in_turn old new event instance takes other runs = subst (λ s. GoesOn (facts_of new.memory) s (state_of new instance)) runs (takes.states instance other)

-- ---- facts

or_assoc : (a b c : Bool) → ((a || b) || c) ≡ (a || (b || c))
or_assoc true b c = refl
or_assoc false b c = refl

or_false : (b : Bool) → b ≡ (b || false)
or_false true = refl
or_false false = refl

module _ (both : AmongBoth) where
  -- facts are added, and then more
  pub both_added : (X : Facts) (one two : List Fact) → with_facts (with_facts X one) two ≡ with_facts X (one ++ two)
  both_added X one two = λ i fact. (or_assoc (X fact) (among one fact) (among two fact) ∙ ap (λ b. X fact || b) (sym (both one two fact))) i

  pub taken_in_turn : (old : Machine) (events : List Event) (new : Machine) → TakesInTurn old events new → AddsAllFacts old events new
  taken_in_turn old [] new same = record {
    graph = ap (λ (m : Machine). m.graph) same;
    all = λ fact. ap (λ (m : Machine). facts m fact) same ∙ or_false (facts old fact);
    given = λ fact. ap (λ (m : Machine). environment m fact) same ∙ or_false (environment old fact);
  }
  taken_in_turn old (event ∷ events) new (mid, first, rest) =
      let later = taken_in_turn mid events new rest in record {
        graph = later.graph ∙ first.graph;
        all = λ fact.
            later.all fact ∙ ap (λ b. b || among (stated.facts events) fact) (first.facts fact)
            ∙ ap (λ (X : Facts). X fact) (both_added (facts old) (event_facts event) (stated.facts events));
        given = λ fact.
            later.given fact ∙ ap (λ b. b || among (stated.environment events) fact) (first.environment fact)
            ∙ ap (λ (X : Facts). X fact) (both_added (environment old) (environment_facts event) (stated.environment events));
      }

  pub legal_in_turn : (g : Graph) (X : Facts) (first second : List Event) → AreLegalFrom g X (first ++ second)
      → AreLegalFrom g X first × AreLegalFrom g (with_facts X (stated.facts first)) second
  legal_in_turn g X [] second legal = (tt, subst (λ (Y : Facts). AreLegalFrom g Y second) (λ i fact. or_false (X fact) i) legal)
  legal_in_turn g X (event ∷ first) second legal =
      let rest = legal_in_turn g (with_facts X (event_facts event)) first second legal.1 in (
        (legal.0, rest.0),
        subst (λ (Y : Facts). AreLegalFrom g Y second) (both_added X (event_facts event) (stated.facts first)) rest.1,
      )
