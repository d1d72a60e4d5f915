-- An event is taken, in terms of what a store holds.
use Rattle.std.proofs.Common.{◌≡◌, ◌∙◌, ap, refl, inl, inr, ℤ, ◌+◌, ◌≤◌, List, Option, Some, None, IsSome}
use Rattle.std.proofs.lemmas.Bool.{false≢true}
use Rattle.terms.specs.declared.name.Addr.{Addr}
use Rattle.terms.specs.declared.name.Inst.{Inst}
use Rattle.terms.specs.declared.name.ItemCollection.{ItemCollection}
use Rattle.terms.specs.declared.name.TagCollection.{TagCollection}
use Rattle.terms.specs.declared.event.Event.{Event}
use Rattle.terms.specs.declared.producer.Producer.{Producer}
use Rattle.terms.specs.declared.put.Put.{Put}
use Rattle.terms.specs.declared.event.Event.TheVariants.{Done as Ended}
use Rattle.terms.specs.Facts.{done, event_facts, put_facts}
use Rattle.terms.specs.Sets.{OneFact, is_fact, among}
use Rattle.graph.specs.Graph.{Graph}
use Rattle.graph.specs.Fits.{IsAbsent}
use Rattle.items.specs.Held.{item_at}
use Rattle.instances.specs.declared.state.State.{State}
use Rattle.instances.specs.declared.state.State.TheVariants.{Ready, Running, Waiting, Done}
use Rattle.instances.specs.Known.{state_at}
use Rattle.machine.specs.declared.memory.Memory.{Memory}
use Rattle.machine.specs.Machine.{Ends, EndsAs, GoesOn, HasItem, Takes, item_room, puts_of, tag_room}
use Rattle.holdings.specs.ImageLaws.{is_item}
use Rattle.machine.specs.Memory.{facts_of, Comes, MovesOn}
use Rattle.machine.proofs.Coming.{item_is_there}
use Rattle.machine.proofs.Promised.{ended}
use Rattle.machine.proofs.Sets.{or_left, or_right}
use Rattle.machine.specs.Putting.{items_to, tags_to}

-- whether an item is there, by the facts
pub absent_of : (m : Memory) (a : Addr) → item_at m.items a ≡ None → IsAbsent (facts_of m) a
absent_of m a none v by = ap (λ (o : Option (ℤ × Producer)). is_item o v by) none

module _ (told : OneFact) where
  pub there_of : (m : Memory) (a : Addr) → IsSome (item_at m.items a) → HasItem (facts_of m) a
  there_of m a some = at (item_at m.items a) refl some
    where
      at : (o : Option (ℤ × Producer)) → item_at m.items a ≡ o → IsSome o → HasItem (facts_of m) a
      at None here some = absurd (false≢true some)
      at (Some it) here some = (it.0, (it.1, item_is_there told a (item_at m.items a) it.0 it.1 here))

  goes_on : (new : Memory) (from to : Option State) → MovesOn new from to → GoesOn (facts_of new) from to
  goes_on new None to moves = moves
  goes_on new (Some Ready) to same = same
  goes_on new (Some Running) to same = same
  goes_on new (Some (Waiting a)) to (inl waits) = inl (absent_of new a waits.0, waits.1)
  goes_on new (Some (Waiting a)) to (inr wakes) = inr (there_of new a wakes.0, wakes.1)
  goes_on new (Some Done) to same = same

  -- an instance that the event ended is done
  pub is_ended : (old new : Memory) (i : Inst) (puts : List Put) → Comes old new (Ended i puts) → state_at new.instances i ≡ Some Done
  is_ended old new i puts comes = ended (state_at new.instances i) (comes.facts (done i)
      ∙ or_right (facts_of old (done i)) (among (event_facts (Ended i puts)) (done i)) (or_left (is_fact (done i) (done i)) (among (put_facts i 0 puts) (done i)) (told (done i) (done i)).0))

  pub takes : (g : Graph) (old new : Memory) (event : Event) → Comes old new event
      → ((i : Inst) → (Ends event i → ⊥) → MovesOn new (state_at old.instances i) (state_at new.instances i))
      → EndsAs (record { graph = g; memory = new }) event
      → ((c : ItemCollection) → item_room (record { graph = g; memory = old }) c ≤ item_room (record { graph = g; memory = new }) c + items_to c (puts_of event))
      → ((c : TagCollection) → tag_room (record { graph = g; memory = old }) c ≤ tag_room (record { graph = g; memory = new }) c + tags_to c (puts_of event))
      → Takes (record { graph = g; memory = old }) (record { graph = g; memory = new }) event
  takes g old new event comes moves back items_left tags_left = record {
    graph = refl;
    facts = comes.facts;
    environment = comes.environment;
    states = λ i other. goes_on new (state_at old.instances i) (state_at new.instances i) (moves i other);
    ends = back;
    item_room = items_left;
    tag_room = tags_left;
  }
