-- How room is added: nothing changes except that any collection may have more room. So what was legal is still legal.
use Rattle.std.specs.Prelude.{◌≡◌, ◌≤◌, length}
use Rattle.terms.specs.declared.name.Inst.{Inst}
use Rattle.terms.specs.declared.name.ItemCollection.{ItemCollection}
use Rattle.terms.specs.declared.name.TagCollection.{TagCollection}
use Rattle.terms.specs.declared.event.Event.{Event}
use Rattle.terms.specs.Facts.{Fact}
use Rattle.graph.specs.Graph.{Graph}
use Rattle.items.specs.Held as items
use Rattle.instances.specs.Known.{state_at}
use Rattle.instances.specs.Known as instances
use Rattle.machine.specs.declared.memory.Memory.{Memory}
use Rattle.machine.specs.Legal.{IsLegal}
use Rattle.machine.specs.Machine.{Machine, environment, facts, item_room, state_of, tag_room}
use Rattle.machine.specs.Memory.{environment_of, facts_of, IsOf}

pub record GivesRoom (old new : Machine) : Type 0 where
  pub graph : new.graph ≡ old.graph
  pub facts : (fact : Fact) → facts new fact ≡ facts old fact
  pub environment : (fact : Fact) → environment new fact ≡ environment old fact
  pub states : (instance : Inst) → state_of new instance ≡ state_of old instance
  pub legal : (event : Event) → IsLegal old.graph (facts_of old.memory) event → IsLegal new.graph (facts_of new.memory) event
  pub item_room : (collection : ItemCollection) → item_room old collection ≤ item_room new collection
  pub tag_room : (collection : TagCollection) → tag_room old collection ≤ tag_room new collection

-- The same for what a store holds. What it holds for a graph, it still holds for it.
pub record OnlyMakesRoom (old new : Memory) : Type 0 where
  pub facts : (fact : Fact) → facts_of new fact ≡ facts_of old fact
  pub environment : (fact : Fact) → environment_of new fact ≡ environment_of old fact
  pub states : (instance : Inst) → state_at new.instances instance ≡ state_at old.instances instance
  pub is_of : (g : Graph) → IsOf g old → IsOf g new
  pub item_collections : length new.items.items.room ≡ length old.items.items.room
  pub tag_collections : length new.instances.tags.room ≡ length old.instances.tags.room
  pub item_room : (collection : ItemCollection) → items.room_for old.items collection ≤ items.room_for new.items collection
  pub tag_room : (collection : TagCollection) → instances.room_for old.instances collection ≤ instances.room_for new.instances collection
