-- What walks along a store go past.
use Rattle.std.proofs.Common.{◌≡◌, ℤ, Bool, true, List, map, inr}
use Rattle.std.specs.FinMap.{entries}
use Rattle.terms.specs.declared.name.Addr.{Addr}
use Rattle.terms.specs.declared.name.Tag.{Tag}
use Rattle.terms.specs.declared.name.Inst.{Inst}
use Rattle.terms.specs.declared.producer.Producer.{Producer}
use Rattle.terms.specs.Facts.{done}
use Rattle.terms.specs.Sets.{OneFact}
use Rattle.maps.specs.Numbered.{Place}
use Rattle.items.specs.Held.{address_at}
use Rattle.instances.specs.Known.{tag_at}
use Rattle.instances.specs.Listed.{AreTheDone}
use Rattle.machine.specs.Machine.{Machine, facts}
use Rattle.machine.specs.Promise.{IsKept}
use Rattle.audit.proofs.Beginning.{GivenItem, GivenTag}
use Rattle.audit.proofs.Counted.{done_is_listed, listed_is_done}
use Rattle.audit.proofs.Left.{Left, item_is_listed, listed_is_item, listed_is_tag, tag_is_listed}

-- an item as a walk gives it, and a tag with its mark
abbrev pub Item : Type 0
Item = Addr × (ℤ × Producer)

abbrev pub Given : Type 0
Given = Tag × Bool

abbrev pub IsDoneIn : Machine → Inst → Type 0
IsDoneIn store instance = facts store (done instance) ≡ true

module _ (told : OneFact) where
  pub all_done_left : (store : Machine) (Q : Inst → Type 0) (list : List Inst) → IsKept store → AreTheDone store.memory.instances list → Left (IsDoneIn store) Q list
  all_done_left store Q list kept are = record {
    rest = λ instance is. inr (done_is_listed told store kept list are instance is);
    there = λ instance is. listed_is_done told store kept list are instance is;
  }

  pub all_items_left : (store : Machine) (Q : Item → Type 0) → Left (GivenItem store) Q (map (λ (entry : Place × (ℤ × Producer)). (address_at entry.0, entry.1)) (entries store.memory.items.items.items))
  all_items_left store Q = record {
    rest = λ it is. inr (item_is_listed told store it.0 it.1.0 it.1.1 is);
    there = λ it is. listed_is_item told store it is;
  }

pub all_tags_left : (store : Machine) (Q : Given → Type 0) → Left (GivenTag store) Q (map (λ (entry : Place × Bool). (tag_at entry.0, entry.1)) (entries store.memory.instances.tags.items))
all_tags_left store Q = record {
  rest = λ it is. inr (tag_is_listed store it.0 it.1 is);
  there = λ it is. listed_is_tag store it is;
}
