-- The items of one collection and the counts, from what a store holds.
use Rattle.std.proofs.Common.{◌≡◌, ◌∙◌, ap, sym, refl, ℕ, ℤ, ◌-◌, ◌^◌, ◌==◌, min, Bool, true, false, List, map, length, Option, Some, None, is_some}
use Rattle.std.proofs.lemmas.Bool.{false≢true}
use Rattle.std.proofs.lemmas.List.{length-map}
use Rattle.std.specs.Cmp.{IsTotalOrder}
use Rattle.std.specs.FinMap.{IsAntisymmetric, entries, entries_sorted, get-entries}
use Rattle.terms.specs.declared.name.Addr.{Addr}
use Rattle.terms.specs.declared.name.ItemCollection.{ItemCollection}
use Rattle.terms.specs.declared.name.Inst.{Inst}
use Rattle.terms.specs.declared.producer.Producer.{Producer}
use Rattle.terms.specs.Key.{key_cmp}
use Rattle.terms.specs.Name.{addr_cmp, tag_cmp, inst_cmp}
use Rattle.terms.specs.Facts.{tag, done}
use Rattle.terms.specs.Sets.{OneFact}
use Rattle.maps.specs.Numbered.{Place, of_number}
use Rattle.items.specs.Held.{place, address_at, item_at}
use Rattle.instances.specs.declared.state.State.{State}
use Rattle.instances.specs.Known.{state_at, tag_at, tag_place}
use Rattle.instances.specs.Listed.{CountsAll, CountsDone}
use Rattle.instances.specs.There.{AreThereTogether}
use Rattle.graph.specs.Graph.{Graph}
use Rattle.graph.specs.Fits.{IsPrescribed}
use Rattle.machine.specs.Counts.{AreItemsOf, AreSoMany, AreCountsOf}
use Rattle.machine.specs.declared.counts.Counts.{Counts}
use Rattle.machine.specs.declared.memory.Memory.{Memory}
use Rattle.machine.specs.Meaning.{items}
use Rattle.holdings.specs.ImageLaws.{is_item}
use Rattle.machine.specs.Memory.{is_done, facts_of, IsOf}
use Rattle.machine.proofs.Coming.{is_itself, item_is_there, itself_number, same_number, the_item}
use Rattle.machine.proofs.Imaged.{state_done}
use Rattle.machine.proofs.InPlaceOrder.{told_of, value_of, its_found, its_rise, named, names_rise}
use Rattle.machine.proofs.Told.{kept, prescribed}

abbrev Entry : Type 0
Entry = ℤ × Producer

-- a value that is found is that of an entry, which is of the collection
value_told : (b : Bool) (o : Option Entry) (value : ℤ) → value_of b o ≡ Some value → (b ≡ true) × (by : Producer) × (o ≡ Some (value, by))
value_told false o value is = absurd (cc)
value_told true None value is = absurd (cc)
value_told true (Some there) value is = (let same : there.0 ≡ value = cc in (refl, there.1, λ i. Some (same i, there.1)))

module _ (one : OneFact) (m : Memory) where
  abbrev held : List (Place × Entry)
  held = entries m.items.items.items

  pub are_items_of : (collection : ItemCollection) → AreItemsOf (facts_of m) collection (told_of (of_number collection.0 held))
  are_items_of collection = record {
    rises = its_rise collection.0 held (entries_sorted m.items.items.items);
    each = λ address value.
        let there = its_found collection.0 held address ∙ ap (value_of (address.collection.0 == collection.0)) (sym (get-entries m.items.items.items (place address))) in (
          λ is.
              let it = value_told (address.collection.0 == collection.0) (item_at m.items address) value (sym there ∙ is) in
              (λ i. record { 0 = same_number address.collection.0 collection.0 it.0 i }, (it.1, item_is_there one address (item_at m.items address) value it.1 it.2)),
          λ it.
              there ∙ ap (λ (c : ItemCollection). value_of (c.0 == collection.0) (item_at m.items address)) it.0 ∙ ap (λ b. value_of b (item_at m.items address)) (itself_number collection.0)
              ∙ ap (value_of true) (the_item one address (item_at m.items address) value it.1.0 it.1.1),
        );
  }

  there_is_one : (address : Addr) (o : Option Entry) → is_some o ≡ true → (value : ℤ) × ((by : Producer) × (is_item o value by ≡ true))
  there_is_one address None some = absurd (false≢true some)
  there_is_one address (Some there) some = (there.0, (there.1, is_itself one address there.0 there.1))

  so_many_items : (count : ℕ) → count ≡ min (length held) (2 ^ 64 - 1) → AreSoMany addr_cmp (λ address. (value : ℤ) × items (facts_of m) address value) count
  so_many_items count is = record {
    list = map (λ entry. address_at entry.0) held;
    rises = names_rise addr_cmp address_at place (λ n q. refl) (λ q. refl) held (entries_sorted m.items.items.items);
    each = λ address.
        let there = named addr_cmp address_at place (λ n q. refl) (λ q. refl) held address ∙ ap is_some (sym (get-entries m.items.items.items (place address))) in (
          λ is. there_is_one address (item_at m.items address) (sym there ∙ is),
          λ it. there ∙ ap is_some (the_item one address (item_at m.items address) it.0 it.1.0 it.1.1),
        );
    told = is ∙ ap (λ n. min n (2 ^ 64 - 1)) (sym (length-map held (λ entry. address_at entry.0)));
  }

  abbrev marked : List (Place × Bool)
  marked = entries m.instances.tags.items

  so_many_tags : (count : ℕ) → count ≡ min (length marked) (2 ^ 64 - 1) → AreSoMany tag_cmp (λ name. facts_of m (tag name) ≡ true) count
  so_many_tags count is = record {
    list = map (λ entry. tag_at entry.0) marked;
    rises = names_rise tag_cmp tag_at tag_place (λ n q. refl) (λ q. refl) marked (entries_sorted m.instances.tags.items);
    each = λ name.
        let there = named tag_cmp tag_at tag_place (λ n q. refl) (λ q. refl) marked name ∙ ap is_some (sym (get-entries m.instances.tags.items (tag_place name))) in
        (λ is. sym there ∙ is, λ it. there ∙ it);
    told = is ∙ ap (λ n. min n (2 ^ 64 - 1)) (sym (length-map marked (λ entry. tag_at entry.0)));
  }

  so_many_done : (count : ℕ) → CountsDone m.instances count → AreSoMany inst_cmp (λ instance. facts_of m (done instance) ≡ true) count
  so_many_done count counted = record {
    list = counted.0;
    rises = counted.1.rises;
    each = λ instance. (λ is. ap is_done ((counted.1.each instance).0 is), λ it. (counted.1.each instance).1 (state_done _ it));
    told = counted.2;
  }

  module _ (total : IsTotalOrder key_cmp) (tie : IsAntisymmetric key_cmp) (g : Graph) (is : IsOf g m) (there : AreThereTogether m.instances) where
    state_is : (instance : Inst) (o : Option State) → state_at m.instances instance ≡ o → is_some o ≡ true → IsPrescribed g (facts_of m) instance
    state_is instance None here some = absurd (false≢true some)
    state_is instance (Some state) here some = prescribed total tie g m is there instance state here

    so_many_prescribed : (count : ℕ) → CountsAll m.instances count → AreSoMany inst_cmp (IsPrescribed g (facts_of m)) count
    so_many_prescribed count counted = record {
      list = counted.0;
      rises = counted.1.rises;
      each = λ instance. (
        λ here. state_is instance (state_at m.instances instance) refl ((counted.1.each instance).0 here),
        λ it. (counted.1.each instance).1 (there.together it.0 instance (kept total tie g m is it.0 instance it.2) ∙ it.1),
      );
      told = counted.2;
    }

    pub are_counts_of :
        (counts : Counts) → counts.items ≡ min (length held) (2 ^ 64 - 1) → counts.tags ≡ min (length marked) (2 ^ 64 - 1) → CountsAll m.instances counts.prescribed →
        CountsDone m.instances counts.done → AreCountsOf g (facts_of m) counts
    are_counts_of counts held_is marked_is all ended = record {
      items = so_many_items counts.items held_is;
      tags = so_many_tags counts.tags marked_is;
      prescribed = so_many_prescribed counts.prescribed all;
      done = so_many_done counts.done ended;
    }
