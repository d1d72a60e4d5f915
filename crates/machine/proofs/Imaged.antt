-- What a store holds is what its lists say, and these rise.
use Rattle.std.proofs.Common.{◌≡◌, ◌∙◌, ap, sym, refl, true, ℕ, List, [], ◌∷◌, ◌++◌, length, map, append_assoc, Option, Some, None}
use Rattle.std.proofs.lemmas.Bool.{false≢true}
use Rattle.std.specs.List.{flat_map, list_any, AllByRecursion}
use Rattle.std.specs.List.Sorted.{IsStrictlySortedBy}
use Rattle.std.specs.Ordering.{eq_by_cmp}
use Rattle.byteorder.specs.Endian.{little_bytes}
use Rattle.terms.specs.declared.key.TheConstants.{MAX_COMPONENTS}
use Rattle.terms.specs.declared.name.Inst.{Inst}
use Rattle.terms.specs.declared.producer.Producer.{Producer}
use Rattle.terms.specs.declared.producer.Producer.TheVariants.{Env, By}
use Rattle.terms.specs.Name.{inst_cmp}
use Rattle.terms.specs.Facts.{Fact, tag, item, done, bad}
use Rattle.terms.specs.Sets.{among, OneFact, AmongBoth}
use Rattle.codec.specs.declared.image.Image.{Image}
use Rattle.codec.specs.Entries.{Item, MarkedTag, Rises}
use Rattle.codec.specs.Image.{Lists, IsListed, environment_in, facts_in, fault_facts}
use Rattle.codec.specs.Spelling.{HasPutNumber, IsNumbered, IsFault, IsItem, IsMarked, IsInstance, fault_bytes, item_bytes, marked_bytes, inst_bytes, list_bytes}
use Rattle.instances.specs.declared.state.State.{State}
use Rattle.instances.specs.declared.state.State.TheVariants.{Ready, Running, Waiting, Done}
use Rattle.instances.specs.Known.{state_at}
use Rattle.instances.specs.Listed.{AreTheDone}
use Rattle.graph.specs.Graph.{Graph}
use Rattle.holdings.specs.ImageLaws.{ImagesTell, TellsOf, TellsRest, is_fault}
use Rattle.machine.specs.declared.memory.Memory.{Memory}
use Rattle.machine.specs.Imaging.{SpellsAll, items_in, tags_in}
use Rattle.machine.specs.Machine.{Machine}
use Rattle.machine.specs.Memory.{is_done, facts_of, environment_of, IsOf}
use Rattle.machine.specs.Walks.{IsFrontOf}
use Rattle.machine.proofs.Sets.{same_truth, the_first, behind_first, in_one, in_two}

pub state_done : (o : Option State) → is_done o ≡ true → o ≡ Some Done
state_done None is = absurd (false≢true is)
state_done (Some Ready) is = absurd (false≢true is)
state_done (Some Running) is = absurd (false≢true is)
state_done (Some (Waiting address)) is = absurd (false≢true is)
state_done (Some Done) is = refl

done_rise : (list : List Inst) → IsStrictlySortedBy inst_cmp list → Rises inst_cmp list
unfolding IsStrictlySortedBy
done_rise [] rises = tt
done_rise (x ∷ []) rises = tt
done_rise (x ∷ y ∷ list) rises = (rises.0.0, done_rise (y ∷ list) rises.1)

-- an item that an image lists is a fact of it
abbrev item_fact : Item → Fact
item_fact it = item it.0 it.1 it.2

module _ (told : OneFact) (both : AmongBoth) (maps : ImagesTell) (g : Graph) (m : Memory) (image : Image) (items : image.items ≡ items_in m.items) (tags : image.tags ≡ tags_in m.instances) where
  pub tells : TellsOf image m.items.items.items m.instances.tags.items
  tells = maps image m.items.items.items m.instances.tags.items items tags

  is_fact_of : (fact : Fact) → among (map item_fact image.items) fact ≡ true → facts_in image fact ≡ true
  is_fact_of fact there =
      let before = fault_facts image.fault ++ map item_fact image.items in
      let marked = map (λ one. tag one.0) image.tags in
      in_one both (before ++ marked) (map done image.done) fact (in_one both before marked fact (in_two both (fault_facts image.fault) (map item_fact image.items) fact there))

  each_numbered : (list : List Item) → ((fact : Fact) → among (map item_fact list) fact ≡ true → facts_in image fact ≡ true) → IsOf g m → AllByRecursion HasPutNumber list
  each_numbered [] known is = tt
  each_numbered (it ∷ list) known is = (
    numbered it.2 (sym (tells.of_items it.0 it.1 it.2) ∙ known (item_fact it) (the_first told (item_fact it) (map item_fact list))),
    each_numbered list (λ fact there. known fact (behind_first told (item_fact it) (map item_fact list) fact there)) is,
  )
    where
      numbered : (p : Producer) → facts_of m (item it.0 it.1 p) ≡ true → IsNumbered p
      numbered Env there = tt
      numbered (By i n) there = is.numbered it.0 it.1 i n there

  -- the numbers of the puts are numbers that a put may have
  pub all_numbered : IsOf g m → AllByRecursion HasPutNumber image.items
  all_numbered = each_numbered image.items is_fact_of

-- so are those of the items that are held
pub held_numbered : OneFact → AmongBoth → ImagesTell → (g : Graph) (m : Memory) → IsOf g m → AllByRecursion HasPutNumber (items_in m.items)
held_numbered told both maps g m = all_numbered told both maps g m (record { fault = None; items = items_in m.items; tags = tags_in m.instances; done = [] }) refl refl

module _ (told : OneFact) (both : AmongBoth) (maps : ImagesTell) (rest : (image : Image) → TellsRest image) (g : Graph) (m : Memory) (image : Image) (fault : image.fault ≡ m.fault)
    (items : image.items ≡ items_in m.items) (tags : image.tags ≡ tags_in m.instances) (ended : AreTheDone m.instances image.done) where
  abbrev of_maps : TellsOf image m.items.items.items m.instances.tags.items
  of_maps = tells told both maps g m image items tags

  facts : (fact : Fact) → facts_in image fact ≡ facts_of m fact
  facts (tag name) = of_maps.of_tags name
  facts (item a v p) = of_maps.of_items a v p
  facts (done i) =
      (rest image).of_done i
      ∙ same_truth (list_any (eq_by_cmp inst_cmp i) image.done) (is_done (state_at m.instances i)) (λ is. ap is_done ((ended.each i).0 is)) (λ is. (ended.each i).1 (state_done (state_at m.instances i) is))
  facts (bad i kind) = (rest image).of_fault i kind ∙ ap (λ f. is_fault f i kind) fault

  given : (fact : Fact) → environment_in image fact ≡ environment_of m fact
  given (tag name) = of_maps.given_tags name
  given (item a v Env) = of_maps.given_items a v
  given (item a v (By i n)) = (rest image).given_by a v i n
  given (done i) = (rest image).given_done i
  given (bad i kind) = (rest image).given_fault i kind

  pub lists_all : Lists image (environment_of m) (facts_of m)
  lists_all = record { facts = facts; environment = given }

  pub all_listed : IsOf g m → IsListed image
  all_listed is = record { items_rise = of_maps.items_rise; tags_rise = of_maps.tags_rise; done_rise = done_rise image.done ended.rises; numbered = all_numbered told both maps g m image items tags is }

-- the bytes of a fault and of three lists, each behind its number, which have just the entries that the store holds, spell all of it
module _ (told : OneFact) (both : AmongBoth) (maps : ImagesTell) (rest : (image : Image) → TellsRest image) (m : Machine) (ended : List Inst) (are : AreTheDone m.memory.instances ended) (is : IsOf m.graph m.memory) (fault : IsFault MAX_COMPONENTS m.memory.fault) where
  abbrev items : List Item
  items = items_in m.memory.items

  abbrev tags : List MarkedTag
  tags = tags_in m.memory.instances

  abbrev all : Image
  all = record { fault = m.memory.fault; items = items; tags = tags; done = ended }

  listed : IsListed all
  listed = all_listed told both maps rest m.graph m.memory all refl refl refl are is

  pub spells_all :
      (first of_items of_tags of_done bytes one two three : List ℕ) (size_one size_two size_three : ℕ) → IsFrontOf (flat_map item_bytes) length (AllByRecursion (IsItem MAX_COMPONENTS)) items first of_items size_one →
      IsFrontOf (flat_map marked_bytes) length (AllByRecursion (IsMarked MAX_COMPONENTS)) tags [] of_tags size_two → IsFrontOf (flat_map inst_bytes) length (AllByRecursion (IsInstance MAX_COMPONENTS)) ended [] of_done size_three →
      first ≡ fault_bytes m.memory.fault → one ≡ of_items ++ flat_map item_bytes items → two ≡ of_tags ++ flat_map marked_bytes tags → three ≡ of_done ++ flat_map inst_bytes ended → bytes ≡ one ++ two ++ three → SpellsAll m bytes
  spells_all first of_items of_tags of_done bytes one two three size_one size_two size_three front_items front_tags front_done first_is one_is two_is three_is bytes_is = record {
    image = all;
    listed = listed;
    lists = lists_all told both maps rest m.graph m.memory all refl refl refl are;
    spelled =
        bytes_is
        ∙ ap (λ xs. xs ++ two ++ three) (one_is ∙ ap (λ xs. xs ++ flat_map item_bytes items) (front_items.spelled ∙ ap (λ xs. xs ++ little_bytes 4 (length items)) first_is) ∙ append_assoc (fault_bytes m.memory.fault) (little_bytes 4 (length items)) (flat_map item_bytes items))
        ∙ ap (λ xs. fault_bytes m.memory.fault ++ list_bytes item_bytes items ++ xs ++ three) (two_is ∙ ap (λ xs. xs ++ flat_map marked_bytes tags) front_tags.spelled)
        ∙ ap (λ xs. fault_bytes m.memory.fault ++ list_bytes item_bytes items ++ list_bytes marked_bytes tags ++ xs) (three_is ∙ ap (λ xs. xs ++ flat_map inst_bytes ended) front_done.spelled);
    is_image = record {
      fault = fault;
      items = record { few = front_items.few; each = front_items.in_range; rises = listed.items_rise };
      tags = record { few = front_tags.few; each = front_tags.in_range; rises = listed.tags_rise };
      done = record { few = front_done.few; each = front_done.in_range; rises = listed.done_rise };
    };
  }
