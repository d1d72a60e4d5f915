-- Puts that are new can be taken if there is room for them.
use Rattle.std.proofs.Common.{◌≡◌, ap, sym, refl, subst, ℕ, zero, suc, ◌<◌, ◌≤◌, List, [], ◌∷◌, ◌++◌, length, slice_get, Some, arith}
use Rattle.std.specs.List.{AllByRecursion}
use Rattle.terms.specs.declared.name.Addr.{Addr}
use Rattle.terms.specs.declared.name.TagCollection.{TagCollection}
use Rattle.terms.specs.declared.put.Put.{Put}
use Rattle.terms.specs.declared.put.Put.TheVariants as put
use Rattle.graph.specs.Graph.{Graph}
use Rattle.graph.specs.Fits.{addresses, IsIn, IsTwiceIn, IsAbsent, PutIsOf}
use Rattle.items.specs.Held.{Held}
use Rattle.items.specs.Held as items
use Rattle.instances.specs.Known as instances
use Rattle.machine.specs.declared.memory.Memory.{Memory}
use Rattle.machine.specs.Memory.{facts_of}
use Rattle.machine.specs.Coming.{AreFree, IsFree}
use Rattle.machine.specs.Machine.{HasRoom}
use Rattle.machine.proofs.Growing.{in_later}
use Rattle.machine.specs.Putting.{items_to, tags_to, HasRoomFor}

within : {X : Type 0} (xs : List X) (n : ℕ) (x : X) → slice_get xs n ≡ Some x → n < length xs
within [] n x is = absurd (nothing n is)
  where
    nothing : (n : ℕ) → slice_get [] n ≡ Some x → ⊥
    nothing n is = cc
within (first ∷ xs) zero x is = omega arith
within (first ∷ xs) (suc n) x is = omega (arith, within xs n x is)

pub the_only : (a b : Addr) → IsIn a (b ∷ []) → a ≡ b
the_only a b ([], behind, is) = first_of is
  where
    first_of : b ∷ [] ≡ a ∷ behind → a ≡ b
    first_of is = cc
the_only a b (x ∷ [], behind, is) = absurd (longer is)
  where
    longer : b ∷ [] ≡ x ∷ a ∷ behind → ⊥
    longer is = cc
the_only a b (x ∷ y ∷ before, behind, is) = absurd (longer is)
  where
    longer : b ∷ [] ≡ x ∷ y ∷ before ++ a ∷ behind → ⊥
    longer is = cc

twice : (a : Addr) (list : List Addr) → IsIn a list → IsTwiceIn a (a ∷ list)
twice a list is = ([], is.0, is.1, ap (λ (l : List Addr). a ∷ l) is.2)

twice_later : (a : Addr) (first : Put) (puts : List Put) → IsTwiceIn a (addresses puts) → IsTwiceIn a (addresses (first ∷ puts))
twice_later a (put.Item b value) puts is = (b ∷ is.0, is.1, is.2, ap (λ (l : List Addr). b ∷ l) is.3)
twice_later a (put.Tag name) puts is = is

module _ (g : Graph) (m : Memory) (rooms : length m.items.items.room ≡ length g.items) where
  pub one_is_free : (one : Put) → PutIsOf g one → ((a : Addr) → IsIn a (addresses (one ∷ [])) → IsAbsent (facts_of m) a) → IsFree m one
  one_is_free (put.Item a value) of_graph absent = (
    absent a ([], [], refl),
    subst (λ (n : ℕ). a.collection.0 < n) (sym rooms) (within g.items a.collection.0 of_graph.0 of_graph.1),
  )
  one_is_free (put.Tag name) of_graph absent = tt

  pub are_free : (puts : List Put) → AllByRecursion (PutIsOf g) puts
      → ((a : Addr) → IsIn a (addresses puts) → IsAbsent (facts_of m) a) → ((a : Addr) → IsTwiceIn a (addresses puts) → ⊥) → AreFree m puts
  are_free [] of_graph absent distinct = tt
  are_free (one ∷ puts) of_graph absent distinct = (
    one_is_free one of_graph.0 (λ a is. absent a (its one a is)),
    λ a here there. apart one a here there distinct,
    are_free puts of_graph.1 (λ a is. absent a (in_later a one puts is)) (λ a is. distinct a (twice_later a one puts is)),
  )
    where
      its : (one : Put) (a : Addr) → IsIn a (addresses (one ∷ [])) → IsIn a (addresses (one ∷ puts))
      its (put.Item b value) a is = ([], addresses puts, ap (λ (x : Addr). x ∷ addresses puts) (sym (the_only a b is)))
      its (put.Tag name) a is = absurd (nowhere is.0 is.2)
        where
          nowhere : (before : List Addr) → [] ≡ before ++ a ∷ is.1 → ⊥
          nowhere [] none = cc
          nowhere (x ∷ before) none = cc

      apart : (one : Put) (a : Addr) → IsIn a (addresses (one ∷ [])) → IsIn a (addresses puts) → ((b : Addr) → IsTwiceIn b (addresses (one ∷ puts)) → ⊥) → ⊥
      apart (put.Item b value) a here there distinct = distinct b (twice b (addresses puts) (subst (λ (x : Addr). IsIn x (addresses puts)) (the_only a b here) there))
      apart (put.Tag name) a here there distinct = nowhere here.0 here.2
        where
          nowhere : (before : List Addr) → [] ≡ before ++ a ∷ here.1 → ⊥
          nowhere [] none = cc
          nowhere (x ∷ before) none = cc

  -- the room stays if the items and the room of tags stay
  pub with_room : (old : Memory) → m.items ≡ old.items → ((c : TagCollection) → instances.room_for m.instances c ≡ instances.room_for old.instances c)
      → (puts : List Put) → HasRoom (record { graph = g; memory = old }) puts → HasRoomFor m puts
  with_room old items_same tags puts room = record {
    items = λ c. subst (λ (h : Held). items_to c puts ≤ items.room_for h c) (sym items_same) (room.items c);
    tags = λ c. subst (λ (n : ℕ). tags_to c puts ≤ n) (sym (tags c)) (room.tags c);
  }
