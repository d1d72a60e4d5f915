-- Images are read as they are spelled.
use Rattle.std.proofs.Common.{◌≡◌, ◌<◌, ◌≤◌, ◌+◌, ℕ, ℤ, suc, zero, Bool, true, false, List, [], ◌∷◌, ◌++◌, Option, Some, None, Ok, refl, sym, ap, subst, ◌∙◌, arith, append_assoc}
use Rattle.std.specs.Prelude.{FitsSigned, ⊤, if◌then◌else◌}
use Rattle.std.specs.Int.{w64}
use Rattle.byteorder.specs.Endian.{little_bytes}
use Rattle.terms.specs.declared.key.TheConstants.{MAX_COMPONENTS}
use Rattle.terms.specs.declared.name.Addr.{Addr}
use Rattle.terms.specs.declared.name.Inst.{Inst}
use Rattle.terms.specs.declared.fault.FaultKind.{FaultKind}
use Rattle.terms.specs.declared.producer.Producer.{Producer}
use Rattle.terms.specs.declared.producer.Producer.TheVariants.{Env, By}
use Rattle.terms.specs.declared.put.TheConstants.{MOST_PUTS}
use Rattle.terms.specs.Name.{inst_cmp}
use Rattle.terms.specs.Fault.{fault_number}
use Rattle.codec.specs.declared.image.Image.{Image}
use Rattle.codec.specs.Entries.{Item, MarkedTag, item_cmp, marked_cmp}
use Rattle.codec.specs.Laws.{AreBytes}
use Rattle.codec.specs.Spelling.{addr_bytes, value_bytes, tag_bytes, inst_bytes, producer_bytes, item_bytes, marked_bytes, fault_bytes, list_bytes, image_bytes, IsName, IsInstance, IsMarked, IsProducer, IsItem, IsFault, IsList, IsImage}
use Rattle.codec.specs.Reading.{Reading, always, next, address, value, tag, instance, chosen, put_number, by_instance, producer, item, mark, marked, list, some_fault, image_fault, image}
use Rattle.codec.proofs.Agreeing.{Agrees, Reads, same_read, one_then, one_last, of_other_parts}
use Rattle.codec.proofs.ChoiceLaws.{at_place, some_place}
use Rattle.codec.proofs.EventLaws.{stopped_reads}
use Rattle.codec.proofs.FieldLaws.{address_agrees, tag_agrees, instance_agrees}
use Rattle.codec.proofs.ListLaws.{list_agrees}
use Rattle.codec.proofs.NumberLaws.{count_agrees, value_agrees, put_number_agrees}

module _ (most : ℕ) (few : most ≤ MAX_COMPONENTS) where
  -- ---- producers

  by_reads : Reads {P = Inst × ℕ} (λ p. IsName most p.0.collection.0 p.0.key × (p.1 < MOST_PUTS)) (λ p. inst_bytes p.0 ++ little_bytes 4 p.1) (λ p. By p.0 p.1) (by_instance most)
  by_reads =
      one_then (λ i. IsName most i.collection.0 i.key) inst_bytes (instance most) (λ n. n < MOST_PUTS) (little_bytes 4) By (λ i. next put_number (λ n. always (By i n)))
      (instance_agrees most few) (λ i. one_last (λ n. n < MOST_PUTS) (little_bytes 4) put_number (By i) put_number_agrees)

  abbrev producers : List (Reading Producer)
  producers = always Env ∷ by_instance most ∷ []

  producer_agrees : Agrees (IsProducer most) producer_bytes (producer most)
  producer_agrees = record { back = back; only = only }
    where
      back : (p : Producer) (rest : List ℕ) → IsProducer most p → producer most (producer_bytes p ++ rest) ≡ Ok (p, rest)
      back Env rest is = at_place 0 producers 0 rest (omega arith)
      back (By i n) rest is = at_place 0 producers 1 (inst_bytes i ++ little_bytes 4 n ++ rest) (omega arith) ∙ by_reads.back (i, n) rest is

      at : (place : ℕ) (tail : List ℕ) (p : Producer) (rest : List ℕ) → AreBytes tail → chosen producers place tail ≡ Ok (p, rest) → IsProducer most p × ((place + 0) ∷ tail ≡ producer_bytes p ++ rest)
      at zero tail p rest are is =
          let same = same_read Env p tail rest is in
          subst (λ q. IsProducer most q × (0 ∷ tail ≡ producer_bytes q ++ rest)) same.0 (tt, ap (λ (l : List ℕ). 0 ∷ l) same.1)
      at (suc zero) tail p rest are is =
          let found = by_reads.only tail p rest are is in
          subst (λ q. IsProducer most q × (1 ∷ tail ≡ producer_bytes q ++ rest)) found.1 (found.2, ap (λ (l : List ℕ). 1 ∷ l) found.3)
      at (suc (suc place)) tail p rest are is = absurd (cc)

      only : (bytes : List ℕ) (p : Producer) (rest : List ℕ) → AreBytes bytes → producer most bytes ≡ Ok (p, rest) → (q : Producer) × (q ≡ p) × IsProducer most q × (bytes ≡ producer_bytes q ++ rest)
      only bytes p rest are is =
          let there = some_place 0 producers bytes (p, rest) is in
          let are_tail : AreBytes there.1 = (subst AreBytes there.2 are).1 in
          let found = at there.0 there.1 p rest are_tail there.3 in
          (p, refl, found.0, there.2 ∙ found.1)

  -- ---- items

  value_producer_reads : (a : Addr) → Reads {P = ℤ × Producer} {V = Item} (λ p. FitsSigned w64 p.0 × IsProducer most p.1) (λ p. value_bytes p.0 ++ producer_bytes p.1) (λ p. (a, p.0, p.1)) (next value (λ v. next (producer most) (λ by. always (a, v, by))))
  value_producer_reads a =
      one_then (FitsSigned w64) value_bytes value (IsProducer most) producer_bytes (λ v by. (a, v, by)) (λ v. next (producer most) (λ by. always (a, v, by)))
      value_agrees (λ v. one_last (IsProducer most) producer_bytes (producer most) (λ by. (a, v, by)) producer_agrees)

  abbrev ItemParts : Type 0
  ItemParts = Addr × (ℤ × Producer)

  item_agrees : Agrees (IsItem most) item_bytes (item most)
  item_agrees =
      of_other_parts {P = ItemParts} {Q = Item} {V = Item} (λ p. IsName most p.0.collection.0 p.0.key × (FitsSigned w64 p.1.0 × IsProducer most p.1.1)) (λ p. addr_bytes p.0 ++ (value_bytes p.1.0 ++ producer_bytes p.1.1)) (λ p. (p.0, p.1.0, p.1.1))
      (IsItem most) item_bytes (λ i. i) (item most)
      (one_then (λ a. IsName most a.collection.0 a.key) addr_bytes (address most) (λ (p : ℤ × Producer). FitsSigned w64 p.0 × IsProducer most p.1) (λ p. value_bytes p.0 ++ producer_bytes p.1) (λ a p. (a, p.0, p.1))
      (λ a. next value (λ v. next (producer most) (λ by. always (a, v, by)))) (address_agrees most few) value_producer_reads)
      (λ i. (i.0, (i.1, i.2))) (λ i is. ((is.0, (is.1, is.2)), refl, append_assoc (addr_bytes i.0) (value_bytes i.1) (producer_bytes i.2)))
      (λ p. (p.0, p.1.0, p.1.1)) (λ p is. ((is.0, is.1.0, is.1.1), refl, sym (append_assoc (addr_bytes p.0) (value_bytes p.1.0) (producer_bytes p.1.1))))

  -- ---- tags

  abbrev marks : List (Reading Bool)
  marks = always false ∷ always true ∷ []

  abbrev mark_bytes : Bool → List ℕ
  mark_bytes m = (if m then 1 else 0) ∷ []

  mark_agrees : Agrees (λ _. ⊤) mark_bytes mark
  mark_agrees = record { back = back; only = only }
    where
      back : (m : Bool) (rest : List ℕ) → ⊤ → mark (mark_bytes m ++ rest) ≡ Ok (m, rest)
      back false rest is = at_place 0 marks 0 rest (omega arith)
      back true rest is = at_place 0 marks 1 rest (omega arith)

      at : (place : ℕ) (tail : List ℕ) (m : Bool) (rest : List ℕ) → chosen marks place tail ≡ Ok (m, rest) → (place + 0) ∷ tail ≡ mark_bytes m ++ rest
      at zero tail m rest is =
          let same = same_read false m tail rest is in
          subst (λ k. 0 ∷ tail ≡ mark_bytes k ++ rest) same.0 (ap (λ (l : List ℕ). 0 ∷ l) same.1)
      at (suc zero) tail m rest is =
          let same = same_read true m tail rest is in
          subst (λ k. 1 ∷ tail ≡ mark_bytes k ++ rest) same.0 (ap (λ (l : List ℕ). 1 ∷ l) same.1)
      at (suc (suc place)) tail m rest is = absurd (cc)

      only : (bytes : List ℕ) (m : Bool) (rest : List ℕ) → AreBytes bytes → mark bytes ≡ Ok (m, rest) → (k : Bool) × (k ≡ m) × ⊤ × (bytes ≡ mark_bytes k ++ rest)
      only bytes m rest are is =
          let there = some_place 0 marks bytes (m, rest) is in
          (m, refl, tt, there.2 ∙ at there.0 there.1 m rest there.3)

  marked_agrees : Agrees (IsMarked most) marked_bytes (marked most)
  marked_agrees =
      of_other_parts {P = MarkedTag} {Q = MarkedTag} {V = MarkedTag} (λ p. IsName most p.0.collection.0 p.0.key × ⊤) (λ p. tag_bytes p.0 ++ mark_bytes p.1) (λ p. (p.0, p.1)) (IsMarked most) marked_bytes (λ m. m) (marked most)
      (one_then (λ t. IsName most t.collection.0 t.key) tag_bytes (tag most) (λ _. ⊤) mark_bytes (λ t m. (t, m)) (λ t. next mark (λ m. always (t, m)))
      (tag_agrees most few) (λ t. one_last (λ _. ⊤) mark_bytes mark (λ m. (t, m)) mark_agrees))
      (λ m. m) (λ m is. ((is, tt), refl, refl))
      (λ m. m) (λ m is. (is.0, refl, refl))

  -- ---- the instance at fault

  abbrev Fault : Type 0
  Fault = Option (Inst × FaultKind)

  abbrev faults : List (Reading Fault)
  faults = always None ∷ some_fault most ∷ []

  abbrev make_fault : Inst → FaultKind → Fault
  make_fault i kind = Some (i, kind)

  fault_agrees : Agrees (IsFault most) fault_bytes (image_fault most)
  fault_agrees = record { back = back; only = only }
    where
      back : (f : Fault) (rest : List ℕ) → IsFault most f → image_fault most (fault_bytes f ++ rest) ≡ Ok (f, rest)
      back None rest is = at_place 0 faults 0 rest (omega arith)
      back (Some f) rest is = at_place 0 faults 1 (inst_bytes f.0 ++ fault_number f.1 ∷ [] ++ rest) (omega arith) ∙ (stopped_reads most few make_fault).back (f.0, f.1) rest (is, tt)

      at : (place : ℕ) (tail : List ℕ) (f : Fault) (rest : List ℕ) → AreBytes tail → chosen faults place tail ≡ Ok (f, rest) → IsFault most f × ((place + 0) ∷ tail ≡ fault_bytes f ++ rest)
      at zero tail f rest are is =
          let same = same_read None f tail rest is in
          subst (λ g. IsFault most g × (0 ∷ tail ≡ fault_bytes g ++ rest)) same.0 (tt, ap (λ (l : List ℕ). 0 ∷ l) same.1)
      at (suc zero) tail f rest are is =
          let found = (stopped_reads most few make_fault).only tail f rest are is in
          subst (λ g. IsFault most g × (1 ∷ tail ≡ fault_bytes g ++ rest)) found.1 (found.2.0, ap (λ (l : List ℕ). 1 ∷ l) found.3)
      at (suc (suc place)) tail f rest are is = absurd (cc)

      only : (bytes : List ℕ) (f : Fault) (rest : List ℕ) → AreBytes bytes → image_fault most bytes ≡ Ok (f, rest) → (g : Fault) × (g ≡ f) × IsFault most g × (bytes ≡ fault_bytes g ++ rest)
      only bytes f rest are is =
          let there = some_place 0 faults bytes (f, rest) is in
          let are_tail : AreBytes there.1 = (subst AreBytes there.2 are).1 in
          let found = at there.0 there.1 f rest are_tail there.3 in
          (f, refl, found.0, there.2 ∙ found.1)

  -- ---- images

  abbrev AreItems : List Item → Type 0
  AreItems = IsList (IsItem most) item_cmp

  abbrev AreTags : List MarkedTag → Type 0
  AreTags = IsList (IsMarked most) marked_cmp

  abbrev AreInstances : List Inst → Type 0
  AreInstances = IsList (IsInstance most) inst_cmp

  abbrev made : Fault → List Item → List MarkedTag → List Inst → Image
  made f items tags done = record { fault = f; items = items; tags = tags; done = done }

  done_reads : (f : Fault) (items : List Item) (tags : List MarkedTag) → Reads AreInstances (list_bytes inst_bytes) (made f items tags) (next (list inst_cmp (instance most)) (λ done. always (made f items tags done)))
  done_reads f items tags = one_last AreInstances (list_bytes inst_bytes) (list inst_cmp (instance most)) (made f items tags) (list_agrees (IsInstance most) inst_bytes (instance most) (instance_agrees most few) inst_cmp count_agrees)

  tags_reads : (f : Fault) (items : List Item) → Reads {P = List MarkedTag × List Inst} (λ p. AreTags p.0 × AreInstances p.1) (λ p. list_bytes marked_bytes p.0 ++ list_bytes inst_bytes p.1) (λ p. made f items p.0 p.1)
      (next (list marked_cmp (marked most)) (λ tags. next (list inst_cmp (instance most)) (λ done. always (made f items tags done))))
  tags_reads f items =
      one_then AreTags (list_bytes marked_bytes) (list marked_cmp (marked most)) AreInstances (list_bytes inst_bytes) (λ tags done. made f items tags done) (λ tags. next (list inst_cmp (instance most)) (λ done. always (made f items tags done)))
      (list_agrees (IsMarked most) marked_bytes (marked most) marked_agrees marked_cmp count_agrees) (done_reads f items)

  abbrev Lists : Type 0
  Lists = List Item × (List MarkedTag × List Inst)

  items_reads : (f : Fault) → Reads {P = Lists} (λ p. AreItems p.0 × (AreTags p.1.0 × AreInstances p.1.1)) (λ p. list_bytes item_bytes p.0 ++ (list_bytes marked_bytes p.1.0 ++ list_bytes inst_bytes p.1.1)) (λ p. made f p.0 p.1.0 p.1.1)
      (next (list item_cmp (item most)) (λ items. next (list marked_cmp (marked most)) (λ tags. next (list inst_cmp (instance most)) (λ done. always (made f items tags done)))))
  items_reads f =
      one_then AreItems (list_bytes item_bytes) (list item_cmp (item most)) (λ (p : List MarkedTag × List Inst). AreTags p.0 × AreInstances p.1) (λ p. list_bytes marked_bytes p.0 ++ list_bytes inst_bytes p.1) (λ items p. made f items p.0 p.1)
      (λ items. next (list marked_cmp (marked most)) (λ tags. next (list inst_cmp (instance most)) (λ done. always (made f items tags done))))
      (list_agrees (IsItem most) item_bytes (item most) item_agrees item_cmp count_agrees) (tags_reads f)

  regrouped : (a b c d : List ℕ) → a ++ b ++ c ++ d ≡ a ++ (b ++ (c ++ d))
  regrouped a b c d = append_assoc (a ++ b) c d ∙ append_assoc a b (c ++ d)

  abbrev ImageParts : Type 0
  ImageParts = Fault × Lists

  pub image_agrees : Agrees (IsImage most) image_bytes (image most)
  image_agrees =
      of_other_parts {P = ImageParts} {Q = Image} {V = Image}
      (λ p. IsFault most p.0 × (AreItems p.1.0 × (AreTags p.1.1.0 × AreInstances p.1.1.1)))
      (λ p. fault_bytes p.0 ++ (list_bytes item_bytes p.1.0 ++ (list_bytes marked_bytes p.1.1.0 ++ list_bytes inst_bytes p.1.1.1)))
      (λ p. made p.0 p.1.0 p.1.1.0 p.1.1.1)
      (IsImage most) image_bytes (λ i. i) (image most)
      (one_then (IsFault most) fault_bytes (image_fault most) (λ (p : Lists). AreItems p.0 × (AreTags p.1.0 × AreInstances p.1.1)) (λ p. list_bytes item_bytes p.0 ++ (list_bytes marked_bytes p.1.0 ++ list_bytes inst_bytes p.1.1)) (λ f p. made f p.0 p.1.0 p.1.1)
      (λ f. next (list item_cmp (item most)) (λ items. next (list marked_cmp (marked most)) (λ tags. next (list inst_cmp (instance most)) (λ done. always (made f items tags done))))) fault_agrees items_reads)
      (λ i. (i.fault, (i.items, (i.tags, i.done)))) (λ i is. ((is.fault, (is.items, (is.tags, is.done))), refl, regrouped (fault_bytes i.fault) (list_bytes item_bytes i.items) (list_bytes marked_bytes i.tags) (list_bytes inst_bytes i.done)))
      (λ p. made p.0 p.1.0 p.1.1.0 p.1.1.1)
      (λ p is. (record { fault = is.0; items = is.1.0; tags = is.1.1.0; done = is.1.1.1 }, refl, sym (regrouped (fault_bytes p.0) (list_bytes item_bytes p.1.0) (list_bytes marked_bytes p.1.1.0) (list_bytes inst_bytes p.1.1.1))))
