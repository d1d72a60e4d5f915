-- Events are read as they are spelled.
use Rattle.std.proofs.Common.{◌≡◌, ◌≤◌, ◌+◌, ◌^◌, ℕ, suc, zero, List, [], ◌∷◌, ◌++◌, length, Ok, refl, ap, subst, ◌∙◌, arith}
use Rattle.std.specs.Prelude.{⊤}
use Rattle.std.specs.List.{AllByRecursion}
use Rattle.byteorder.specs.Endian.{little_bytes}
use Rattle.terms.specs.declared.key.TheConstants.{MAX_COMPONENTS}
use Rattle.terms.specs.declared.name.Inst.{Inst}
use Rattle.terms.specs.declared.fault.FaultKind.{FaultKind}
use Rattle.terms.specs.declared.put.TheConstants.{MOST_PUTS}
use Rattle.terms.specs.declared.put.Put.{Put}
use Rattle.terms.specs.declared.event.Event.{Event}
use Rattle.terms.specs.declared.event.Event.TheVariants.{EnvItem, EnvTag, Done, Stopped}
use Rattle.terms.specs.Fault.{fault_number}
use Rattle.codec.specs.Laws.{AreBytes}
use Rattle.codec.specs.Spelling.{addr_bytes, value_bytes, tag_bytes, inst_bytes, put_bytes, list_bytes, event_bytes, IsName, IsPut, IsEvent}
use Rattle.codec.specs.Reading.{always, next, counted, instance, one_put, fault_kind, chosen, kinds, done, event}
use Rattle.codec.proofs.Agreeing.{Agrees, Reads, one_then, one_last}
use Rattle.codec.proofs.ChoiceLaws.{at_place, some_place}
use Rattle.codec.proofs.FieldLaws.{item_reads, tag_reads, instance_agrees, put_agrees, fault_kind_agrees}
use Rattle.codec.proofs.ListLaws.{counted_agrees}
use Rattle.codec.proofs.NumberLaws.{count_agrees}

module _ (most : ℕ) (few : most ≤ MAX_COMPONENTS) where
  abbrev ArePuts : List Put → Type 0
  ArePuts puts = (length puts ≤ MOST_PUTS) × AllByRecursion (IsPut most) puts

  done_reads : Reads {P = Inst × List Put} (λ p. IsName most p.0.collection.0 p.0.key × ArePuts p.1) (λ p. inst_bytes p.0 ++ list_bytes put_bytes p.1) (λ p. Done p.0 p.1) (done most)
  done_reads =
      one_then (λ i. IsName most i.collection.0 i.key) inst_bytes (instance most) ArePuts (list_bytes put_bytes) Done (λ i. next (counted 4 MOST_PUTS (one_put most)) (λ puts. always (Done i puts)))
      (instance_agrees most few) (λ i. one_last ArePuts (list_bytes put_bytes) (counted 4 MOST_PUTS (one_put most)) (Done i) (counted_agrees (IsPut most) put_bytes (one_put most) (put_agrees most few) 4 MOST_PUTS (2 ^ 32) (little_bytes 4) count_agrees (omega arith)))

  -- an instance and its kind of fault
  pub stopped_reads : {V : Type 0} (make : Inst → FaultKind → V)
      → Reads {P = Inst × FaultKind} (λ p. IsName most p.0.collection.0 p.0.key × ⊤) (λ p. inst_bytes p.0 ++ fault_number p.1 ∷ []) (λ p. make p.0 p.1) (next (instance most) (λ i. next fault_kind (λ kind. always (make i kind))))
  stopped_reads make =
      one_then (λ i. IsName most i.collection.0 i.key) inst_bytes (instance most) (λ _. ⊤) (λ kind. fault_number kind ∷ []) make (λ i. next fault_kind (λ kind. always (make i kind)))
      (instance_agrees most few) (λ i. one_last (λ _. ⊤) (λ kind. fault_number kind ∷ []) fault_kind (make i) fault_kind_agrees)

  pub event_agrees : Agrees (IsEvent most) event_bytes (event most)
  event_agrees = record { back = back; only = only }
    where
      back : (e : Event) (rest : List ℕ) → IsEvent most e → event most (event_bytes e ++ rest) ≡ Ok (e, rest)
      back (EnvItem a v) rest is = at_place 1 (kinds most) 1 (addr_bytes a ++ value_bytes v ++ rest) (omega arith) ∙ (item_reads most few EnvItem).back (a, v) rest is
      back (EnvTag t) rest is = at_place 1 (kinds most) 2 (tag_bytes t ++ rest) (omega arith) ∙ (tag_reads most few EnvTag).back t rest is
      back (Done i puts) rest is = at_place 1 (kinds most) 3 (inst_bytes i ++ list_bytes put_bytes puts ++ rest) (omega arith) ∙ done_reads.back (i, puts) rest (is.0, (is.1, is.2))
      back (Stopped i kind) rest is = at_place 1 (kinds most) 4 (inst_bytes i ++ fault_number kind ∷ [] ++ rest) (omega arith) ∙ (stopped_reads Stopped).back (i, kind) rest (is, tt)

      at : (place : ℕ) (tail : List ℕ) (e : Event) (rest : List ℕ) → AreBytes tail → chosen (kinds most) place tail ≡ Ok (e, rest) → IsEvent most e × ((place + 1) ∷ tail ≡ event_bytes e ++ rest)
      at zero tail e rest are is =
          let found = (item_reads most few EnvItem).only tail e rest are is in
          subst (λ x. IsEvent most x × (1 ∷ tail ≡ event_bytes x ++ rest)) found.1 (found.2, ap (λ (l : List ℕ). 1 ∷ l) found.3)
      at (suc zero) tail e rest are is =
          let found = (tag_reads most few EnvTag).only tail e rest are is in
          subst (λ x. IsEvent most x × (2 ∷ tail ≡ event_bytes x ++ rest)) found.1 (found.2, ap (λ (l : List ℕ). 2 ∷ l) found.3)
      at (suc (suc zero)) tail e rest are is =
          let found = done_reads.only tail e rest are is in
          subst (λ x. IsEvent most x × (3 ∷ tail ≡ event_bytes x ++ rest)) found.1 ((found.2.0, found.2.1.0, found.2.1.1), ap (λ (l : List ℕ). 3 ∷ l) found.3)
      at (suc (suc (suc zero))) tail e rest are is =
          let found = (stopped_reads Stopped).only tail e rest are is in
          subst (λ x. IsEvent most x × (4 ∷ tail ≡ event_bytes x ++ rest)) found.1 (found.2.0, ap (λ (l : List ℕ). 4 ∷ l) found.3)
      at (suc (suc (suc (suc place)))) tail e rest are is = absurd (cc)

      only : (bytes : List ℕ) (e : Event) (rest : List ℕ) → AreBytes bytes → event most bytes ≡ Ok (e, rest) → (x : Event) × (x ≡ e) × IsEvent most x × (bytes ≡ event_bytes x ++ rest)
      only bytes e rest are is =
          let there = some_place 1 (kinds most) bytes (e, rest) is in
          let are_tail : AreBytes there.1 = (subst AreBytes there.2 are).1 in
          let found = at there.0 there.1 e rest are_tail there.3 in
          (e, refl, found.0, there.2 ∙ found.1)
