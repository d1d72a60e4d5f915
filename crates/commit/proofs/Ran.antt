-- What an instance that runs reads and comes to, over the items of a store.
use Rattle.std.proofs.Common.{◌≡◌, ◌∙◌, ℕ, ℤ, Bool, true, false, length, Option, Some, sym, ap, refl}
use Rattle.std.proofs.lemmas.Bool.{false≢true}
use Rattle.std.specs.Prelude.{slice_get, is_some}
use Rattle.terms.specs.declared.name.Addr.{Addr}
use Rattle.terms.specs.declared.name.Inst.{Inst}
use Rattle.terms.specs.Facts.{tag, item}
use Rattle.steptree.specs.Nameable.{Collection}
use Rattle.steplang.specs.Running.{Running, IsDue, reads_with}
use Rattle.graph.specs.Graph.{Graph}
use Rattle.graph.specs.Fits.{AddressIsOf, InstanceIsOf, FitsState, IsAbsent}
use Rattle.machine.specs.declared.refusal.Refusal.{Refusal}
use Rattle.machine.specs.declared.refusal.Refusal.TheVariants.{NoSuchCollection, NotFromEnvironment, WrongArity, AlreadyPut, Stopped, Repeat}
use Rattle.machine.specs.Machine.{Machine, RefusesRead, facts, environment, state_of}
use Rattle.machine.specs.Promise.{IsKept}
use Rattle.machine.specs.Results.{AreItems}

same_collection : {a b : Collection} → Some a ≡ Some b → a ≡ b
same_collection same = cc

-- ---- instances

-- an instance that has a state is of the graph
pub instance_is_of : (m : Machine) → IsKept m → (instance : Inst) → is_some (state_of m instance) ≡ true → InstanceIsOf m.graph instance
instance_is_of m kept instance has =
    let prescribed = (kept.prescribed instance).0 has in
    let it = prescribed.2 in
    let of_graph = (kept.graph.steps instance.collection.0 it.step it.is_step).prescribed in
    let of_tag = kept.fits.of_graph (tag prescribed.0) prescribed.1 in
    let one : of_graph.0 ≡ of_tag.0 = same_collection (sym of_graph.1 ∙ ap (λ (n : ℕ). slice_get m.graph.tags n) it.prescriber ∙ of_tag.1) in
    (it.step, it.is_step, sym of_graph.2 ∙ ap (λ (c : Collection). c.components) one ∙ of_tag.2 ∙ ap length it.key)

-- ---- reads

not_true : (b : Bool) → (b ≡ true → ⊥) → b ≡ false
not_true false never = refl
not_true true never = elim (never refl) [ ]

pub refutes : (g : Graph) (address : Addr) (refusal : Refusal) → RefusesRead g address refusal → AddressIsOf g address → ⊥
refutes g address NoSuchCollection refuses there = false≢true (ap is_some (sym refuses ∙ there.1))
refutes g address WrongArity refuses there = refuses.2 (ap (λ (c : Collection). c.components) (same_collection (sym refuses.1 ∙ there.1)) ∙ there.2)
refutes g address NotFromEnvironment refuses there = refuses
refutes g address (Stopped instance kind) refuses there = refuses
refutes g address (AlreadyPut value) refuses there = refuses
refutes g address Repeat refuses there = refuses

-- at an address that may not be read there is no item
pub refused_is_absent : (m : Machine) → FitsState m.graph (environment m) (facts m) → (address : Addr) (refusal : Refusal) → RefusesRead m.graph address refusal → IsAbsent (facts m) address
refused_is_absent m fits address refusal refuses value by =
    not_true (facts m (item address value by)) (λ there. refutes m.graph address refusal refuses (fits.of_graph (item address value by) there))

-- ---- a run

-- the run goes on with this answer, and all that it has read then is there
pub record GoesOn (m : Machine) (first run : Running) (answer : Option ℤ) : Type 0 where
  pub due : IsDue run.awaits answer
  pub checked : run.checked ≡ first.checked
  pub instance : run.instance ≡ first.instance
  pub read : AreItems (facts m) (reads_with run.reads run.awaits answer)
