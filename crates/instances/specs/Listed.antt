-- The lists that are made from all instances: of those that wait, and of those that are done.
use Rattle.std.specs.Prelude.{◌≡◌, ◌↔◌, ◌-◌, ◌^◌, ℕ, T, true, List, length, min, Option, Some, None, is_some}
use Rattle.std.specs.List.{filter_map, list_any}
use Rattle.std.specs.List.Sorted.{IsStrictlySortedBy}
use Rattle.std.specs.Ordering.{eq_by_cmp}
use Rattle.std.specs.FinMap.{find, is_sorted}
use Rattle.terms.specs.Name.{inst_cmp}
use Rattle.terms.specs.declared.name.Addr.{Addr}
use Rattle.terms.specs.declared.name.Inst.{Inst}
use Rattle.instances.specs.declared.state.State.{State}
use Rattle.instances.specs.declared.state.State.TheVariants.{Ready, Running, Waiting, Done}
use Rattle.instances.specs.AllInstances.{all_instances}
use Rattle.instances.specs.Known.{Known, state_at}

-- the instances that wait, each with its address, in order
pub record AreTheWaiting (known : Known) (list : List (Inst × Addr)) : Type 0 where
  pub rises : T (is_sorted inst_cmp list)
  pub each : (instance : Inst) (address : Addr) → (find inst_cmp instance list ≡ Some address) ↔ (state_at known instance ≡ Some (Waiting address))

-- the instances that are done, in order
pub record AreTheDone (known : Known) (list : List Inst) : Type 0 where
  pub rises : IsStrictlySortedBy inst_cmp list
  pub each : (instance : Inst) → (list_any (eq_by_cmp inst_cmp instance) list ≡ true) ↔ (state_at known instance ≡ Some Done)

-- all instances, in order
pub record AreAll (known : Known) (list : List Inst) : Type 0 where
  pub rises : IsStrictlySortedBy inst_cmp list
  pub each : (instance : Inst) → (list_any (eq_by_cmp inst_cmp instance) list ≡ true) ↔ (is_some (state_at known instance) ≡ true)

-- the number of instances, and the number of those that are done, each at most the greatest number of 64 bits
abbrev pub CountsAll : Known → ℕ → Type 0
CountsAll known count = (list : List Inst) × AreAll known list × (count ≡ min (length list) (2 ^ 64 - 1))

abbrev pub CountsDone : Known → ℕ → Type 0
CountsDone known count = (list : List Inst) × AreTheDone known list × (count ≡ min (length list) (2 ^ 64 - 1))

-- ---- what an entry of a walk adds to such a list

-- an instance that waits, with its address
abbrev pub if_waiting : Inst → State → Option (Inst × Addr)
if_waiting instance Ready = None
if_waiting instance Running = None
if_waiting instance (Waiting address) = Some (instance, address)
if_waiting instance Done = None

-- an instance that is done
abbrev pub if_done : Inst → State → Option Inst
if_done instance Ready = None
if_done instance Running = None
if_done instance (Waiting address) = None
if_done instance Done = Some instance

-- those of all instances that are done
abbrev pub all_done : Known → List Inst
all_done known = filter_map (λ entry. if_done entry.0 entry.1) (all_instances known)
