-- A put into a store that has room for it is not refused, and those that wait for it can be woken.
use Rattle.std.proofs.Common.{◌≡◌, ◌∙◌, sym, refl, subst, ◌<◌, Bool, true, false, ◌||◌, List, [], ◌∷◌, Option, Some, None, Result, Ok, Err, OnOk, IfErr, IsSomeAnd, arith}
use Rattle.std.proofs.lemmas.Bool.{false≢true}
use Rattle.std.specs.Cmp.{IsTotalOrder}
use Rattle.std.specs.FinMap.{IsAntisymmetric}
use Rattle.terms.specs.declared.name.Addr.{Addr}
use Rattle.terms.specs.declared.name.Inst.{Inst}
use Rattle.terms.specs.Name.{inst_cmp}
use Rattle.items.specs.Held.{Held, item_at, waiters_at, room_for, IsRefused}
use Rattle.items.specs.declared.error.PutError.{PutError}
use Rattle.items.specs.declared.error.PutError.TheVariants.{AlreadyPut, NoMemory}
use Rattle.items.specs.Once.{IsOnceEach, is_one_of}
use Rattle.instances.specs.declared.state.State.{State}
use Rattle.instances.specs.declared.state.State.TheVariants.{Ready, Running, Waiting, Done}
use Rattle.instances.specs.OfStep.{IsWaiting}
use Rattle.instances.specs.Known.{Known, state_at}
use Rattle.machine.specs.declared.memory.Memory.{Memory}
use Rattle.machine.specs.Memory.{AreListed, waits_at}
use Rattle.machine.specs.Waking.{EachWaits}
use Rattle.machine.proofs.Woken.{itself}

pub not_refused : {A : Type 0} (result : Result (Unit {0}) PutError) (held : Held) (address : Addr) → OnOk result A → IfErr result (IsRefused held address) → item_at held address ≡ None → 0 < room_for held address.collection → A
not_refused (Ok done) held address ok refused none room = ok
not_refused (Err (AlreadyPut value)) held address ok refused none room = absurd (subst (λ o. IsSomeAnd o (λ item. item.0 ≡ value)) none refused)
not_refused (Err NoMemory) held address ok refused none room = absurd (omega (arith, room, refused.1))

waiting : (address : Addr) (state : Option State) → waits_at address state ≡ true → IsWaiting state
waiting address None is = absurd (false≢true is)
waiting address (Some Ready) is = absurd (false≢true is)
waiting address (Some Running) is = absurd (false≢true is)
waiting address (Some (Waiting other)) is = tt
waiting address (Some Done) is = absurd (false≢true is)

or_left : (a b : Bool) → a ≡ true → (a || b) ≡ true
or_left true b is = refl
or_left false b is = absurd (false≢true is)

or_right : (a b : Bool) → b ≡ true → (a || b) ≡ true
or_right true b is = refl
or_right false b is = is

module _ (total : IsTotalOrder inst_cmp) (tie : IsAntisymmetric inst_cmp) where
  each : (known : Known) (list : List Inst) → IsOnceEach list → ((i : Inst) → is_one_of i list ≡ true → IsWaiting (state_at known i)) → EachWaits known list
  each known [] once waits = tt
  each known (first ∷ others) once waits = (
    waits first (or_left _ (is_one_of first others) (itself total tie first)),
    once.0,
    each known others once.1 (λ i is. waits i (or_right _ (is_one_of i others) is)),
  )

  pub each_waits : (m : Memory) (address : Addr) → AreListed m → EachWaits m.instances (waiters_at m.items address)
  each_waits m address listed = each m.instances (waiters_at m.items address) (listed.once address) (λ i is. waiting address (state_at m.instances i) (sym (listed.listed i address) ∙ is))
