-- The replies to a put, and to a get that is refused.
use Rattle.disk.specs.Storage.{Errs}
use Rattle.disk.specs.declared.storage.Disk.{Ghosts}
use Rattle.std.proofs.Common.{◌≡◌, ◌≢◌, ◌∙◌, ◌↔◌, ap, refl, sym, inl, inr, ℕ, Bool, true, false, List, [], ◌∷◌, Option, Some, None, Result, Ok, Err, OnOk, OnErr, IfErr, IsErrOf, IsTrue}
use Rattle.std.proofs.lemmas.Bool.{false≢true}
use Rattle.terms.specs.declared.name.Inst.{Inst}
use Rattle.terms.specs.declared.event.Event.{Event}
use Rattle.terms.specs.Commits.{Commit}
use Rattle.vault.specs.Commits.{AppendLeaves, GatesRest, HeldLeaves, RestLeaves}
use Rattle.vault.specs.declared.error.VaultError.TheVariants as store
use Rattle.machine.specs.declared.refusal.Refusal.{Refusal}
use Rattle.machine.specs.Machine.{Ends}
use Rattle.machine.specs.Memory.{facts_of}
use Rattle.commit.specs.declared.error.CoreError.{CoreError}
use Rattle.commit.specs.declared.error.CoreError.TheVariants.{Refused, Store}
use Rattle.commit.specs.Calls.{CrashLeaves, Halts, IsInDoubt, IsTooLong, IsUnchanged, Refuses, Takes}
use Rattle.commit.specs.Core.{Core, graph, facts, is_halted, state_of}
use Rattle.commit.specs.Kept.{IsKept}
use Rattle.commit.specs.Runs.{NoneRuns}
use Rattle.commit.proofs.Idle.{goes_on}
use Rattle.script.specs.declared.command.Command.{Command}
use Rattle.script.specs.declared.command.Command.TheVariants.{Put, Tag, Get, Run}
use Rattle.session.specs.declared.ending.Stop.{Stop}
use Rattle.session.specs.declared.ending.Stop.TheVariants as stop
use Rattle.session.specs.declared.reply.Reply.TheVariants as replied
use Rattle.session.specs.Answers.{RepliesPut, put_reply, reply_of}
use Rattle.session.specs.Session.{stop_of}
use Rattle.session.specs.Went.{GoesOnBy, HasCause, HasNoRoom, Puts}
use Rattle.session.proofs.Coming.{committed, refused}

-- ---- refusals

pub refused_reply : {D : Type 0} (c : Core D) (why : Refusal → Type 0) (event : Event) (error : CoreError) → Refuses c why event error → RepliesPut (graph c) (facts c) why event [] (reply_of error)
refused_reply c why event (Refused cause) is = (refl, is.1)
refused_reply c why event (Store store.Full) is = (refl, is.1)
refused_reply c why event (Store store.Device) is = (refl, is.1)
refused_reply c why event (Store store.NoMemory) is = (refl, is.1)
refused_reply c why event (Store store.Halted) is = refl
refused_reply c why event (Store (store.Damaged side place)) is = absurd is
refused_reply c why event (Store store.NotAStore) is = absurd is
refused_reply c why event (Store store.Exists) is = absurd is

-- ---- puts

module _ {D T : Type 0} (storage : Ghosts D)
    (leaves : IsTrue storage.is_honest → RestLeaves storage) (gates_rest : IsTrue storage.is_honest → GatesRest storage) (append : IsTrue storage.is_honest → AppendLeaves storage) (held : IsTrue storage.is_honest → HeldLeaves storage)
    (old new : Core D) (event : Event) (why : Refusal → Type 0) (kept : IsTrue storage.is_honest → IsKept storage.files old) (kept_after : IsTrue storage.is_honest → IsKept storage.files new) (settled : is_halted old ≡ false → old.in_doubt ≡ []) where
  pub replied_put : (result : Result T CoreError) → OnOk result (Takes old new event) → OnErr result (IsUnchanged old new) → IfErr result (Refuses old why event) → IsInDoubt old new event result
      → (IsTrue storage.is_honest → is_halted old ≡ false → CrashLeaves storage old new (event ∷ [])) → Halts storage old new result
      → (came : List Event) × GoesOnBy storage old new came × RepliesPut (graph old) (facts old) why event came (put_reply result)
  replied_put (Ok done) takes same refuses doubt moments halts = (
    event ∷ [],
    record {
      commits = (event ∷ []) ∷ [];
      order = refl;
      goes_on = committed storage leaves gates_rest {T = T} append held old new event why kept kept_after settled (Ok done) takes halts.settled (λ working on. moments on working) halts;
    },
    (refl, takes.legal),
  )
  replied_put (Err error) takes same refuses doubt moments halts = (
    [],
    record {
      commits = [];
      order = refl;
      goes_on = refused storage leaves gates_rest {T = T} append held old new event why kept kept_after settled error same refuses doubt (λ working on. moments on working) halts;
    },
    refused_reply old why event error refuses,
  )

-- no instance runs after an event that ends none, if none ran before
pub put_idle : {D T : Type 0} (old new : Core D) (event : Event) → ((instance : Inst) → Ends event instance → ⊥) → NoneRuns old → (result : Result T CoreError) → OnOk result (Takes old new event) → OnErr result (IsUnchanged old new) → NoneRuns new
put_idle old new event ends_none idle (Ok done) takes same instance runs =
    idle instance (goes_on (facts_of new.machine.memory) (state_of old instance) (state_of new instance) (takes.takes.states instance (ends_none instance)) runs)
put_idle old new event ends_none idle (Err error) takes same instance runs = idle instance (sym (same.states instance) ∙ runs)

-- ---- halts

-- only the error of a halted core is replied to with `Halted`
halted_before : {D : Type 0} (c : Core D) (why : Refusal → Type 0) (event : Event) (error : CoreError) → Refuses c why event error → reply_of error ≡ replied.Halted → is_halted c ≡ true
halted_before c why event (Refused cause) is told = absurd (cc)
halted_before c why event (Store store.Full) is told = absurd (cc)
halted_before c why event (Store store.Device) is told = absurd (cc)
halted_before c why event (Store store.NoMemory) is told = absurd (cc)
halted_before c why event (Store store.Halted) is told = is
halted_before c why event (Store (store.Damaged side place)) is told = absurd is
halted_before c why event (Store store.NotAStore) is told = absurd is
halted_before c why event (Store store.Exists) is told = absurd is

-- the reply to a put is `Halted` exactly if the core was halted before
pub put_halt : {D T : Type 0} (storage : Ghosts D) (old new : Core D) (why : Refusal → Type 0) (event : Event) (result : Result T CoreError) → OnOk result (Takes old new event) → IfErr result (Refuses old why event)
    → Halts storage old new result → (put_reply result ≡ replied.Halted) ↔ (is_halted old ≡ true)
put_halt storage old new why event (Ok done) takes refuses halts = (λ told. absurd (cc), λ halted. absurd (false≢true (sym takes.working.0 ∙ halted)))
put_halt storage old new why event (Err error) takes refuses halts = (halted_before old why event error refuses, λ halted. ap put_reply (halts.halted.1 halted))

-- ---- causes

-- what puts something is no run
pub no_run : (command : Command) → Puts command → command ≡ Run → ⊥
no_run (Put address v) puts is = cc
no_run (Tag name) puts is = cc
no_run (Get address) puts is = absurd puts
no_run Run puts is = absurd puts

-- only the error of a device is replied to so
device_alone : (error : CoreError) → reply_of error ≡ replied.Device → error ≡ Store store.Device
device_alone (Refused cause) is = absurd (cc)
device_alone (Store store.Full) is = absurd (cc)
device_alone (Store store.Device) is = refl
device_alone (Store store.NoMemory) is = absurd (cc)
device_alone (Store store.Halted) is = absurd (cc)
device_alone (Store (store.Damaged side place)) is = absurd (cc)
device_alone (Store store.NotAStore) is = absurd (cc)
device_alone (Store store.Exists) is = absurd (cc)

-- the reply to a put is `Device` exactly if its result is
pub put_device : {T : Type 0} (result : Result T CoreError) → put_reply result ≡ replied.Device → IsErrOf result (Store store.Device)
put_device (Ok done) is = absurd (cc)
put_device (Err error) is = ap (λ (cause : CoreError). Err cause) (device_alone error is)

-- an event that is refused as too long is replied to as full
too_long : {D : Type 0} (old : Core D) (why : Refusal → Type 0) (event : Event) (error : CoreError) → Refuses old why event error → reply_of error ≡ replied.Full → IsTooLong old event
too_long old why event (Refused cause) refuses is = absurd (cc)
too_long old why event (Store store.Full) refuses is = refuses.2
too_long old why event (Store store.Device) refuses is = absurd (cc)
too_long old why event (Store store.NoMemory) refuses is = absurd (cc)
too_long old why event (Store store.Halted) refuses is = absurd (cc)
too_long old why event (Store (store.Damaged side place)) refuses is = absurd refuses
too_long old why event (Store store.NotAStore) refuses is = absurd refuses
too_long old why event (Store store.Exists) refuses is = absurd refuses

put_too_long : {D T : Type 0} (old : Core D) (why : Refusal → Type 0) (event : Event) (result : Result T CoreError) → IfErr result (Refuses old why event) → put_reply result ≡ replied.Full → IsTooLong old event
put_too_long old why event (Ok done) refuses is = absurd (cc)
put_too_long old why event (Err error) refuses is = too_long old why event error refuses is

-- the cause of a reply to a put, whatever commits came
pub put_cause : {D T : Type 0} (storage : Ghosts D) (old new : Core D) (why : Refusal → Type 0) (event : Event) (command : Command) (commits : List Commit) → Puts command → (IsTooLong old event → HasNoRoom old command commits) → (result : Result T CoreError)
    → OnOk result (Takes old new event) → IfErr result (Refuses old why event) → Halts storage old new result → HasCause storage.failures old new command commits (put_reply result)
put_cause storage old new why event command commits puts room result takes refuses halts = record {
  halted = λ is. halts.halts.1 (inl ((put_halt storage old new why event result takes refuses halts).0 is));
  halts = λ run. absurd (no_run command puts run);
  device = (λ is. (puts, halts.disk.device.0 (put_device result is)), λ both. ap put_reply (halts.disk.device.1 both.1));
  full = λ is. room (put_too_long old why event result refuses is);
  left = λ run. absurd (no_run command puts run);
}

-- ---- what stays

module _ {D T : Type 0} (storage : Ghosts D) (old new : Core D) (error : CoreError) (halts : Halts {T = T} storage old new (Err error)) where
  error_is : {cause : CoreError} → ◌≡◌ {A = Result T CoreError} (Err error) (Err cause) → error ≡ cause
  error_is is = cc

  -- an error other than `Device` and `NoMemory` halts nothing
  pub calm : error ≢ Store store.Device → error ≢ Store store.NoMemory → is_halted old ≡ false → is_halted new ≡ is_halted old
  calm not_device not_memory working = at (is_halted new) refl
    where
      erred : Errs storage old.vault.disk new.vault.disk → ⊥
      erred (inl grew) = not_device (error_is (halts.disk.device.1 grew))
      erred (inr changed) = not_memory (error_is (halts.disk.refused changed))

      at : (b : Bool) → is_halted new ≡ b → is_halted new ≡ is_halted old
      at false goes = goes ∙ sym working
      at true stops = elim (halts.halts.0 stops) [ inl before ↦ stops ∙ sym before | inr it ↦ absurd (erred it) ]

pub some_is_none : (end : Stop) → ◌≡◌ {A = Option Stop} (Some end) None → ⊥
some_is_none end is = cc

-- after a put whose reply ends no session the core is halted exactly if it was before
error_stays : {D T : Type 0} (storage : Ghosts D) (old new : Core D) (why : Refusal → Type 0) (event : Event) (error : CoreError) → Refuses old why event error → Halts {T = T} storage old new (Err error)
    → stop_of (reply_of error) ≡ None → is_halted new ≡ is_halted old
error_stays {T = T} storage old new why event (Refused cause) is halts none = calm {T = T} storage old new (Refused cause) halts (λ same. cc) (λ same. cc) is.0
error_stays {T = T} storage old new why event (Store store.Full) is halts none = calm {T = T} storage old new (Store store.Full) halts (λ same. cc) (λ same. cc) is.0
error_stays storage old new why event (Store store.Device) is halts none = absurd (some_is_none stop.Device none)
error_stays storage old new why event (Store store.NoMemory) is halts none = absurd (some_is_none stop.NoMemory none)
error_stays storage old new why event (Store store.Halted) is halts none = absurd (some_is_none stop.Halted none)
error_stays storage old new why event (Store (store.Damaged side place)) is halts none = absurd is
error_stays storage old new why event (Store store.NotAStore) is halts none = absurd is
error_stays storage old new why event (Store store.Exists) is halts none = absurd is

pub put_stays : {D T : Type 0} (storage : Ghosts D) (old new : Core D) (why : Refusal → Type 0) (event : Event) (result : Result T CoreError) → OnOk result (Takes old new event) → IfErr result (Refuses old why event)
    → Halts storage old new result → stop_of (put_reply result) ≡ None → is_halted new ≡ is_halted old
put_stays storage old new why event (Ok done) takes refuses halts none = takes.working.1 ∙ sym takes.working.0
put_stays storage old new why event (Err error) takes refuses halts none = error_stays storage old new why event error refuses halts none
