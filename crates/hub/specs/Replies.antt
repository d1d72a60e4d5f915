-- What a locked call says of its pass. The pass knows the state after what it has seen: the call's result is that of this state.
use Rattle.std.specs.Prelude.{◌≡◌, ◌⊎◌, ◌≤◌, ◌+◌, ⊤, ℕ, List, [], ◌∷◌, ◌++◌}
use mathlib.Core.List.{IsPrefix}
use Rattle.terms.specs.declared.event.Event.{Event}
use Rattle.terms.specs.Commits.{Commit}
use Rattle.terms.specs.declared.name.Addr.{Addr}
use Rattle.terms.specs.declared.name.Inst.{Inst}
use Rattle.graph.specs.Fits.{HasNoFault, IsAbsent, MayEnd}
use Rattle.terms.specs.Sets.{Facts}
use Rattle.graph.specs.Graph.{Graph}
use Rattle.machine.specs.declared.refusal.Refusal.{Refusal}
use Rattle.machine.specs.Legal.{IsLegal}
use Rattle.vault.specs.declared.error.VaultError.TheVariants as vault
use Rattle.commit.specs.declared.error.CoreError.{CoreError}
use Rattle.commit.specs.declared.error.CoreError.TheVariants.{Refused, Store}
use Rattle.commit.specs.Calls.{record_length}
use Rattle.journal.specs.declared.journal.TheConstants.{LIMIT}
use Rattle.passes.specs.Known.{Known, count_of}
use Rattle.passes.specs.Opening.{Opening}
use Rattle.passes.specs.Visits.{Shows}
use Rattle.hub.specs.Kept.{Kept}
use Rattle.hub.specs.Opening.{end_behind, facts_behind, AreLegalBehind}

-- ---- what is seen

-- After each locked call the pass has seen a legal history, which begins with all that it saw before, and has no fewer events than `commits` said.
pub record Sees (opening : Opening) (old new : Known) : Type 0 where
  pub starts : IsPrefix old.seen new.seen
  pub legal : AreLegalBehind opening new.seen
  pub told : old.told ≤ count_of new.seen
  pub same : (new.number ≡ old.number) × (new.told ≡ old.told) × (new.asked ≡ old.asked) × (new.heard ≡ old.heard)

-- the commit was added after all that was seen before, and is the pass's own
pub record Adds (commit : Commit) (old new : Known) : Type 0 where
  pub before : List Commit
  pub starts : IsPrefix old.seen before
  pub ends : new.seen ≡ before ++ commit ∷ []
  pub mine : new.mine ≡ old.mine ++ commit ∷ []

-- nothing was made with it
abbrev pub AddsNothing : Known → Known → Type 0
AddsNothing old new = new.mine ≡ old.mine

-- no commit was made: the history is as it was, the pass has seen all of it, and nothing was made with the pass
abbrev pub AddsNoCommit : {D : Type 0} → Kept D → Kept D → Known → Known → Type 0
AddsNoCommit before after old new = (after.history ≡ before.history) × Shows before.history old new × AddsNothing old new

-- ---- refusals

-- the closed gate after the event's record would not lie below the limit, in a journal that ends here
abbrev pub HasNoRoom : (end : ℕ) → Event → Type 0
HasNoRoom end event = LIMIT ≤ end + record_length event

-- Why an event is refused in a state with these facts, whose journal ends here. An event that may come is refused if its record does not fit; if it
-- fits, and the device failed; or if memory was refused. No pass can know that the core is halted.
abbrev pub RefusesAt : Graph → Facts → (end : ℕ) → (Refusal → Type 0) → Event → CoreError → Type 0
RefusesAt g X end why event (Refused refusal) = why refusal
RefusesAt g X end why event (Store vault.Halted) = ⊤
RefusesAt g X end why event (Store vault.Full) = IsLegal g X event × HasNoRoom end event
RefusesAt g X end why event (Store vault.Device) = IsLegal g X event × (HasNoRoom end event → ⊥)
RefusesAt g X end why event (Store vault.NoMemory) = IsLegal g X event
RefusesAt g X end why event (Store (vault.Damaged side place)) = ⊥
RefusesAt g X end why event (Store vault.NotAStore) = ⊥
RefusesAt g X end why event (Store vault.Exists) = ⊥

-- the same in the state that a pass knows, for causes that the graph and the facts decide
abbrev pub RefusesEvent : Opening → Known → (Graph → Facts → Refusal → Type 0) → Event → CoreError → Type 0
RefusesEvent opening known why event =
    RefusesAt opening.graph (facts_behind opening known.seen) (end_behind opening known.seen) (why opening.graph (facts_behind opening known.seen)) event

-- why a question is refused: for a cause that the graph decides, or the core is halted
abbrev pub RefusesQuestion : (Refusal → Type 0) → CoreError → Type 0
RefusesQuestion why (Refused refusal) = why refusal
RefusesQuestion why (Store error) = error ≡ vault.Halted

-- why an item is not watched: as a question is refused; or memory was refused, where it may be watched
abbrev pub RefusesWatch : (may : Type 0) → (Refusal → Type 0) → CoreError → Type 0
RefusesWatch may why (Refused refusal) = why refusal
RefusesWatch may why (Store error) = (error ≡ vault.Halted) ⊎ ((error ≡ vault.NoMemory) × may)

-- the core is halted, and returns `Halted`
abbrev pub SaysHalted : CoreError → Type 0
SaysHalted error = error ≡ Store vault.Halted

-- ---- instances

-- the instance may be run in the state that a pass knows: there is no fault, and the instance is of the graph, prescribed, and not done
pub record MayRun (opening : Opening) (known : Known) (instance : Inst) : Type 0 where
  pub working : HasNoFault (facts_behind opening known.seen)
  pub may_end : MayEnd opening.graph (facts_behind opening known.seen) instance

-- Why an instance may not wait for an item: memory was refused, and the item is not there; or the core is halted, which a pass cannot know.
abbrev pub RefusesWait : Opening → Known → Addr → CoreError → Type 0
RefusesWait opening known address (Store vault.Halted) = ⊤
RefusesWait opening known address (Store vault.NoMemory) = IsAbsent (facts_behind opening known.seen) address
RefusesWait opening known address other = ⊥
