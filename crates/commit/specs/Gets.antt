-- What a question to a core is answered, and why it is refused.
use Rattle.std.specs.Prelude.{◌≡◌, ℤ, true, false, Option, Result, OnOk, IfOk, IfErr}
use Rattle.terms.specs.declared.name.Addr.{Addr}
use Rattle.machine.specs.declared.refusal.Refusal.{Refusal}
use Rattle.machine.specs.Machine.{IsValueAt}
use Rattle.vault.specs.declared.error.VaultError.TheVariants.{Halted, NoMemory}
use Rattle.commit.specs.declared.error.CoreError.{CoreError}
use Rattle.commit.specs.declared.error.CoreError.TheVariants.{Refused, Store}
use Rattle.commit.specs.Core.{Core, facts, is_halted}

-- a halted core returns `Halted`, and nothing else; then come the causes why it may not be asked
abbrev pub RefusesOrHalted : {D : Type 0} → Core D → (Refusal → Type 0) → CoreError → Type 0
RefusesOrHalted c why (Refused refusal) = (is_halted c ≡ false) × why refusal
RefusesOrHalted c why (Store error) = (is_halted c ≡ true) × (error ≡ Halted)

-- the core is halted, and returns `Halted`
abbrev pub SaysHalted : {D : Type 0} → Core D → CoreError → Type 0
SaysHalted c error = (is_halted c ≡ true) × (error ≡ Store Halted)

-- of a halted core the error says that it is halted; of another, that memory was refused
abbrev pub SaysHaltedOrNoMemory : {D : Type 0} → Core D → CoreError → Type 0
SaysHaltedOrNoMemory c error = (is_halted c ≡ false → error ≡ Store NoMemory) × (is_halted c ≡ true → SaysHalted c error)

-- The value at an address, if an item is there and it may be asked for.
pub record Gets {D : Type 0} (c : Core D) (may : Type 0) (why : Refusal → Type 0) (address : Addr) (result : Result (Option ℤ) CoreError) : Type 0 where
  pub allowed : OnOk result ((is_halted c ≡ false) × may)
  pub value : IfOk result (IsValueAt (facts c) address)
  pub refused : IfErr result (RefusesOrHalted c why)
