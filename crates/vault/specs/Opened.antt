-- What opening finds of a store's files, and what it leaves of them.
use Rattle.std.specs.Prelude.{◌≡◌, ◌≢◌, ◌⊎◌, ℕ, List, length, Option, Some, None, Result, IfErr, IsErrOf}
use Rattle.disk.specs.declared.side.Side.{Side}
use Rattle.disk.specs.declared.side.Side.TheVariants.{A, B}
use Rattle.disk.specs.File.{File}
use Rattle.disk.specs.declared.storage.Disk.{Ghosts}
use Rattle.disk.specs.Time.{Contents, MayLeaveNow}
use Rattle.disk.specs.Storage.{Leaves, Errs}
use Rattle.terms.specs.Sets.{Facts}
use Rattle.graph.specs.Graph.{Graph}
use Rattle.graph.specs.Canonical.{canonical}
use Rattle.holdings.specs.Holdings.{HavePutNumbers, Holdings, IsFor, facts_held, environment_held}
use Rattle.graph.specs.Fits.{FitsState, HasOneItemEach}
use Rattle.sides.specs.declared.gate.Gate.TheVariants.{Short}
use Rattle.sides.specs.Reading.{Tells}
use Rattle.sides.specs.Side.{IsSide, IsOpen, HasGeneration, start_of, end_of}
use Rattle.vault.specs.declared.found.Found.{Found}
use Rattle.vault.specs.declared.error.VaultError.{VaultError}
use Rattle.vault.specs.declared.error.VaultError.TheVariants.{NotAStore, Damaged, Full, Halted, Exists}
use Rattle.vault.specs.Stands.{Stands, IsLive, IsBehind, other_side}
use Rattle.vault.specs.Store.{SaysNothing, Holds}
use Rattle.vault.specs.declared.opening.Recovered.{Recovered}

-- what reads return of both files
abbrev pub contents_of : (Side → File) → Contents
contents_of files side = (files side).content

-- ---- what calls that sync and read leave

-- Reads return what they did before, and a crash at any moment of the calls, or after them, leaves what one might have left before.
pub record OnlyReads {D : Type 0} (storage : Ghosts D) (old new : D) : Type 0 where
  pub reads : (side : Side) → (storage.files new side).content ≡ (storage.files old side).content
  pub any_moment : Leaves storage old new (MayLeaveNow (storage.files old))
  pub left : (contents : Contents) → MayLeaveNow (storage.files new) contents → MayLeaveNow (storage.files old) contents

-- ---- what the heads say

-- the side is closed, or has this generation
abbrev pub IsGenerationOf : Option ℕ → List ℕ → Type 0
IsGenerationOf None bytes = IsOpen bytes → ⊥
IsGenerationOf (Some generation) bytes = HasGeneration bytes generation

-- the side has a generation, and the other one is closed or has a smaller one
pub record IsAhead (contents : Contents) (side : Side) : Type 0 where
  pub generation : ℕ
  pub has : HasGeneration (contents side) generation
  pub behind : IsBehind (contents (other_side side)) generation

-- the side is open, and has fewer bytes than the ten in which its generation ends
abbrev pub IsCutShort : List ℕ → Type 0
IsCutShort bytes = Tells Short bytes

-- the file of this side is cut short, and the error is damage of it, at its length
abbrev pub SaysCutShort : Side → List ℕ → VaultError → Type 0
SaysCutShort side bytes error = IsCutShort bytes × (error ≡ Damaged side (length bytes))

-- the file is cut short and the error says so, or a call of the disk returned an error
abbrev pub ErredOrCutShort : Type 0 → Side → List ℕ → VaultError → Type 0
ErredOrCutShort erred side bytes error = erred ⊎ SaysCutShort side bytes error

-- P holds if the bytes have a generation
abbrev pub IfHasGeneration : List ℕ → Type 0 → Type 0
IfHasGeneration bytes P = (generation : ℕ) → HasGeneration bytes generation → P

-- both sides are open, with one generation
abbrev pub AreOfOneGeneration : Contents → Type 0
AreOfOneGeneration contents = (generation : ℕ) × HasGeneration (contents A) generation × HasGeneration (contents B) generation

-- the files stand for no graph and no facts
abbrev pub StandsForNothing : Contents → Type 0
StandsForNothing contents = (g : Graph) (E X : Facts) → Stands contents g E X → ⊥

-- if the error says that there is nothing, the files stand for nothing
abbrev pub MeansNothing : Contents → VaultError → Type 0
MeansNothing contents error = SaysNothing error → StandsForNothing contents

-- no side is open
abbrev pub NoneIsOpen : Contents → Type 0
NoneIsOpen contents = (side : Side) → IsOpen (contents side) → ⊥

-- The fault of two heads of which none is ahead. A is short: damage of A, at its length. A is not, and B is: damage of B, at its length.
-- Both have one generation: damage of A, at 2, where its generation begins. None is open: there is no store.
abbrev pub HeadsFault : Contents → VaultError → Type 0
HeadsFault contents error =
    SaysCutShort A (contents A) error
    ⊎ ((IsCutShort (contents A) → ⊥) × SaysCutShort B (contents B) error)
    ⊎ (AreOfOneGeneration contents × (error ≡ Damaged A 2))
    ⊎ (NoneIsOpen contents × (error ≡ NotAStore))

-- if the heads have a fault, it is what is returned, unless a call of the disk returned an error
abbrev pub ReturnsFault : {T : Type 0} → Contents → Type 0 → Result T VaultError → Type 0
ReturnsFault contents erred result = (error : VaultError) → HeadsFault contents error → IsErrOf result error ⊎ erred

-- P holds of any two files whose sides have these generations; where there is none, the side is closed
abbrev pub ForGenerations : Option ℕ → Option ℕ → (Contents → Type 0) → Type 0
ForGenerations a b P = (contents : Contents) → IsGenerationOf a (contents A) → IsGenerationOf b (contents B) → P contents

-- the fault of two whole heads of which none is ahead: none is open, or both have one generation
abbrev pub IsWholeFault : Contents → VaultError → Type 0
IsWholeFault contents error = ((error ≡ NotAStore) × NoneIsOpen contents) ⊎ ((error ≡ Damaged A 2) × AreOfOneGeneration contents)

-- P holds if both sides have one generation
abbrev pub IfAlike : Contents → Type 0 → Type 0
IfAlike contents P = (generation : ℕ) → HasGeneration (contents A) generation → HasGeneration (contents B) generation → P

-- the error is damage of the side that is ahead, at a place
abbrev pub IsOfAhead : Contents → VaultError → Type 0
IsOfAhead contents error = (side : Side) × (place : ℕ) × IsAhead contents side × (error ≡ Damaged side place)

-- ---- what a side gives

-- The parts of what an opening gives fit together, whatever the disk is. Some bytes are a side of this graph, this generation and the
-- facts that are held, whose journal ends at this position; the text is the graph's; the facts fit the graph, each address has at most
-- one item, and the puts have numbers that a put may have; there is each collection of the graph.
pub record IsSound (g : Graph) (held : Holdings) (generation end : ℕ) (text : List ℕ) : Type 0 where
  pub bytes : List ℕ
  pub is_side : IsSide bytes g generation (environment_held held) (facts_held held)
  pub ends : end ≡ end_of is_side
  pub text_is : text ≡ canonical g
  pub numbered : HavePutNumbers held
  pub collections : IsFor g held
  pub fits : FitsState g (environment_held held) (facts_held held)
  pub one_item : HasOneItemEach (facts_held held)

-- the parts of what was found in a side fit together so
abbrev pub IsSoundFound : Found → Type 0
IsSoundFound found = IsSound found.graph found.holdings found.generation found.journal.end found.text.items

-- so do the parts of a store that was opened
abbrev pub IsSoundStore : {D : Type 0} → Recovered D → Type 0
IsSoundStore r = IsSound r.graph r.holdings r.vault.generation r.vault.journal.end r.vault.text.items

-- the vault of what was opened holds its graph and its facts
abbrev pub IsHeld : {D : Type 0} → (D → Side → File) → Recovered D → Type 0
IsHeld files r = Holds files r.vault r.graph (environment_held r.holdings) (facts_held r.holdings)

-- the bytes of the side stand for what was found in them, and are kept with it
pub record IsFoundIn (side : Side) (bytes : List ℕ) (found : Found) : Type 0 where
  pub is_side : IsSide bytes found.graph found.generation (environment_held found.holdings) (facts_held found.holdings)
  pub kept : found.bytes.items ≡ bytes
  pub side_is : found.journal.side ≡ side
  pub starts : found.start ≡ start_of is_side
  pub ends : found.journal.end ≡ end_of is_side
  pub text : found.text.items ≡ canonical found.graph

-- both files stand for what was found, and the live one gave it; its bytes are kept with it
pub record IsFound (contents : Contents) (found : Found) : Type 0 where
  pub is_live : IsLive contents found.journal.side found.generation found.graph (environment_held found.holdings) (facts_held found.holdings)
  pub kept : found.bytes.items ≡ contents found.journal.side
  pub ends : found.journal.end ≡ end_of is_live.is_side
  pub text : found.text.items ≡ canonical found.graph

-- ---- why it is refused

-- What a refusal says of the files. `erred` says that a call of the disk returned an error; if none did, a fault of the heads is returned.
-- `NotAStore` and `Damaged` say that the files stand for nothing; they are a fault of the heads, or damage of the side that is ahead.
pub record TellsWhy {T : Type 0} (contents : Contents) (erred : Type 0) (result : Result T VaultError) : Type 0 where
  pub nothing : IfErr result (MeansNothing contents)
  pub heads : ReturnsFault contents erred result
  pub cause : IfErr result (λ error. SaysNothing error → HeadsFault contents error ⊎ IsOfAhead contents error)

-- an error that opening may return
abbrev pub IsOfOpening : VaultError → Type 0
IsOfOpening error = (error ≢ Full) × (error ≢ Halted) × (error ≢ Exists)

-- the same, of what the files had before some calls of the disk
abbrev pub TellsWhyOn : {D T : Type 0} → Ghosts D → D → D → Result T VaultError → Type 0
TellsWhyOn storage old new result = TellsWhy (contents_of (storage.files old)) (Errs storage old new) result
