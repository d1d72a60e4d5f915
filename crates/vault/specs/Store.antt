-- What a vault keeps between two calls, and what its calls leave.
use Rattle.std.specs.Prelude.{◌≡◌, ◌≢◌, ◌⊎◌, ◌+◌, ◌≤◌, ◌<◌, ◌^◌, ℕ, List, [], ◌∷◌, length, None, Result, Ok, Err, OnOk}
use Rattle.disk.specs.declared.side.Side.{Side}
use Rattle.disk.specs.declared.side.Side.TheVariants.{A, B}
use Rattle.disk.specs.File.{File, at_rest}
use Rattle.disk.specs.Time.{Contents}
use Rattle.terms.specs.Commits.{Commit}
use Rattle.terms.specs.Facts.{facts, environment}
use Rattle.terms.specs.Sets.{Facts, among, with_facts}
use Rattle.codec.specs.declared.image.Image.{Image}
use Rattle.journal.specs.declared.journal.TheConstants.{LIMIT}
use Rattle.graph.specs.Graph.{Graph}
use Rattle.graph.specs.Canonical.{canonical}
use Rattle.sides.specs.Side.{behind_gate, end_of}
use Rattle.vault.specs.declared.vault.Vault.{Vault}
use Rattle.vault.specs.declared.refused.Refused.{Refused}
use Rattle.vault.specs.declared.opening.Recovered.{Recovered}
use Rattle.vault.specs.declared.error.VaultError.{VaultError}
use Rattle.vault.specs.declared.error.VaultError.TheVariants.{NotAStore, Damaged}
use Rattle.vault.specs.Stands.{Stands, IsLive}
use Rattle.sides.specs.declared.gate.TheConstants.{FORMAT}

-- ---- sets

-- nothing, as a set
abbrev pub nothing : Facts
nothing = among []

-- ---- what a vault keeps

-- All of both files is on the disk, and they stand for a graph and the facts X, of which the environment put E. The vault
-- knows which side is live, its generation, its graph's text, and where its journal ends.
pub record Holds {D : Type 0} (files : D → Side → File) (vault : Vault D) (g : Graph) (E X : Facts) : Type 0 where
  pub contents : Contents
  pub rests : (side : Side) → files vault.disk side ≡ at_rest (contents side)
  pub is_live : IsLive contents vault.journal.side vault.generation g E X
  pub ends : vault.journal.end ≡ end_of is_live.is_side
  pub text : vault.text.items ≡ canonical g

-- What the calls of a vault require, and leave: all of both files is on the disk, and the journal's end lies within the live file.
-- A vault that holds something is ready.
pub record IsReady {D : Type 0} (files : D → Side → File) (vault : Vault D) : Type 0 where
  pub rests : (side : Side) → files vault.disk side ≡ at_rest (files vault.disk side).content
  pub within : vault.journal.end < length (files vault.disk vault.journal.side).content

-- nothing that the promises of a vault speak of has changed
pub record IsSame {D : Type 0} (old new : Vault D) : Type 0 where
  pub disk : new.disk ≡ old.disk
  pub side : new.journal.side ≡ old.journal.side
  pub end : new.journal.end ≡ old.journal.end
  pub generation : new.generation ≡ old.generation
  pub text : new.text ≡ old.text
  pub halted : new.halted ≡ old.halted

-- ---- what a crash leaves

-- each file has a first byte
abbrev pub HasGates : Contents → Type 0
HasGates contents = (side : Side) → contents side ≢ []

-- two files stand for the state before a commit or for the state after it, and for nothing between
abbrev pub StandsBeforeOrAfter : Graph → Facts → Facts → Commit → Contents → Type 0
StandsBeforeOrAfter g E X commit contents = Stands contents g E X ⊎ Stands contents g (with_facts E (environment commit)) (with_facts X (facts commit))

-- file B has its closed gate before file A has a byte
abbrev pub BComesFirst : Contents → Type 0
BComesFirst contents = (contents A ≡ []) ⊎ (contents B ≡ 0 ∷ [])

-- file A has bytes, or file B has
abbrev pub OneHasBytes : (Side → File) → Type 0
OneHasBytes files = ((files A).content ≢ []) ⊎ ((files B).content ≢ [])

-- P holds if both files are empty, and all of file A is on the disk
abbrev pub IfEmptyFiles : (Side → File) → Type 0 → Type 0
IfEmptyFiles files P = files A ≡ at_rest [] → (files B).content ≡ [] → P

-- if the file was empty and these bytes begin with a closed gate, at `Ok` it has them with an open gate, and all of it is on the disk
abbrev pub GetsOpened : {T E : Type 0} → List ℕ → File → File → Result T E → Type 0
GetsOpened bytes old new result = (rest : List ℕ) → bytes ≡ 0 ∷ rest → old.content ≡ [] → OnOk result (new ≡ at_rest (1 ∷ rest))

-- ---- sides

-- a side of this generation, with this graph text and the bytes of an image, and no record
abbrev pub new_side : ℕ → List ℕ → List ℕ → List ℕ
new_side generation text image = 1 ∷ behind_gate FORMAT generation text image (0 ∷ [])

abbrev pub empty : Image
empty = record { fault = None; items = []; tags = []; done = [] }

-- the closed gate of its journal would not lie below the limit
abbrev pub IsTooLong : ℕ → List ℕ → List ℕ → Type 0
IsTooLong generation text image = LIMIT ≤ length (1 ∷ behind_gate FORMAT generation text image [])

-- the greatest generation
abbrev pub IsLast : ℕ → Type 0
IsLast generation = generation + 1 ≡ 2 ^ 64

-- ---- calls that take the disk

-- the disk that a result gives back
abbrev pub disk_of : {D : Type 0} → Result (Vault D) (Refused D) → D
disk_of (Ok vault) = vault.disk
disk_of (Err refused) = refused.disk

abbrev pub disk_of_opening : {D : Type 0} → Result (Recovered D) (Refused D) → D
disk_of_opening (Ok recovered) = recovered.vault.disk
disk_of_opening (Err refused) = refused.disk

-- the result; of a refusal only its error
abbrev pub answer_of : {D T : Type 0} → Result T (Refused D) → Result T VaultError
answer_of (Ok value) = Ok value
answer_of (Err refused) = Err refused.error

-- the error is damage of this side
abbrev pub IsDamageOf : Side → VaultError → Type 0
IsDamageOf side error = (place : ℕ) × (error ≡ Damaged side place)

-- the error says that the files stand for nothing
abbrev pub SaysNothing : VaultError → Type 0
SaysNothing error = (error ≡ NotAStore) ⊎ ((side : Side) × (place : ℕ) × (error ≡ Damaged side place))
