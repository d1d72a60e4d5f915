-- The commits of a store, and what is left of them from call to call: by a crash, by openings that were cut off, and by the opening that
-- gives the store back.
--
-- A commit is the events of one append: after a crash all of them are there, or none. The commits of a
-- store begin at a state: at nothing where it was created, at what an opening gave where it was opened. They are in the order of their
-- appends, each of which opens the gate of its first record last. A commit is acknowledged if the call that made it returned `Ok`.
use Rattle.std.specs.Prelude.{◌≡◌, ◌⊎◌, ◌≤◌, ℕ, true, false, List, [], ◌∷◌, ◌++◌}
use Rattle.disk.specs.declared.side.Side.{Side}
use Rattle.disk.specs.File.{File}
use Rattle.disk.specs.declared.storage.Disk.{Ghosts}
use Rattle.disk.specs.Time.{Contents, MayLeaveNow}
use Rattle.disk.specs.Storage.{Leaves}
use Rattle.terms.specs.declared.event.Event.{Event}
use Rattle.terms.specs.Commits.{Commit, facts_behind, environment_behind}
use Rattle.terms.specs.Facts.{Fact, facts, environment}
use Rattle.terms.specs.Sets.{Facts, with_facts, stated}
use Rattle.graph.specs.Graph.{Graph}
use Rattle.graph.specs.FitLaws.{SameSet}
use Rattle.vault.specs.declared.vault.Vault.{Vault}
use Rattle.vault.specs.Opened.{contents_of}
use Rattle.vault.specs.Stands.{Stands}
use Rattle.vault.specs.Store.{Holds, HasGates, IsReady, IsSame, StandsBeforeOrAfter}

-- The bytes stand for a prefix of the commit order that has each acknowledged commit: for these and for a prefix of the pending ones,
-- none of which is there in part.
pub record StandsForBeginning (g : Graph) (E X : Facts) (acknowledged pending : List Commit) (contents : Contents) : Type 0 where
  pub made : List Commit
  pub later : List Commit
  pub beginning : pending ≡ made ++ later
  pub stands : Stands contents g (environment_behind E (acknowledged ++ made)) (facts_behind X (acknowledged ++ made))

-- An example that it refuses: one commit of two events is pending, the first event states a new fact, and the second states another one.
-- Bytes that stand for what the first alone states are no such prefix.
abbrev pub HalfIsNoBeginning : Type 0
HalfIsNoBeginning = (contents : Contents) (g : Graph) (E X : Facts) (first second : Event) (one other : Fact)
    → Stands contents g (with_facts E (environment (first ∷ []))) (with_facts X (facts (first ∷ [])))
    → X one ≡ false → stated (first ∷ []) one ≡ true
    → X other ≡ false → stated (first ∷ []) other ≡ false → stated (first ∷ second ∷ []) other ≡ true
    → StandsForBeginning g E X [] ((first ∷ second ∷ []) ∷ []) contents → ⊥

-- a vault whose store has these commits after the facts X, of which the environment put E
abbrev pub IsStoreOf : {D : Type 0} → (D → Side → File) → Vault D → Graph → Facts → Facts → List Commit → Type 0
IsStoreOf files vault g E X commits = Holds files vault g (environment_behind E commits) (facts_behind X commits)

module _ {D : Type 0} (storage : Ghosts D) where
  -- a crash at a moment of a call, or after it, left this disk
  pub record IsLeft (before after crashed : D) : Type 0 where
    pub struck : ℕ
    pub begun : storage.moment before ≤ struck
    pub ended : struck ≤ storage.moment after
    pub crash : (contents : Contents) → MayLeaveNow (storage.files crashed) contents → storage.left_at after struck contents

  -- how an opening ended: a crash cut it off, or it was refused and the disk was handed back
  abbrev pub WasCutOff : D → D → D → Type 0
  WasCutOff before after next = Leaves storage before after (MayLeaveNow (storage.files before)) × IsLeft before after next

  abbrev pub WasRefused : D → D → D → Type 0
  WasRefused before after next = (next ≡ after) × ((contents : Contents) → MayLeaveNow (storage.files after) contents → MayLeaveNow (storage.files before) contents)

  -- openings one after another, none of which gave the store, from the first disk to the last
  abbrev pub Openings : D → List (D × D) → D → Type 0
  Openings first [] last = last ≡ first
  Openings first ((after, next) ∷ others) last = (WasCutOff first after next ⊎ WasRefused first after next) × Openings next others last

  -- ---- laws: what a call makes of a store

  -- a vault that holds something is a store without commits yet: after nothing if it is new, after what was found if it was opened
  abbrev pub BegunStore : Type 0
  BegunStore = (vault : Vault D) (g : Graph) (E X : Facts) → Holds storage.files vault g E X → IsStoreOf storage.files vault g E X []

  -- an append that returned `Ok` adds its commit, after the others
  abbrev pub AppendedStore : Type 0
  AppendedStore = (vault : Vault D) (g : Graph) (E X : Facts) (commits : List Commit) (commit : Commit)
      → Holds storage.files vault g (with_facts (environment_behind E commits) (environment commit)) (with_facts (facts_behind X commits) (facts commit))
      → IsStoreOf storage.files vault g E X (commits ++ commit ∷ [])

  -- a refusal that does not halt leaves what is held
  abbrev pub RefusedStore : Type 0
  RefusedStore = (old new : Vault D) (g : Graph) (E X : Facts) → Holds storage.files old g E X → IsSame old new → Holds storage.files new g E X

  -- such a vault is ready for the next call
  abbrev pub StoreIsReady : Type 0
  StoreIsReady = (vault : Vault D) (g : Graph) (E X : Facts) → Holds storage.files vault g E X → IsReady storage.files vault

  -- ---- laws: what a crash leaves at each moment

  -- between calls a crash leaves what is held, and so all of the commits
  abbrev pub HeldLeaves : Type 0
  HeldLeaves = (vault : Vault D) (g : Graph) (E X : Facts) → Holds storage.files vault g E X → Leaves storage vault.disk vault.disk (λ contents. Stands contents g E X)

  abbrev pub RestLeaves : Type 0
  RestLeaves = (vault : Vault D) (g : Graph) (E X : Facts) (commits : List Commit) → IsStoreOf storage.files vault g E X commits
      → Leaves storage vault.disk vault.disk (StandsForBeginning g E X commits [])

  -- in an append it leaves all of them, with its commit or without
  abbrev pub AppendLeaves : Type 0
  AppendLeaves = (old new : Vault D) (g : Graph) (E X : Facts) (commits : List Commit) (commit : Commit)
      → Leaves storage old.disk new.disk (StandsBeforeOrAfter g (environment_behind E commits) (facts_behind X commits) commit)
      → Leaves storage old.disk new.disk (StandsForBeginning g E X commits (commit ∷ []))

  -- in a turnover it leaves all of them
  abbrev pub TurnLeaves : Type 0
  TurnLeaves = (old new : Vault D) (g : Graph) (E X : Facts) (commits : List Commit)
      → Leaves storage old.disk new.disk (λ contents. Stands contents g (environment_behind E commits) (facts_behind X commits))
      → Leaves storage old.disk new.disk (StandsForBeginning g E X commits [])

  -- ---- laws: first bytes

  -- Where each file of a vault that holds something has its first byte, a crash between calls leaves each file one.
  abbrev pub GatesRest : Type 0
  GatesRest = (vault : Vault D) (g : Graph) (E X : Facts) → Holds storage.files vault g E X → HasGates (contents_of (storage.files vault.disk)) → Leaves storage vault.disk vault.disk HasGates

  -- Where each crash of a call leaves each file its first byte, each file has it after the call, and after a crash and openings.
  abbrev pub GatesStay : Type 0
  GatesStay = (before after : D) → Leaves storage before after HasGates → HasGates (contents_of (storage.files after))

  abbrev pub GatesGoOn : Type 0
  GatesGoOn = (before after crashed last : D) (openings : List (D × D)) → Leaves storage before after HasGates
      → IsLeft before after crashed → Openings crashed openings last → HasGates (contents_of (storage.files last))

  -- ---- laws: what an opening gives

  -- If the files stand for a graph and facts, that is what an opening finds: the vault that it gives holds them, and it gives that
  -- graph.
  abbrev pub OpeningFinds : Type 0
  OpeningFinds = (disk : D) (g : Graph) (E X : Facts) → Stands (contents_of (storage.files disk)) g E X
      → (vault : Vault D) (h : Graph) (F Y : Facts) → Holds storage.files vault h F Y → ((side : Side) → (storage.files vault.disk side).content ≡ (storage.files disk side).content)
      → Holds storage.files vault g E X × (h ≡ g) × SameSet F E × SameSet Y X

  -- From a call to the next one: at each moment of a call a crash leaves a prefix of the commit order with each acknowledged commit. A
  -- crash at such a moment left a disk, and openings after it were cut off or refused. Then the files stand for such a prefix, so none
  -- of these openings said that they stand for nothing; and what an opening gives is a store of it, of the same graph, for the next call.
  abbrev pub StoreGoesOn : Type 0
  StoreGoesOn = (g : Graph) (E X : Facts) (acknowledged pending : List Commit) (before after crashed last : D) (openings : List (D × D))
      → Leaves storage before after (StandsForBeginning g E X acknowledged pending) → IsLeft before after crashed → Openings crashed openings last
      → (it : StandsForBeginning g E X acknowledged pending (contents_of (storage.files last)))
      × ((vault : Vault D) (h : Graph) (F Y : Facts) → Holds storage.files vault h F Y → ((side : Side) → (storage.files vault.disk side).content ≡ (storage.files last side).content)
      → IsStoreOf storage.files vault g E X (acknowledged ++ it.made) × (h ≡ g)
      × SameSet F (environment_behind E (acknowledged ++ it.made)) × SameSet Y (facts_behind X (acknowledged ++ it.made)))

  -- ---- the laws together

  -- what calls make of a store, and what a crash in one of them leaves
  pub record CallsGoOn : Type 0 where
    pub begun : BegunStore
    pub appended : AppendedStore
    pub refused : RefusedStore
    pub ready : StoreIsReady
    pub append_leaves : AppendLeaves
    pub turn_leaves : TurnLeaves

  -- what a crash between calls leaves
  pub record RestGoesOn : Type 0 where
    pub held : HeldLeaves
    pub commits : RestLeaves

  -- what becomes of first bytes
  pub record GatesAreKept : Type 0 where
    pub rest : GatesRest
    pub stay : GatesStay
    pub go_on : GatesGoOn
