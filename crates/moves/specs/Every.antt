-- The theorem: what holds after every list of moves of a store.
use Rattle.disk.specs.declared.storage.Disk.{Ghosts}
use Rattle.std.specs.Prelude.{◌≡◌, ◌⊎◌, ℕ, true, List, [], ◌∷◌, ◌++◌, Some, Result, IfErr}
use Rattle.disk.specs.Time.{Contents, MayLeaveNow}
use Rattle.terms.specs.declared.name.Addr.{Addr}
use Rattle.terms.specs.declared.name.Inst.{Inst}
use Rattle.terms.specs.declared.fault.FaultKind.{FaultKind}
use Rattle.terms.specs.declared.event.Event.{Event}
use Rattle.terms.specs.Commits.{Commit, events_of}
use Rattle.terms.specs.Facts.{Fact, bad}
use Rattle.terms.specs.Sets.{Facts, put_by_environment, stated}
use Rattle.graph.specs.Graph.{Graph}
use Rattle.instances.specs.declared.state.State.TheVariants.{Waiting}
use Rattle.machine.specs.Legal.{AreLegal, IsQuiet}
use Rattle.machine.specs.Meaning.{IsClean, Meaning}
use Rattle.machine.specs.State.{IsMeaning, IsUnfinished}
use Rattle.vault.specs.declared.error.VaultError.TheVariants.{Device, NoMemory}
use Rattle.vault.specs.declared.refused.Refused.{Refused}
use Rattle.vault.specs.Stands.{Stands}
use Rattle.commit.specs.declared.status.Status.TheVariants.{Quiet, Stopped}
use Rattle.commit.specs.Core.{Core, graph, facts, environment, state_of}
use Rattle.commit.specs.Created.{IsCreated}
use Rattle.commit.specs.Kept.{Keeps}
use Rattle.commit.specs.Opened.{OpensAs}
use Rattle.commit.specs.Status.{TellsStatus}
use Rattle.moves.specs.Move.{LeadsAll, Move, Place, at_core, at_disk}
use Rattle.moves.specs.Order.{Extends, ExtendsAll, History, acknowledged_by, begun}
use Rattle.moves.specs.There.{IsThere}

-- ---- what a store means

-- the facts are within the graph's meaning on their own environment
abbrev pub IsWithin : Graph → Facts → Facts → Type 0
IsWithin g E X = (fact : Fact) → X fact ≡ true → Meaning g E fact

-- no legal list of events that has this environment leaves nothing to do
abbrev pub NoneIsQuiet : Graph → Facts → Type 0
NoneIsQuiet g E = (events : List Event) → AreLegal g [] events → ((fact : Fact) → put_by_environment events fact ≡ E fact) → IsQuiet g (stated events) → ⊥

-- What a core means. Its facts are within the meaning. Where `status` says `Quiet`: nothing is left to do, the facts are exactly the meaning, which is clean, and those that wait
-- are exactly the instances that the meaning leaves unfinished, each at an address that it needs. Where it says `Stopped`: the meaning has this fault, and no schedule on this
-- environment is quiet.
pub record TellsMeaning {D : Type 0} (g : Graph) (c : Core D) : Type 0 where
  pub within : IsWithin g (environment c) (facts c)
  pub quiet : (blocked : ℕ) → TellsStatus c (Quiet blocked) → IsQuiet g (facts c) × IsMeaning g (environment c) (facts c) × IsClean g (environment c)
  pub waiting : (blocked : ℕ) → TellsStatus c (Quiet blocked) → (instance : Inst) (address : Addr) → state_of c instance ≡ Some (Waiting address) → IsUnfinished g (environment c) instance address
  pub unfinished : (blocked : ℕ) → TellsStatus c (Quiet blocked) → (instance : Inst) (address : Addr) → IsUnfinished g (environment c) instance address → (at : Addr) × (state_of c instance ≡ Some (Waiting at))
  pub stopped : (instance : Inst) (kind : FaultKind) → TellsStatus c (Stopped instance kind) → Meaning g (environment c) (bad instance kind) × NoneIsQuiet g (environment c)

module _ {D : Type 0} (storage : Ghosts D) where
  -- whatever the files stand for after a crash now, it is of this graph, and within its meaning
  abbrev pub StandsWithin : Graph → D → Type 0
  StandsWithin g disk = (contents : Contents) (other : Graph) (E X : Facts) → MayLeaveNow (storage.files disk) contents → Stands contents other E X → (other ≡ g) × IsWithin g E X

  -- an opening returns a core, or `Device` or `NoMemory`: never `Damaged` or `NotAStore`
  abbrev pub OpensOrErrs : D → Type 0
  OpensOrErrs disk = (result : Result (Core D) (Refused D)) → OpensAs storage disk result → IfErr result (λ refused. (refused.error ≡ Device) ⊎ (refused.error ≡ NoMemory))

  abbrev pub Means : Graph → Place D → Type 0
  Means g (at_core c) = TellsMeaning g c × StandsWithin g c.vault.disk
  Means g (at_disk disk) = StandsWithin g disk × OpensOrErrs disk

  -- What is known at a place: the commit order is legal; what is there is the state after it, on the disk perhaps with a prefix of what is in doubt; and it means what it should.
  pub record IsKnown (g : Graph) (h : History) (place : Place D) : Type 0 where
    pub legal : AreLegal g [] (events_of (h.made ++ h.doubt))
    pub is_there : IsThere storage.files g h place
    pub means : Means g place

  -- Along the moves, from each place that they led to, one commit order goes on, and after each of them this is known.
  abbrev pub Along : Graph → (moves : List (Move D)) (from to : Place D) → LeadsAll storage moves from to → History → History → Type 0
  Along g [] from to leads before after = after ≡ before
  Along g (move ∷ moves) from to leads before after = (next : History) × Extends move from leads.0 before next × IsKnown g next leads.0 × Along g moves leads.0 to leads.2 next after

  -- What holds of a list of moves from a creation: this is known of the new store, and along the moves. What a move acknowledged comes after all that was made before the move,
  -- and is there at the end.
  pub record Holds (core : Core D) (moves : List (Move D)) (place : Place D) (leads : LeadsAll storage moves (at_core core) place) : Type 0 where
    pub first : IsKnown (graph core) begun (at_core core)
    pub history : History
    pub along : Along (graph core) moves (at_core core) place leads begun history
    pub acknowledged : (one two : List (Move D)) (move : Move D) → moves ≡ one ++ move ∷ two
        → (at : Place D) × (earlier : History) × ExtendsAll one (at_core core) at begun earlier × ((later : List Commit) × (history.made ≡ earlier.made ++ acknowledged_by move ++ later))

  -- However often a store is stopped, before or within any disk write, and whichever steps are committed, in whatever order: of every list of moves from a creation that
  -- returned `Ok`, this holds.
  abbrev pub ForEverySchedule : Type 0
  ForEverySchedule =
      (text : List ℕ) (core : Core D) (moves : List (Move D)) (place : Place D) → IsCreated storage text core → Keeps storage core
      → (leads : LeadsAll storage moves (at_core core) place) → Holds core moves place leads
