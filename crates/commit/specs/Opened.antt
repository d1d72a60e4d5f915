-- What an opening and a creation return.
use Rattle.disk.specs.Storage.{Errs, ReportsAs}
use Rattle.disk.specs.declared.storage.Disk.{Ghosts}
use Rattle.std.specs.Prelude.{◌≡◌, false, [], Some, Result, Ok, Err, IfOk, IfErr, IsTrue}
use Rattle.disk.specs.declared.side.Side.{Side}
use Rattle.disk.specs.File.{File}
use Rattle.terms.specs.declared.name.Inst.{Inst}
use Rattle.terms.specs.Facts.{done}
use Rattle.graph.specs.Fits.{IsPrescribed}
use Rattle.instances.specs.declared.state.State.TheVariants.{Ready}
use Rattle.machine.specs.Restored.{IsReadyOrDone}
use Rattle.codec.specs.Image.{Lists}
use Rattle.holdings.specs.Holdings.{image_of}
use Rattle.vault.specs.declared.opening.Recovered.{Recovered}
use Rattle.vault.specs.declared.refused.Refused.{Refused}
use Rattle.vault.specs.Opened.{IsOfOpening, OnlyReads, TellsWhy, contents_of}
use Rattle.vault.specs.Store.{answer_of}
use Rattle.vault.specs.declared.error.VaultError.TheVariants.{Device, NoMemory}
use Rattle.vault.specs.Stands.{Stands}
use Rattle.commit.specs.Core.{Core, graph, facts, environment, state_of, is_halted}

-- the disk that a result gives back
abbrev pub disk_of : {D : Type 0} → Result (Core D) (Refused D) → D
disk_of (Ok core) = core.vault.disk
disk_of (Err refused) = refused.disk

-- It is not halted, nothing is in doubt, nothing was committed since, and it may commit 1,000,000,000 steps. No instance runs or waits: each that is prescribed and not done is
-- ready.
pub record IsOpened {D : Type 0} (c : Core D) : Type 0 where
  pub working : is_halted c ≡ false
  pub in_doubt : c.in_doubt ≡ []
  pub latest : c.latest ≡ []
  pub allowance : c.allowance ≡ 1000000000
  pub instances : (instance : Inst) → IsReadyOrDone (state_of c instance)
  pub ready : (instance : Inst) → IsPrescribed (graph c) (facts c) instance → facts c (done instance) ≡ false → state_of c instance ≡ Some Ready

-- it has what an opening gave: the vault, the graph and the facts that were held, and of these the environment put the same
pub record IsCoreOf {D : Type 0} (recovered : Recovered D) (c : Core D) : Type 0 where
  pub vault : c.vault ≡ recovered.vault
  pub graph : graph c ≡ recovered.graph
  pub lists : Lists (image_of recovered.holdings) (environment c) (facts c)

-- it has the graph and the facts that the files stood for when they were opened
abbrev pub Finds : {D : Type 0} → (D → Side → File) → D → Core D → Type 0
Finds files disk c = Stands (contents_of (files disk)) (graph c) (environment c) (facts c)

-- What an opening promises: a core that has what the files stand for; or why there is none, and the disk back. It only reads.
pub record OpensAs {D : Type 0} (storage : Ghosts D) (disk : D) (result : Result (Core D) (Refused D)) : Type 0 where
  pub opened : IfOk result IsOpened
  pub finds : IsTrue storage.is_honest → IfOk result (Finds storage.files disk)
  pub tells : IsTrue storage.is_honest → TellsWhy (contents_of (storage.files disk)) (Errs storage disk (disk_of result)) (answer_of result)
  pub only_reads : IsTrue storage.is_honest → OnlyReads storage disk (disk_of result)
  pub errors : IfErr result (λ refused. IsOfOpening refused.error)
  pub causes : ReportsAs storage Device NoMemory disk (disk_of result) (answer_of result)
