-- What is there after moves: what the core has, and what a crash may leave of the two files.
use Rattle.std.specs.Prelude.{◌≡◌, false, []}
use Rattle.disk.specs.declared.side.Side.{Side}
use Rattle.disk.specs.File.{File}
use Rattle.disk.specs.Time.{Contents, MayLeaveNow}
use Rattle.terms.specs.Facts.{Fact}
use Rattle.terms.specs.Commits.{facts_behind, environment_behind}
use Rattle.graph.specs.Graph.{Graph}
use Rattle.vault.specs.Commits.{StandsForBeginning}
use Rattle.vault.specs.Store.{HasGates, nothing}
use Rattle.commit.specs.Core.{Core, graph, facts, environment, is_halted}
use Rattle.commit.specs.Runs.{in_one}
use Rattle.moves.specs.Move.{Place, at_core, at_disk}
use Rattle.moves.specs.Order.{History}

-- the core has the state after all that was made; what is in doubt is the commit that it keeps as such, and that is none unless it is halted
pub record Has {D : Type 0} (g : Graph) (h : History) (c : Core D) : Type 0 where
  pub graph : graph c ≡ g
  pub facts : (fact : Fact) → facts c fact ≡ facts_behind nothing h.made fact
  pub environment : (fact : Fact) → environment c fact ≡ environment_behind nothing h.made fact
  pub doubt : h.doubt ≡ in_one c.in_doubt
  pub settled : is_halted c ≡ false → h.doubt ≡ []

-- the two files stand for the state after all that was made and a prefix of what is in doubt; no commit is there in part
abbrev pub MayStand : Graph → History → Contents → Type 0
MayStand g h contents = StandsForBeginning g nothing nothing h.made h.doubt contents

module _ {D : Type 0} (files : D → Side → File) where
  -- a crash now leaves such files, and so do reads; each has its first byte
  abbrev pub LeavesThere : Graph → History → D → Type 0
  LeavesThere g h disk = (contents : Contents) → MayLeaveNow (files disk) contents → MayStand g h contents × HasGates contents

  abbrev pub IsThere : Graph → History → Place D → Type 0
  IsThere g h (at_core c) = Has g h c × LeavesThere g h c.vault.disk
  IsThere g h (at_disk disk) = LeavesThere g h disk
