-- The live side of a store as it was read, and what the store was after its first commits.
use Rattle.std.specs.Prelude.{◌≡◌, ℕ}
use Rattle.disk.specs.declared.side.Side.{Side}
use Rattle.disk.specs.Time.{Contents}
use Rattle.terms.specs.Sets.{Facts}
use Rattle.graph.specs.Graph.{Graph}
use Rattle.sides.specs.First.{environment_then, facts_then}
use Rattle.sides.specs.Side.{IsSide, start_of}
use Rattle.vault.specs.declared.reading.LiveSide.{LiveSide}
use Rattle.vault.specs.Stands.{IsBehind, IsLive, other_side}

-- the bytes that were read are a side of this graph, whose journal begins at this position
pub record IsSideOf (live : LiveSide) : Type 0 where
  pub generation : ℕ
  pub environment : Facts
  pub facts : Facts
  pub is_side : IsSide live.bytes.items live.graph generation environment facts
  pub starts : live.start ≡ start_of is_side

-- they are, and the files have them as their live side
pub record IsLiveSide (contents : Contents) (live : LiveSide) : Type 0 where
  pub read : IsSideOf live
  pub side : Side
  pub bytes : contents side ≡ live.bytes.items
  pub behind : IsBehind (contents (other_side side)) read.generation

-- The files stand for a store of this graph. These were its facts, and those of them that the environment put, after the first commits since
-- its last turnover: after this many, or after all if there are no more.
pub record StoodAfter (count : ℕ) (contents : Contents) (g : Graph) (E X : Facts) : Type 0 where
  pub live : Side
  pub generation : ℕ
  pub environment_now : Facts
  pub facts_now : Facts
  pub is_live : IsLive contents live generation g environment_now facts_now
  pub environment : E ≡ environment_then count is_live.is_side
  pub facts : X ≡ facts_then count is_live.is_side
