use Rattle.std.proofs.Common.{◌≡◌, ◌+◌, IsTrue, length}
use Rattle.vault.proofs.PiecesMoments.{SoFar}
use Rattle.vault.proofs.gates.write_pieces.Given as goal

abbrev pub invariant-loop-side : goal.invariant-loop-side
invariant-loop-side g l = record {
  so_far : IsTrue g.D.Disk.is_honest → SoFar g.D.Disk.files g.D.Disk.moment g.D.Disk.left_at l.side (g.S.ImageSource.left l.fn.behind) (g.S.ImageSource.left l.behind) l.at l.fn.disk l.disk;
  within : l.at + length (g.S.ImageSource.left l.behind) ≡ 1 + length (g.S.ImageSource.left l.fn.behind);
  failures : g.D.Disk.failures l.disk ≡ g.D.Disk.failures l.fn.disk;
  refusals : g.D.Disk.refusals l.disk ≡ g.D.Disk.refusals l.fn.disk;
}

-- each piece but the last has a byte
abbrev pub decreases-loop-side : goal.decreases-loop-side
decreases-loop-side g l = length (g.S.ImageSource.left l.behind)
