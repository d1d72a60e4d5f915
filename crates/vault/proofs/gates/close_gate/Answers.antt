use Rattle.std.proofs.Common.{◌∙◌}
use Rattle.vault.proofs.GatesMoments.{unwritten_moments, closing_moments}
use Rattle.vault.proofs.gates.close_gate.Goals as goal

pub returns-in_err-is_shut-clause-any_moment : goal.returns-in_err-is_shut-clause-any_moment
returns-in_err-is_shut-clause-any_moment g c honest there =
    unwritten_moments g.D.Disk.files g.D.Disk.moment g.D.Disk.left_at (g.met.D.Disk.at_now honest) c.args.side c.args.disk.now c.is_shut.new.disk (c.requires honest) (c.is_shut.ensures.kept honest).any_moment

pub returns-then-branch-clause-any_moment : goal.returns-then-branch-clause-any_moment
returns-then-branch-clause-any_moment g c honest there =
    unwritten_moments g.D.Disk.files g.D.Disk.moment g.D.Disk.left_at (g.met.D.Disk.at_now honest) c.args.side c.args.disk.now c.is_shut.new.disk (c.requires honest) (c.is_shut.ensures.kept honest).any_moment

pub returns-clause-any_moment : goal.returns-clause-any_moment
returns-clause-any_moment g c honest there =
    closing_moments g.D.Disk.files g.D.Disk.moment g.D.Disk.left_at (g.met.D.Disk.at_now honest) c.args.side c.args.disk.now c.is_shut.new.disk c.write_synced.new.disk
    (c.requires honest) (rw c.if-branch.false at c.in_ok-is_shut.ensures.shut honest) there (c.is_shut.ensures.kept honest).same (c.is_shut.ensures.kept honest).any_moment
    ((c.write_synced.ensures.written honest).any_moment (g.D.Disk.files c.args.disk.now c.args.side).content ((c.is_shut.ensures.kept honest).same c.args.side ∙ c.requires honest))
