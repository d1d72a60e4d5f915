use Rattle.vault.proofs.PiecesMoments.{stays_on, cut_moments, pieces_moments, synced_moments}
use Rattle.vault.proofs.gates.write_behind.Goals as goal

pub returns-in_err-cut-clause-any_moment : goal.returns-in_err-cut-clause-any_moment
returns-in_err-cut-clause-any_moment g c honest =
    cut_moments g.D.Disk.files g.D.Disk.moment g.D.Disk.left_at c.args.side (g.met.D.Disk.at_now honest) c.args.disk.now c.cut.new.self (c.requires.shut honest)
    (c.cut.ensures.other honest) (c.cut.ensures.time honest) _ c.cut.result (c.cut.ensures.file honest)

pub returns-in_err-write_pieces-clause-any_moment : goal.returns-in_err-write_pieces-clause-any_moment
returns-in_err-write_pieces-clause-any_moment g c honest =
    pieces_moments g.D.Disk.files g.D.Disk.moment g.D.Disk.left_at c.args.side (g.met.D.Disk.at_now honest) c.args.disk.now c.cut.new.self c.write_pieces.new.disk (c.cut.ensures.other honest)
    (cut_moments g.D.Disk.files g.D.Disk.moment g.D.Disk.left_at c.args.side (g.met.D.Disk.at_now honest) c.args.disk.now c.cut.new.self (c.requires.shut honest)
    (c.cut.ensures.other honest) (c.cut.ensures.time honest) _ c.cut.result (c.cut.ensures.file honest)) (c.write_pieces.ensures.any_moment honest)

pub returns-clause-any_moment : goal.returns-clause-any_moment
returns-clause-any_moment g c honest =
    let pieces = pieces_moments g.D.Disk.files g.D.Disk.moment g.D.Disk.left_at c.args.side (g.met.D.Disk.at_now honest) c.args.disk.now c.cut.new.self c.write_pieces.new.disk (c.cut.ensures.other honest)
    (cut_moments g.D.Disk.files g.D.Disk.moment g.D.Disk.left_at c.args.side (g.met.D.Disk.at_now honest) c.args.disk.now c.cut.new.self (c.requires.shut honest)
    (c.cut.ensures.other honest) (c.cut.ensures.time honest) _ c.cut.result (c.cut.ensures.file honest)) (c.write_pieces.ensures.any_moment honest) in
    synced_moments g.D.Disk.files g.D.Disk.moment g.D.Disk.left_at c.args.side (g.met.D.Disk.at_now honest) c.args.disk.now c.write_pieces.new.disk c.sync.new.self (g.S.ImageSource.left c.args.behind)
    (c.in_ok-write_pieces.ensures.written honest)
    (stays_on c.args.side (g.D.Disk.files c.args.disk.now) (g.D.Disk.files c.write_pieces.new.disk) (g.D.Disk.files c.sync.new.self)
    (stays_on c.args.side (g.D.Disk.files c.args.disk.now) (g.D.Disk.files c.cut.new.self) (g.D.Disk.files c.write_pieces.new.disk) (c.cut.ensures.other honest) (c.write_pieces.ensures.other honest)) (c.sync.ensures.other honest))
    pieces (c.sync.ensures.time honest) _ c.sync.result (c.sync.ensures.file honest)
