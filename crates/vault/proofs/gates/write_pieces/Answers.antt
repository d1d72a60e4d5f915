use Rattle.std.proofs.Common.{◌+◌, ◌∙◌, ap, length, take, refl, arith, length-append}
use Rattle.std.proofs.lemmas.List.{length-take-le}
use Rattle.vault.proofs.PiecesMoments.{not_failed, nothing_so_far, piece_moments, piece_so_far}
use Rattle.vault.proofs.gates.write_pieces.Goals as goal

pub loop-side-init : goal.loop-side-init
loop-side-init g c = record {
  so_far = λ honest. nothing_so_far g.D.Disk.files g.D.Disk.moment g.D.Disk.left_at c.args.side (g.met.D.Disk.at_now honest) (g.S.ImageSource.left c.args.behind) c.args.disk.now (c.requires.shut honest);
  within = refl;
  failures = refl;
  refusals = refl;
}

pub returns-in_err-write_at-clause-any_moment : goal.returns-in_err-write_at-clause-any_moment
returns-in_err-write_at-clause-any_moment g c honest =
    piece_moments g.D.Disk.files g.D.Disk.moment g.D.Disk.left_at c.args.side (g.met.D.Disk.at_now honest) (g.S.ImageSource.left c.args.behind) (g.S.ImageSource.left c.loop-side.behind)
    c.loop-side.at c.args.disk.now c.loop-side.disk (c.loop-side.invariant.so_far honest) (take c.piece-count.result c.piece-count.new.out) (g.S.ImageSource.left c.piece-count.new.self)
    c.write_at.new.self (c.write_at.ensures.other honest) (c.write_at.ensures.time honest) _ c.write_at.result (c.write_at.ensures.file honest)

pub loop-side-preserved : goal.loop-side-preserved
loop-side-preserved g c =
    let piece = take c.piece-count.result c.piece-count.new.out in
    let rest = g.S.ImageSource.left c.piece-count.new.self in
    let counted = length-take-le c.piece-count.result c.piece-count.new.out (omega (arith, c.piece-count.ensures.within, c.piece-count.ensures.room)) in
    record {
      so_far = λ honest.
          let wrote = piece_moments g.D.Disk.files g.D.Disk.moment g.D.Disk.left_at c.args.side (g.met.D.Disk.at_now honest) (g.S.ImageSource.left c.args.behind) (g.S.ImageSource.left c.loop-side.behind)
          c.loop-side.at c.args.disk.now c.loop-side.disk (c.loop-side.invariant.so_far honest) piece rest
          c.write_at.new.self (c.write_at.ensures.other honest) (c.write_at.ensures.time honest) _ c.write_at.result (c.write_at.ensures.file honest) in
          piece_so_far g.D.Disk.files g.D.Disk.moment g.D.Disk.left_at c.args.side (g.met.D.Disk.at_now honest) (g.S.ImageSource.left c.args.behind) (g.S.ImageSource.left c.loop-side.behind)
          c.loop-side.at c.args.disk.now c.loop-side.disk (c.loop-side.invariant.so_far honest) piece rest
          c.write_at.new.self (c.write_at.ensures.other honest) (c.write_at.ensures.time honest) (c.loop-side.at + c.piece-count.result) (omega (arith, counted)) c.piece-count.ensures.gives (c.in_ok-write_at.ensures.file honest) wrote;
      within = omega (arith, c.loop-side.invariant.within, counted, ap length c.piece-count.ensures.gives, length-append piece rest);
      failures = not_failed (g.D.Disk.failures c.loop-side.disk) (g.D.Disk.failures c.write_at.new.self) c.in_ok-write_at.field-0 c.in_ok-write_at.ensures.cause ∙ c.loop-side.invariant.failures;
      refusals = c.in_ok-write_at.ensures.refused ∙ c.loop-side.invariant.refusals;
    }
