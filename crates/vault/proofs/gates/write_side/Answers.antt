use Rattle.std.proofs.Common.{◌≡◌, [], ◌∷◌, OnOk, subst, rules}
use Rattle.disk.specs.File.{File, at_rest, overwritten}
use Rattle.vault.proofs.GatesMoments.{closed_moments, written_moments, opened_moments}
use Rattle.vault.proofs.PiecesMoments.{stays_on}
use Rattle.vault.proofs.gates.write_side.Goals as goal

pub returns-clause-written : goal.returns-clause-written
returns-clause-written g c honest =
    let files = g.D.Disk.files in
    let has = c.in_ok-write_behind.ensures.written honest in
    let wrote = c.write_synced.ensures.written honest in
    record {
      written = subst (λ (f : File). OnOk c.write_synced.result (files c.write_synced.new.disk c.args.side ≡ at_rest (overwritten f.content 0 (1 ∷ [])))) has.2 wrote.ok;
      other = stays_on c.args.side (files c.args.disk.now) (files c.write_behind.new.disk) (files c.write_synced.new.disk)
          (stays_on c.args.side (files c.args.disk.now) (files c.close_gate.new.disk) (files c.write_behind.new.disk) (c.close_gate.ensures.other honest) (c.write_behind.ensures.other honest)) wrote.other;
      any_moment = λ there.
          let so_far = written_moments g.D.Disk.files g.D.Disk.moment g.D.Disk.left_at (g.met.D.Disk.at_now honest) c.args.side c.args.disk.now (g.S.ImageSource.left c.args.behind) c.close_gate.new.disk
          (c.close_gate.ensures.other honest) c.write_behind.new.disk (c.close_gate.ensures.any_moment honest there) (c.write_behind.ensures.any_moment honest) in
          opened_moments g.D.Disk.files g.D.Disk.moment g.D.Disk.left_at (g.met.D.Disk.at_now honest) c.args.side c.args.disk.now (g.S.ImageSource.left c.args.behind) c.close_gate.new.disk
          (c.close_gate.ensures.other honest) c.write_behind.new.disk c.write_synced.new.disk has.0 (c.write_behind.ensures.other honest) so_far
          (wrote.any_moment (has.0 ∷ (g.S.ImageSource.left c.args.behind)) has.2);
    }

pub returns-in_err-write_behind-clause-written : goal.returns-in_err-write_behind-clause-written
returns-in_err-write_behind-clause-written g c honest = record {
  written = search rules;
  other = stays_on c.args.side (g.D.Disk.files c.args.disk.now) (g.D.Disk.files c.close_gate.new.disk) (g.D.Disk.files c.write_behind.new.disk) (c.close_gate.ensures.other honest) (c.write_behind.ensures.other honest);
  any_moment = λ there. written_moments g.D.Disk.files g.D.Disk.moment g.D.Disk.left_at (g.met.D.Disk.at_now honest) c.args.side c.args.disk.now (g.S.ImageSource.left c.args.behind) c.close_gate.new.disk
      (c.close_gate.ensures.other honest) c.write_behind.new.disk (c.close_gate.ensures.any_moment honest there) (c.write_behind.ensures.any_moment honest);
}

pub returns-in_err-close_gate-clause-written : goal.returns-in_err-close_gate-clause-written
returns-in_err-close_gate-clause-written g c honest = record {
  written = search rules;
  other = c.close_gate.ensures.other honest;
  any_moment = λ there. closed_moments g.D.Disk.files g.D.Disk.moment g.D.Disk.left_at (g.met.D.Disk.at_now honest) c.args.side c.args.disk.now (g.S.ImageSource.left c.args.behind) c.close_gate.new.disk
      (c.close_gate.ensures.other honest) (c.close_gate.ensures.any_moment honest there);
}
