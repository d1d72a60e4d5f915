use Rattle.disk.specs.Time.{HasErred}
use Rattle.vault.specs.Opened.{contents_of}
use Rattle.vault.specs.declared.found.Found.{Found}
use Rattle.vault.proofs.ErredCalls.{causes_of_ok, tells_ok, tells_err}
use Rattle.vault.proofs.Ready.{held_is_ready}
use Rattle.vault.proofs.opening.open.Goals as goal

pub returns-in-Ok-clause-found : goal.returns-in-Ok-clause-found
returns-in-Ok-clause-found g c honest =
    let found = c.in-Ok.ensures.found honest in
    record {
      contents = contents_of (g.D.Disk.files c.args.disk);
      rests = c.in-Ok.ensures.rests honest;
      is_live = found.is_live;
      ends = found.ends;
      text = found.text;
    }

pub returns-in-Ok-clause-ready : goal.returns-in-Ok-clause-ready
returns-in-Ok-clause-ready g c honest = held_is_ready g.D.Disk.files c.sides_go_on.ensures.journal _ _ _ _ (returns-in-Ok-clause-found g c honest)

pub returns-in-Ok-clause-tells : goal.returns-in-Ok-clause-tells
returns-in-Ok-clause-tells g c honest = tells_ok (contents_of (g.D.Disk.files c.args.disk)) (HasErred g.D.Disk.failures g.D.Disk.refusals c.args.disk c.recover.new.disk) c.in-Ok.found _ (c.in-Ok.ensures.tells honest)

pub returns-in-Err-clause-tells : goal.returns-in-Err-clause-tells
returns-in-Err-clause-tells g c honest =
    tells_err {S = Found} (contents_of (g.D.Disk.files c.args.disk)) (HasErred g.D.Disk.failures g.D.Disk.refusals c.args.disk c.recover.new.disk) c.in-Err.error (c.in-Err.ensures.tells honest)

pub returns-in-Ok-clause-causes : goal.returns-in-Ok-clause-causes
returns-in-Ok-clause-causes g c = causes_of_ok g.D.Disk.failures g.D.Disk.refusals c.args.disk c.recover.new.disk c.in-Ok.found _ c.in-Ok.ensures.causes
