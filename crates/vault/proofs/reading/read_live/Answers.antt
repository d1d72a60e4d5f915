use Rattle.std.proofs.Common.{sym}
use Rattle.codec.specs.Image.{facts_in, environment_in}
use Rattle.disk.specs.Time.{HasErred}
use Rattle.holdings.specs.Holdings.{image_of}
use Rattle.vault.specs.Opened.{contents_of}
use Rattle.vault.specs.declared.found.Found.{Found}
use Rattle.vault.proofs.ErredCalls.{tells_ok, tells_err}
use Rattle.vault.proofs.reading.read_live.Goals as goal

pub returns-in-Ok-clause-read : goal.returns-in-Ok-clause-read
returns-in-Ok-clause-read g c =
    let kept = c.in-Ok.ensures.kept in
    let held = image_of c.in-Ok.found.holdings in
    record {
      generation = c.in-Ok.found.generation;
      environment = environment_in held;
      facts = facts_in held;
      is_side = kept.is_side;
      starts = kept.starts;
    }

pub returns-in-Ok-clause-found : goal.returns-in-Ok-clause-found
unfolding returns-in-Ok-clause-read
returns-in-Ok-clause-found g c honest =
    let found = c.in-Ok.ensures.found honest in
    record {
      read = returns-in-Ok-clause-read g c;
      side = c.in-Ok.found.journal.side;
      bytes = sym found.kept;
      behind = found.is_live.behind;
    }

pub returns-in-Ok-clause-tells : goal.returns-in-Ok-clause-tells
returns-in-Ok-clause-tells g c honest =
    tells_ok (contents_of (g.D.Disk.files c.args.disk.now)) (HasErred g.D.Disk.failures g.D.Disk.refusals c.args.disk.now c.recover.new.disk) c.in-Ok.found _ (c.in-Ok.ensures.tells honest)

pub returns-in-Err-clause-tells : goal.returns-in-Err-clause-tells
returns-in-Err-clause-tells g c honest =
    tells_err {S = Found} (contents_of (g.D.Disk.files c.args.disk.now)) (HasErred g.D.Disk.failures g.D.Disk.refusals c.args.disk.now c.recover.new.disk) c.in-Err.error (c.in-Err.ensures.tells honest)
