use Rattle.disk.specs.Storage.{Errs}
use Rattle.std.proofs.Common.{◌≡◌, subst, sym}
use Rattle.vault.specs.declared.error.VaultError.TheVariants.{Device, NoMemory}
use Rattle.vault.specs.Opened.{IsOfOpening, OnlyReads, contents_of}
use Rattle.commit.proofs.Answered.{if_err}
use Rattle.commit.proofs.Found.{causes_either, finds_if_ok, of_memory, tells_alike, tells_either}
use Rattle.commit.proofs.Making.{refused_alike}
use Rattle.commit.proofs.commit_core.Core.open.Goals as goal

pub returns-in-Ok : goal.returns-in-Ok
returns-in-Ok g c =
    let again = c.recovered.ensures in record {
      opened = again.opened;
      finds = λ honest. finds_if_ok g.D.Disk.files c.args.disk c.in-Ok.recovered c.recovered.result again.lists (c.in-Ok.ensures.found honest) (c.in-Ok.ensures.only_reads honest).reads;
      tells = λ honest.
          tells_either g.D.Disk c.args.disk c.in-Ok.recovered (contents_of (g.D.Disk.files c.args.disk)) c.recovered.result again.disk again.error (c.in-Ok.ensures.tells honest);
      only_reads = λ honest. subst (λ (d : g.row.D.Denot). OnlyReads g.D.Disk c.args.disk d) (sym again.disk) (c.in-Ok.ensures.only_reads honest);
      errors = if_err c.recovered.result (λ refused. refused.error ≡ NoMemory) (λ refused. IsOfOpening refused.error) (λ refused is. subst IsOfOpening (sym is) of_memory) again.error;
      causes = causes_either g.D.Disk c.args.disk c.in-Ok.recovered c.recovered.result again.disk again.error c.in-Ok.ensures.causes;
    }

pub returns-in-Err : goal.returns-in-Err
returns-in-Err g c = record {
  opened = tt;
  finds = λ _. tt;
  tells = λ honest. tells_alike (contents_of (g.D.Disk.files c.args.disk)) (Errs g.D.Disk c.args.disk c.in-Err.refused.disk) c.in-Err.refused.error (c.in-Err.ensures.tells honest);
  only_reads = c.in-Err.ensures.only_reads;
  errors = c.in-Err.ensures.errors;
  causes = refused_alike g.D.Disk Device NoMemory c.args.disk c.in-Err.refused.disk c.in-Err.ensures.causes;
}
