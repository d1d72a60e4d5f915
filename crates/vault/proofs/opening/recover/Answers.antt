use Rattle.std.proofs.Common.{subst}
use Rattle.std.specs.Prelude.{IfOk}
use Rattle.disk.specs.Time.{Contents}
use Rattle.vault.specs.Opened.{IsFound}
use Rattle.vault.proofs.ErredCalls.{tells_behind}
use Rattle.vault.proofs.OpenedCalls.{then_reads, same_contents}
use Rattle.vault.proofs.opening.recover.Goals as goal

pub returns-clause-found : goal.returns-clause-found
returns-clause-found g c honest =
    let files = g.D.Disk.files in
    subst (λ (contents : Contents). IfOk c.look.result (IsFound contents)) (same_contents (files c.args.disk.now) (files c.settle.new.disk) (c.settle.ensures.only_reads honest).reads) (c.look.ensures.found honest)

pub returns-clause-tells : goal.returns-clause-tells
returns-clause-tells g c honest =
    let files = g.D.Disk.files in
    tells_behind g.D.Disk.failures g.D.Disk.refusals c.args.disk.now c.settle.new.disk c.look.new.disk c.settle.ensures.reports.cause.later c.in_ok-settle.ensures.reports.refused _ _
    (same_contents (files c.args.disk.now) (files c.settle.new.disk) (c.settle.ensures.only_reads honest).reads) c.look.result (c.look.ensures.tells honest)

pub returns-clause-only_reads : goal.returns-clause-only_reads
returns-clause-only_reads g c honest =
    then_reads g.D.Disk c.args.disk.now c.settle.new.disk c.look.new.disk (c.settle.ensures.only_reads honest) (c.look.ensures.only_reads honest)
