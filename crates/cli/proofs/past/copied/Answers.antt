use Rattle.std.proofs.Common.{refl, ◌∙◌}
use Rattle.disk.specs.MemDisk.{files_of}
use Rattle.vault.specs.Opened.{contents_of}
use Rattle.cli.proofs.Copied.{is_copy}
use Rattle.cli.proofs.past.copied.Goals as goal

pub returns-in-Ok : goal.returns-in-Ok
returns-in-Ok c read =
    let live = c.args.live in
    let first = c.closed-first.result.items in
    is_copy c.one_store.ensures.one c.in-Ok.copy (contents_of (files_of c.in_ok-disk.disk)) c.args.at live first read
    (c.closed-first.ensures live.graph read.generation read.environment read.facts read.is_side read.starts)
    (c.in_ok-disk.ensures.first ∙ c.deref.ensures.value) c.in_ok-disk.ensures.second (c.in-Ok.ensures.finds refl)
