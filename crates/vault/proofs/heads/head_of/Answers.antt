use Rattle.std.proofs.Common.{List, ℕ, min, ap, subst, ◌∙◌, refl}
use Rattle.disk.specs.File.{File}
use Rattle.sides.specs.Reading.{Tells}
use Rattle.vault.proofs.OpenedCalls.{looked, then_reads}
use Rattle.vault.proofs.OpenedHeads.{head_is, head_tells}
use Rattle.vault.proofs.heads.head_of.Goals as goal

pub returns-in_err-count-clause-only_reads : goal.returns-in_err-count-clause-only_reads
returns-in_err-count-clause-only_reads g c honest =
    looked g.D.Disk (g.met.D.Disk.at_now honest) c.args.disk.now c.len.new.self (c.len.ensures.same honest) (c.len.ensures.time honest)

pub returns-in_err-read-clause-only_reads : goal.returns-in_err-read-clause-only_reads
returns-in_err-read-clause-only_reads g c honest =
    then_reads g.D.Disk c.args.disk.now c.len.new.self c.read.new.self
    (looked g.D.Disk (g.met.D.Disk.at_now honest) c.args.disk.now c.len.new.self (c.len.ensures.same honest) (c.len.ensures.time honest))
    (looked g.D.Disk (g.met.D.Disk.at_now honest) c.len.new.self c.read.new.self (c.read.ensures.same honest) (c.read.ensures.time honest))

pub returns-clause-only_reads : goal.returns-clause-only_reads
returns-clause-only_reads g c honest =
    then_reads g.D.Disk c.args.disk.now c.len.new.self c.read.new.self
    (looked g.D.Disk (g.met.D.Disk.at_now honest) c.args.disk.now c.len.new.self (c.len.ensures.same honest) (c.len.ensures.time honest))
    (looked g.D.Disk (g.met.D.Disk.at_now honest) c.len.new.self c.read.new.self (c.read.ensures.same honest) (c.read.ensures.time honest))

pub returns-clause-tells : goal.returns-clause-tells
returns-clause-tells g c honest =
    let content = (g.D.Disk.files c.args.disk.now c.args.side).content in
    let front = head_is content (g.D.Disk.files c.len.new.self c.args.side).content c.read.new.buffer _ _ c.min-known.result c.in_ok-count.count
    (c.in_ok-read.ensures.value honest) (ap (λ (f : File). f.content) (c.len.ensures.same honest c.args.side)) c.min-known.ensures (c.in_ok-count.ensures.value honest) refl in
    head_tells c.gate_of.result content c.min-known.result (c.min-known.ensures ∙ ap (λ (n : ℕ). min n 10) (c.in_ok-count.ensures.value honest))
    (subst (λ (l : List ℕ). Tells c.gate_of.result l) front c.gate_of.ensures)
