use Rattle.std.proofs.Common.{true, false, refl}
use Rattle.disk.specs.declared.error.DiskError.TheVariants.{Device}
use Rattle.disk.specs.declared.record.Call.{Call}
use Rattle.disk.specs.declared.record.Change.TheVariants.{Nothing}
use Rattle.disk.specs.Side.{pick}
use Rattle.disk.proofs.Calls.{kept_left, quiet_file, elapses_kept, nothing_touches, ended}
use Rattle.disk.proofs.mem_disk.MemDiskDisk.len.Goals as goal

pub invariant_of-self : goal.invariant_of-self
invariant_of-self c =
    let call : Call = record { side = c.args.side; change = Nothing; failed = true } in
    record { reads_left = kept_left call _ _ (pick c.args.self.now.a.items c.args.self.now.b.items) nothing_touches c.args.self.now.reads_left c.in_err-change.field-0.0 c.in_err-change.ensures.err }

pub returns-in_err-change-clause-same : goal.returns-in_err-change-clause-same
returns-in_err-change-clause-same c honest =
    let call : Call = record { side = c.args.side; change = Nothing; failed = true } in
    quiet_file call _ _ _ _ refl c.in_err-change.field-0.0 c.in_err-change.ensures.err

pub returns-in_err-change-clause-time : goal.returns-in_err-change-clause-time
returns-in_err-change-clause-time c honest =
    let call : Call = record { side = c.args.side; change = Nothing; failed = true } in
    elapses_kept c.in_err-change.field-0.0 call _ _ c.in_err-change.ensures.err

pub invariant_of-self-2 : goal.invariant_of-self-2
invariant_of-self-2 c =
    let call : Call = record { side = c.args.side; change = Nothing; failed = false } in
    let grown = ended c.args.self.now.history.calls.items _ _ c.args.side _ Nothing c.end.ensures.calls c.in_ok-change.ensures.ok c.in_ok-change.ensures.change in
    record { reads_left = kept_left call _ _ (pick c.args.self.now.a.items c.args.self.now.b.items) nothing_touches c.args.self.now.reads_left Device grown }

pub returns-clause-same : goal.returns-clause-same
returns-clause-same c honest =
    let call : Call = record { side = c.args.side; change = Nothing; failed = false } in
    let grown = ended c.args.self.now.history.calls.items _ _ c.args.side _ Nothing c.end.ensures.calls c.in_ok-change.ensures.ok c.in_ok-change.ensures.change in
    quiet_file call _ _ _ _ refl Device grown

pub returns-clause-time : goal.returns-clause-time
returns-clause-time c honest =
    let call : Call = record { side = c.args.side; change = Nothing; failed = false } in
    let grown = ended c.args.self.now.history.calls.items _ _ c.args.side _ Nothing c.end.ensures.calls c.in_ok-change.ensures.ok c.in_ok-change.ensures.change in
    elapses_kept Device call _ _ grown
