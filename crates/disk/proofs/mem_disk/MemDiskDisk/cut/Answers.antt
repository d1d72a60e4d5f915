use Rattle.std.proofs.Common.{◌∙◌, true, false, refl, subst, sym}
use Rattle.std.proofs.lemmas.Result.{err_from_is_err_and}
use Rattle.disk.specs.declared.error.DiskError.TheVariants.{Device}
use Rattle.disk.specs.declared.record.Call.{Call}
use Rattle.disk.specs.declared.record.Change.TheVariants.{Cut}
use Rattle.disk.specs.Side.{pick}
use Rattle.disk.specs.Calls.{durable_of}
use Rattle.disk.specs.File.{MayLeave, cut_touches, cut}
use Rattle.disk.proofs.Left.{cut_left}
use Rattle.disk.proofs.Calls.{kept_left, kept_file, kept_other, elapses_kept, cut_only_touches, ended, done_file, done_other, done_left, chosen_same, chosen_other}
use Rattle.disk.proofs.mem_disk.MemDiskDisk.cut.Goals as goal

pub invariant_of-self : goal.invariant_of-self
invariant_of-self c =
    let call : Call = record { side = c.args.side; change = Cut c.args.count; failed = true } in
    record { reads_left = kept_left call _ _ (pick c.args.self.now.a.items c.args.self.now.b.items) (cut_only_touches c.args.count) c.args.self.now.reads_left c.in_err-change.field-0.0 c.in_err-change.ensures.err }

pub returns-in_err-change-clause-file : goal.returns-in_err-change-clause-file
returns-in_err-change-clause-file c honest =
    let p = err_from_is_err_and c.from_residual.result c.from_residual.ensures.1 in
    let call : Call = record { side = c.args.side; change = Cut c.args.count; failed = true } in
    rw (p.1, p.2) (kept_file call _ _ (Unit {0}) _ _ (cut c.args.count) (cut_touches c.args.count) refl c.in_err-change.field-0.0 c.in_err-change.ensures.err)

pub returns-in_err-change-clause-other : goal.returns-in_err-change-clause-other
returns-in_err-change-clause-other c honest =
    let call : Call = record { side = c.args.side; change = Cut c.args.count; failed = true } in
    kept_other call _ _ c.args.self.now.a.items c.args.self.now.b.items c.in_err-change.field-0.0 c.in_err-change.ensures.err

pub returns-in_err-change-clause-time : goal.returns-in_err-change-clause-time
returns-in_err-change-clause-time c honest =
    let call : Call = record { side = c.args.side; change = Cut c.args.count; failed = true } in
    elapses_kept c.in_err-change.field-0.0 call _ _ c.in_err-change.ensures.err

pub invariant_of-self-2 : goal.invariant_of-self-2
invariant_of-self-2 c =
    let call : Call = record { side = c.args.side; change = Cut c.args.count; failed = false } in
    let grown = ended c.args.self.now.history.calls.items _ _ c.args.side _ (Cut c.args.count) c.end.ensures.calls c.in_ok-change.ensures.ok c.in_ok-change.ensures.change in
    let here = c.cut_side.ensures c.args.side ∙ chosen_same c.args.self.now.a.items c.args.self.now.b.items c.args.side _ in
    record {
      reads_left = done_left call _ _ (pick c.args.self.now.a.items c.args.self.now.b.items) (pick c.cut_side.new.a.items c.cut_side.new.b.items) grown c.args.self.now.reads_left
          (subst (MayLeave _) (sym here) (cut_left (durable_of c.args.self.now.history.calls.items c.args.side) (pick c.args.self.now.a.items c.args.self.now.b.items c.args.side) (c.args.self.now.reads_left c.args.side) c.args.count))
          (λ other differs. c.cut_side.ensures other ∙ chosen_other c.args.side other _ _ differs);
    }

pub returns-clause-file : goal.returns-clause-file
returns-clause-file c honest =
    let call : Call = record { side = c.args.side; change = Cut c.args.count; failed = false } in
    let grown = ended c.args.self.now.history.calls.items _ _ c.args.side _ (Cut c.args.count) c.end.ensures.calls c.in_ok-change.ensures.ok c.in_ok-change.ensures.change in
    done_file call _ _ c.args.self.now.a.items c.args.self.now.b.items c.cut_side.new.a.items c.cut_side.new.b.items (cut c.args.count) grown
    (c.cut_side.ensures c.args.side ∙ chosen_same c.args.self.now.a.items c.args.self.now.b.items c.args.side _) refl

pub returns-clause-other : goal.returns-clause-other
returns-clause-other c honest =
    let call : Call = record { side = c.args.side; change = Cut c.args.count; failed = false } in
    let grown = ended c.args.self.now.history.calls.items _ _ c.args.side _ (Cut c.args.count) c.end.ensures.calls c.in_ok-change.ensures.ok c.in_ok-change.ensures.change in
    done_other call _ _ c.args.self.now.a.items c.args.self.now.b.items c.cut_side.new.a.items c.cut_side.new.b.items grown (λ other differs. c.cut_side.ensures other ∙ chosen_other c.args.side other _ _ differs)

pub returns-clause-time : goal.returns-clause-time
returns-clause-time c honest =
    let call : Call = record { side = c.args.side; change = Cut c.args.count; failed = false } in
    let grown = ended c.args.self.now.history.calls.items _ _ c.args.side _ (Cut c.args.count) c.end.ensures.calls c.in_ok-change.ensures.ok c.in_ok-change.ensures.change in
    elapses_kept Device call _ _ grown
