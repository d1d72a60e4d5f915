use Rattle.std.proofs.Common.{ℕ, List, ◌≡◌, ap, rules, ◌∙◌, true, false, refl, subst, sym}
use Rattle.std.proofs.lemmas.Result.{err_from_is_err_and}
use Rattle.disk.specs.declared.error.DiskError.TheVariants.{Device}
use Rattle.disk.specs.declared.record.Call.{Call}
use Rattle.disk.specs.declared.record.Change.TheVariants.{Nothing, Sync}
use Rattle.disk.specs.Side.{pick}
use Rattle.disk.specs.File.{MayLeave, settled}
use Rattle.disk.proofs.Left.{settled_left}
use Rattle.disk.proofs.Calls.{kept_left, kept_other, quiet_file, elapses_kept, nothing_touches, ended, done_file, done_other, done_left}
use Rattle.disk.proofs.mem_disk.MemDiskDisk.sync.Goals as goal

pub invariant_of-self-in-Break-1 : goal.invariant_of-self-in-Break-1
invariant_of-self-in-Break-1 c =
    let call : Call = record { side = c.args.side; change = Nothing; failed = true } in
    record { reads_left = kept_left call _ _ (pick c.args.self.now.a.items c.args.self.now.b.items) nothing_touches c.args.self.now.reads_left c.in_err-_nothing.field-0.0 c.in_err-_nothing.ensures.err }

pub returns-in_err-_nothing-clause-file : goal.returns-in_err-_nothing-clause-file
returns-in_err-_nothing-clause-file c honest =
    let p = err_from_is_err_and c.from_residual.result c.from_residual.ensures.1 in
    let call : Call = record { side = c.args.side; change = Nothing; failed = true } in
    rw p.1 (quiet_file call _ _ _ _ refl c.in_err-_nothing.field-0.0 c.in_err-_nothing.ensures.err c.args.side)

pub returns-in_err-_nothing-clause-other : goal.returns-in_err-_nothing-clause-other
returns-in_err-_nothing-clause-other c honest =
    let call : Call = record { side = c.args.side; change = Nothing; failed = true } in
    kept_other call _ _ c.args.self.now.a.items c.args.self.now.b.items c.in_err-_nothing.field-0.0 c.in_err-_nothing.ensures.err

pub returns-in_err-_nothing-clause-time : goal.returns-in_err-_nothing-clause-time
returns-in_err-_nothing-clause-time c honest =
    let call : Call = record { side = c.args.side; change = Nothing; failed = true } in
    elapses_kept c.in_err-_nothing.field-0.0 call _ _ c.in_err-_nothing.ensures.err

pub invariant_of-self-2 : goal.invariant_of-self-2
invariant_of-self-2 c =
    let call : Call = record { side = c.args.side; change = Sync c.in-Ok.content; failed = false } in
    let grown = ended c.args.self.now.history.calls.items _ _ c.args.side _ (Sync c.in-Ok.content) c.end.ensures.calls c.in_ok-_nothing.ensures.ok refl in
    let copied : c.in-Ok.content.items ≡ c.content.result.now = search rules in
    let same : c.in-Ok.content.items ≡ pick c.args.self.now.a.items c.args.self.now.b.items c.args.side = copied ∙ c.content.ensures in
    record {
      reads_left = done_left call _ _ (pick c.args.self.now.a.items c.args.self.now.b.items) (pick c.args.self.now.a.items c.args.self.now.b.items) grown c.args.self.now.reads_left
          (subst (λ (synced : List ℕ). MayLeave (settled synced) (pick c.args.self.now.a.items c.args.self.now.b.items c.args.side)) (sym same) (settled_left _ _ (c.args.self.now.reads_left c.args.side)))
          (λ other differs. refl);
    }

pub returns-clause-file : goal.returns-clause-file
returns-clause-file c honest =
    let call : Call = record { side = c.args.side; change = Sync c.in-Ok.content; failed = false } in
    let grown = ended c.args.self.now.history.calls.items _ _ c.args.side _ (Sync c.in-Ok.content) c.end.ensures.calls c.in_ok-_nothing.ensures.ok refl in
    let copied : c.in-Ok.content.items ≡ c.content.result.now = search rules in
    let same : c.in-Ok.content.items ≡ pick c.args.self.now.a.items c.args.self.now.b.items c.args.side = copied ∙ c.content.ensures in
    done_file call _ _ c.args.self.now.a.items c.args.self.now.b.items c.args.self.now.a.items c.args.self.now.b.items (λ file. record { content = file.content; durable = settled file.content }) grown refl (ap settled same)

pub returns-clause-other : goal.returns-clause-other
returns-clause-other c honest =
    let call : Call = record { side = c.args.side; change = Sync c.in-Ok.content; failed = false } in
    let grown = ended c.args.self.now.history.calls.items _ _ c.args.side _ (Sync c.in-Ok.content) c.end.ensures.calls c.in_ok-_nothing.ensures.ok refl in
    done_other call _ _ c.args.self.now.a.items c.args.self.now.b.items c.args.self.now.a.items c.args.self.now.b.items grown (λ other differs. refl)

pub returns-clause-time : goal.returns-clause-time
returns-clause-time c honest =
    let call : Call = record { side = c.args.side; change = Sync c.in-Ok.content; failed = false } in
    let grown = ended c.args.self.now.history.calls.items _ _ c.args.side _ (Sync c.in-Ok.content) c.end.ensures.calls c.in_ok-_nothing.ensures.ok refl in
    elapses_kept Device call _ _ grown
