use Rattle.std.proofs.Common.{length, ◌≤◌, refl, sym, subst, rules}
use Rattle.std.proofs.lemmas.Result.{err_from_is_err_and}
use Rattle.disk.specs.File.{File, written, write_touches}
use Rattle.disk.specs.Time.{Contents, MayLeaveNow, LeavesOnly}
use Rattle.disk.specs.Storage.{WritesSynced}
use Rattle.disk.specs.Moments.{begun, goes_on, weakened}
use Rattle.disk.specs.Settled.{now_after_sync}
use Rattle.disk.proofs.Durability.{Touches, touches_before, touches_after, leaves_of}
use Rattle.disk.proofs.AtOnce.{write_keeps, failed_sync_keeps, call_keeps_all, failed_sync_keeps_all, kept_at_once, call_at_once}
use Rattle.disk.proofs.synced.write_synced.Goals as goal

pub returns-in_err-write_at-clause-written : goal.returns-in_err-write_at-clause-written
returns-in_err-write_at-clause-written g c honest =
    let files = g.D.Disk.files in
    let side = c.args.side in
    let at = c.args.at in
    let n = length c.args.bytes.now in
    let old = c.args.disk.now in
    let mid = c.write_at.new.self in
    let now = g.met.D.Disk.at_now honest in
    let P : Contents → Type 0 = Touches side at n (files old) in
    let start = begun g.D.Disk.moment g.D.Disk.left_at old P (λ contents left. touches_before side at n (files old) contents ((now old contents).0 left)) in
    let touched : LeavesOnly g.D.Disk.moment g.D.Disk.left_at old mid P = goes_on g.D.Disk.moment g.D.Disk.left_at old old mid P start (c.write_at.ensures.time honest)
    (λ contents left. touches_after side at n _ (written at c.args.bytes.now) c.write_at.result (files old) (files mid) refl (c.write_at.ensures.file honest) (c.write_at.ensures.other honest) contents ((now mid contents).0 left)) in
    let keeps : (contents : Contents) → MayLeaveNow (files old) contents → MayLeaveNow (files mid) contents =
    write_keeps _ side (written at c.args.bytes.now) (write_touches (files old side).durable at n) c.write_at.result (files old) (files mid) refl (c.write_at.ensures.file honest) (c.write_at.ensures.other honest) in
    let p = err_from_is_err_and c.from_residual.result c.from_residual.ensures.1 in
    subst (λ r. WritesSynced g.D.Disk side at c.args.bytes.now old mid r) (sym p.1) (record {
      ok = tt;
      other = c.write_at.ensures.other honest;
      touches = touched;
      any_moment = λ synced is. weakened g.D.Disk.moment g.D.Disk.left_at old mid _ _ touched (leaves_of side at n (files old) synced is (subst (λ (f : File). at ≤ length f.content) is (c.requires honest)));
      at_once = kept_at_once files g.D.Disk.moment g.D.Disk.left_at now old mid (c.write_at.ensures.time honest) keeps;
      err = keeps;
      err_moments = call_keeps_all files g.D.Disk.moment g.D.Disk.left_at now old mid (c.write_at.ensures.time honest) keeps;
    })

pub returns-clause-written : goal.returns-clause-written
returns-clause-written g c honest =
    let files = g.D.Disk.files in
    let side = c.args.side in
    let at = c.args.at in
    let n = length c.args.bytes.now in
    let old = c.args.disk.now in
    let mid = c.write_at.new.self in
    let new = c.sync.new.self in
    let now = g.met.D.Disk.at_now honest in
    let P : Contents → Type 0 = Touches side at n (files old) in
    let start = begun g.D.Disk.moment g.D.Disk.left_at old P (λ contents left. touches_before side at n (files old) contents ((now old contents).0 left)) in
    let after : (contents : Contents) → MayLeaveNow (files mid) contents → P contents =
    touches_after side at n _ (written at c.args.bytes.now) c.write_at.result (files old) (files mid) refl (c.write_at.ensures.file honest) (c.write_at.ensures.other honest) in
    let wrote = goes_on g.D.Disk.moment g.D.Disk.left_at old old mid P start (c.write_at.ensures.time honest) (λ contents left. after contents ((now mid contents).0 left)) in
    let touched : LeavesOnly g.D.Disk.moment g.D.Disk.left_at old new P = goes_on g.D.Disk.moment g.D.Disk.left_at old mid new P wrote (c.sync.ensures.time honest)
    (λ contents left. after contents (now_after_sync _ side c.sync.result (files mid) (files new) (c.sync.ensures.file honest) (c.sync.ensures.other honest)
    (g.met.D.Disk.reads_left honest mid side) contents ((now new contents).0 left))) in
    let keeps : (contents : Contents) → MayLeaveNow (files old) contents → MayLeaveNow (files mid) contents =
    write_keeps _ side (written at c.args.bytes.now) (write_touches (files old side).durable at n) c.write_at.result (files old) (files mid) refl (c.write_at.ensures.file honest) (c.write_at.ensures.other honest) in
    record {
      ok = search rules;
      other = search rules;
      touches = touched;
      any_moment = λ synced is. weakened g.D.Disk.moment g.D.Disk.left_at old new _ _ touched (leaves_of side at n (files old) synced is (subst (λ (f : File). at ≤ length f.content) is (c.requires honest)));
      at_once = call_at_once files g.D.Disk.moment g.D.Disk.left_at now old mid new (c.write_at.ensures.time honest) keeps (c.sync.ensures.time honest);
      err = failed_sync_keeps _ side c.sync.result (files old) (files mid) (files new) (c.sync.ensures.file honest) (c.sync.ensures.other honest) keeps;
      err_moments = failed_sync_keeps_all files g.D.Disk.moment g.D.Disk.left_at now _ side c.sync.result old mid new (c.write_at.ensures.time honest) keeps (c.sync.ensures.time honest) (c.sync.ensures.file honest) (c.sync.ensures.other honest);
    }
