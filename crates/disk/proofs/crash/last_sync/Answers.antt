use Rattle.std.proofs.Common.{arith}
use Rattle.disk.proofs.Touched.{since_sync, since_other}
use Rattle.disk.proofs.crash.last_sync.Goals as goal
use Rattle.disk.proofs.crash.last_sync.Goals.{in-Some, in_default}

pub loop-index-preserved : goal.loop-index-preserved
loop-index-preserved c = elim c.match-syncs.branch [
  | in-Some w ↦ rw (w.synced-is, w.behind-is) (record {
    within = omega arith;
    since = since_sync c.args.calls.now c.loop-index.index c.index-calls-index.result (omega arith) c.index-calls-index.is c.args.side w.in-Some.content.now w.in-Some.ensures;
  })
  | in_default w ↦ rw (w.synced-is, w.behind-is) (record {
    within = omega (arith, c.loop-index.invariant.within);
    since = since_other c.args.calls.now c.loop-index.index c.index-calls-index.result (omega arith) c.index-calls-index.is c.args.side c.loop-index.synced.now c.loop-index.behind c.loop-index.invariant.within w.in_default.ensures c.loop-index.invariant.since;
  })
]
