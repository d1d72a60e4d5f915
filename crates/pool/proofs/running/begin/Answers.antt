use Rattle.pool.proofs.Hands.{hand_stays, same_hand}
use Rattle.pool.proofs.Kept.{kept_stay}
use Rattle.pool.proofs.running.begin.Goals as goal

pub keep-requires-clause-kept : goal.keep-requires-clause-kept
keep-requires-clause-kept g c =
    kept_stay c.facts_are_told_apart.ensures.among c.facts_go_on.ensures.all c.results_are_meant.ensures.stay g.J.Naming.opening c.args.pass.now c.run.new.pass c.args.kept
    c.run.ensures.pass.starts c.requires.kept

pub leave-requires-clause-kept : goal.leave-requires-clause-kept
leave-requires-clause-kept g c =
    kept_stay c.facts_are_told_apart.ensures.among c.facts_go_on.ensures.all c.results_are_meant.ensures.stay g.J.Naming.opening c.args.pass.now c.run.new.pass c.args.kept
    c.run.ensures.pass.starts c.requires.kept

pub wait_for_own-requires-clause-kept : goal.wait_for_own-requires-clause-kept
wait_for_own-requires-clause-kept g c =
    kept_stay c.facts_are_told_apart.ensures.among c.facts_go_on.ensures.all c.results_are_meant.ensures.stay g.J.Naming.opening c.args.pass.now c.run.new.pass c.args.kept
    c.run.ensures.pass.starts c.requires.kept

pub park_beside-requires-clause-kept : goal.park_beside-requires-clause-kept
park_beside-requires-clause-kept g c =
    kept_stay c.facts_are_told_apart.ensures.among c.facts_go_on.ensures.all c.results_are_meant.ensures.stay g.J.Naming.opening c.args.pass.now c.run.new.pass c.args.kept
    c.run.ensures.pass.starts c.requires.kept

pub gives_up-requires-clause-kept : goal.gives_up-requires-clause-kept
gives_up-requires-clause-kept g c =
    kept_stay c.facts_are_told_apart.ensures.among c.facts_go_on.ensures.all c.results_are_meant.ensures.stay g.J.Naming.opening c.args.pass.now c.run.new.pass c.args.kept
    c.run.ensures.pass.starts c.requires.kept

pub keep-requires-clause-hand : goal.keep-requires-clause-hand
keep-requires-clause-hand g c =
    hand_stays g.J.Naming.opening c.args.pass.now.seen c.run.new.pass.seen _ _ c.run.ensures.pass.starts
    (same_hand g.J.Naming.opening c.args.pass.now.seen _ _ _ _ c.note_end.ensures (same_hand g.J.Naming.opening c.args.pass.now.seen _ _ _ _ c.ahead-beside.ensures.same c.requires.hand))

pub leave-requires-clause-hand : goal.leave-requires-clause-hand
leave-requires-clause-hand g c =
    hand_stays g.J.Naming.opening c.args.pass.now.seen c.run.new.pass.seen _ _ c.run.ensures.pass.starts
    (same_hand g.J.Naming.opening c.args.pass.now.seen _ _ _ _ c.note.ensures (same_hand g.J.Naming.opening c.args.pass.now.seen _ _ _ _ c.ahead-beside.ensures.same c.requires.hand))

pub wait_for_own-requires-clause-hand : goal.wait_for_own-requires-clause-hand
wait_for_own-requires-clause-hand g c =
    hand_stays g.J.Naming.opening c.args.pass.now.seen c.run.new.pass.seen _ _ c.run.ensures.pass.starts
    (same_hand g.J.Naming.opening c.args.pass.now.seen _ _ _ _ c.note.ensures (same_hand g.J.Naming.opening c.args.pass.now.seen _ _ _ _ c.ahead-beside.ensures.same c.requires.hand))

pub park_beside-requires-clause-hand : goal.park_beside-requires-clause-hand
park_beside-requires-clause-hand g c =
    hand_stays g.J.Naming.opening c.args.pass.now.seen c.run.new.pass.seen _ _ c.run.ensures.pass.starts
    (same_hand g.J.Naming.opening c.args.pass.now.seen _ _ _ _ c.note_wait.ensures (same_hand g.J.Naming.opening c.args.pass.now.seen _ _ _ _ c.note.ensures (same_hand g.J.Naming.opening c.args.pass.now.seen _ _ _ _ c.ahead-beside.ensures.same c.requires.hand)))

pub gives_up-requires-clause-hand : goal.gives_up-requires-clause-hand
gives_up-requires-clause-hand g c =
    hand_stays g.J.Naming.opening c.args.pass.now.seen c.run.new.pass.seen _ _ c.run.ensures.pass.starts
    (same_hand g.J.Naming.opening c.args.pass.now.seen _ _ _ _ c.ahead-beside.ensures.same c.requires.hand)
