use Rattle.pool.proofs.Hands.{hand_stays, same_hand}
use Rattle.pool.proofs.Kept.{kept_stay}
use Rattle.pool.proofs.resuming.go_on.Goals as goal

pub keep-requires-clause-kept : goal.keep-requires-clause-kept
keep-requires-clause-kept g c =
    kept_stay c.facts_are_told_apart.ensures.among c.facts_go_on.ensures.all c.results_are_meant.ensures.stay g.J.Naming.opening c.args.pass.now c.resume.new.pass c.args.kept
    c.resume.ensures.pass.starts c.requires.kept

pub wait_for_own-requires-then-is_slow-clause-kept : goal.wait_for_own-requires-then-is_slow-clause-kept
wait_for_own-requires-then-is_slow-clause-kept g c =
    kept_stay c.facts_are_told_apart.ensures.among c.facts_go_on.ensures.all c.results_are_meant.ensures.stay g.J.Naming.opening c.args.pass.now c.resume.new.pass c.args.kept
    c.resume.ensures.pass.starts c.requires.kept

pub park_beside-requires-clause-kept : goal.park_beside-requires-clause-kept
park_beside-requires-clause-kept g c =
    kept_stay c.facts_are_told_apart.ensures.among c.facts_go_on.ensures.all c.results_are_meant.ensures.stay g.J.Naming.opening c.args.pass.now c.resume.new.pass c.args.kept
    c.resume.ensures.pass.starts c.requires.kept

pub gives_up-requires-clause-kept : goal.gives_up-requires-clause-kept
gives_up-requires-clause-kept g c =
    kept_stay c.facts_are_told_apart.ensures.among c.facts_go_on.ensures.all c.results_are_meant.ensures.stay g.J.Naming.opening c.args.pass.now c.resume.new.pass c.args.kept
    c.resume.ensures.pass.starts c.requires.kept

pub keep-requires-clause-hand : goal.keep-requires-clause-hand
keep-requires-clause-hand g c =
    hand_stays g.J.Naming.opening c.args.pass.now.seen c.resume.new.pass.seen _ _ c.resume.ensures.pass.starts
    (same_hand g.J.Naming.opening c.args.pass.now.seen _ _ _ _ c.note_end.ensures c.requires.hand)

pub wait_for_own-requires-then-is_slow-clause-hand : goal.wait_for_own-requires-then-is_slow-clause-hand
wait_for_own-requires-then-is_slow-clause-hand g c =
    hand_stays g.J.Naming.opening c.args.pass.now.seen c.resume.new.pass.seen _ _ c.resume.ensures.pass.starts
    (same_hand g.J.Naming.opening c.args.pass.now.seen _ _ _ _ c.note.ensures c.requires.hand)

pub park_beside-requires-clause-hand : goal.park_beside-requires-clause-hand
park_beside-requires-clause-hand g c =
    hand_stays g.J.Naming.opening c.args.pass.now.seen c.resume.new.pass.seen _ _ c.resume.ensures.pass.starts
    (same_hand g.J.Naming.opening c.args.pass.now.seen _ _ _ _ c.note_wait.ensures (same_hand g.J.Naming.opening c.args.pass.now.seen _ _ _ _ c.note.ensures c.requires.hand))

pub gives_up-requires-clause-hand : goal.gives_up-requires-clause-hand
gives_up-requires-clause-hand g c = hand_stays g.J.Naming.opening c.args.pass.now.seen c.resume.new.pass.seen _ _ c.resume.ensures.pass.starts c.requires.hand
