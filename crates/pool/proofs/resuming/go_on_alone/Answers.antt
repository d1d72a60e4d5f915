use Rattle.pool.proofs.Hands.{hand_stays, same_hand}
use Rattle.pool.proofs.resuming.go_on_alone.Goals as goal

pub keep-requires-clause-hand : goal.keep-requires-clause-hand
keep-requires-clause-hand g c =
    hand_stays g.J.Naming.opening c.args.pass.now.seen c.resume.new.pass.seen _ _ c.resume.ensures.pass.starts (same_hand g.J.Naming.opening c.args.pass.now.seen _ _ _ _ c.note_end.ensures c.requires.hand)

pub park-requires-clause-hand : goal.park-requires-clause-hand
park-requires-clause-hand g c = hand_stays g.J.Naming.opening c.args.pass.now.seen c.resume.new.pass.seen _ _ c.resume.ensures.pass.starts c.requires.hand

pub gives_up-requires-clause-hand : goal.gives_up-requires-clause-hand
gives_up-requires-clause-hand g c = hand_stays g.J.Naming.opening c.args.pass.now.seen c.resume.new.pass.seen _ _ c.resume.ensures.pass.starts c.requires.hand
