use Rattle.commit.proofs.Together.{no_room}
use Rattle.commit.proofs.commit_core.Core.make_ready_for_ends.Goals as goal

pub returns-in-Err-clause-same : goal.returns-in-Err-clause-same
returns-in-Err-clause-same g c = no_room c.args.self.now c.look_at_ends.new.self c.look_at_ends.ensures.same
