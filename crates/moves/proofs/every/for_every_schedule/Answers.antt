use Rattle.moves.proofs.Induction.{for_every_schedule}
use Rattle.moves.proofs.every.for_every_schedule.Goals as goal

pub returns : goal.returns
returns g c honest =
    for_every_schedule g.D.Disk honest c.facts_are_told_apart.ensures.among (g.met.D.Disk.at_now honest) (g.met.D.Disk.reads_left honest)
    ((c.stores_go_on.ensures.rest honest).held) c.stores_go_on.ensures.calls.append_leaves ((c.stores_go_on.ensures.gates honest).rest) c.one_store.ensures.one
    c.reached_goes_on.ensures.as_set c.reached_within.ensures.within c.reached_and_quiet.ensures.meaning c.reached_and_quiet.ensures.stopped c.unfinished_wait.ensures.quiet
