use Rattle.vault.proofs.GoesOn as store
use Rattle.vault.proofs.history.stores_go_on.Goals as goal

pub returns-clause-calls : goal.returns-clause-calls
returns-clause-calls g c =
    let among = c.facts_are_told_apart.ensures.among in
    let all = c.facts_go_on.ensures.all in
    let environment = c.facts_go_on.ensures.environment in
    record {
      begun = store.begun g.D.Disk;
      appended = store.appended g.D.Disk among all environment;
      refused = store.refused g.D.Disk;
      ready = store.ready g.D.Disk c.sides_go_on.ensures.journal;
      append_leaves = store.append_leaves g.D.Disk among all environment;
      turn_leaves = store.turn_leaves g.D.Disk;
    }

pub returns-clause-rest : goal.returns-clause-rest
returns-clause-rest g c honest =
    let at_now = g.met.D.Disk.at_now honest in
    record { held = store.held_leaves g.D.Disk at_now; commits = store.rest_leaves g.D.Disk at_now }

pub returns-clause-gates : goal.returns-clause-gates
returns-clause-gates g c honest =
    let at_now = g.met.D.Disk.at_now honest in
    let reads_left = g.met.D.Disk.reads_left honest in
    record { rest = store.gates_rest g.D.Disk at_now; stay = store.gates_stay g.D.Disk at_now reads_left; go_on = store.gates_go_on g.D.Disk reads_left }

pub returns-clause-finds : goal.returns-clause-finds
returns-clause-finds g c = store.finds g.D.Disk c.sides_go_on.ensures.as_set c.one_store.ensures.one

pub returns-clause-goes_on : goal.returns-clause-goes_on
returns-clause-goes_on g c honest = store.goes_on g.D.Disk c.sides_go_on.ensures.as_set c.one_store.ensures.one (g.met.D.Disk.reads_left honest)
