use Rattle.std.proofs.Common.{◌≡◌, ◌∙◌, sym, subst, length, arith, rules, List, Err}
use Rattle.terms.specs.declared.event.Event.{Event}
use Rattle.machine.specs.GroupLaws.{IsOfEnds}
use Rattle.commit.specs.Batch.{GivesBackAll}
use Rattle.commit.proofs.Answered.{on_err}
use Rattle.commit.proofs.Batches.{all_run as each_runs, as_many_instances as as_many}
use Rattle.commit.proofs.Roomy.{halts}
use Rattle.commit.proofs.Together.{all_run, finishes, gives_back, halts_first, refused_first, run_after, tried_within}
use Rattle.commit.proofs.commit_core.Core.end_all.Goals as goal

pub commit_ends-answer-requires-clause-tasks : goal.commit_ends-answer-requires-clause-tasks
commit_ends-answer-requires-clause-tasks g c = record {
  ended = search rules;
  running =
      run_after c.args.self.now c.make_ready_for_ends.new.self c.make_ready_for_ends.ensures.same c.args.tasks (each_runs c.args.self.now.machine c.args.ends.items c.args.tasks c.requires.ended c.requires.here);
  some = search rules;
}

pub release_all-requires : goal.release_all-requires
release_all-requires g c =
    run_after c.args.self.now c.make_ready_for_ends.new.self c.make_ready_for_ends.ensures.same c.args.tasks (each_runs c.args.self.now.machine c.args.ends.items c.args.tasks c.requires.ended c.requires.here)

pub returns-in-Ok : goal.returns-in-Ok
returns-in-Ok g c =
    let old = c.args.self.now in
    let mid = c.make_ready_for_ends.new.self in
    let new = c.commit_ends-answer.new.self in
    let room = c.make_ready_for_ends.ensures.same in
    let it = c.commit_ends-answer.ensures in
    let result = c.commit_ends-answer.result in
    let commit = c.make_ready_for_ends.new.ends.items in
    let looked = c.in-Ok.ensures.together in
    let of_ends : IsOfEnds c.args.ends.items commit = subst (λ (list : List Event). IsOfEnds c.args.ends.items list) (sym looked.1) (c.cut_in_turn.ensures old.machine c.args.ends.items c.in-Ok.ended c.requires.here looked.0) in
    let counted : length c.args.ends.items ≡ length c.args.tasks = as_many old.machine c.args.ends.items c.args.tasks c.requires.ended c.requires.here in
    let done = finishes old mid room g.D.Disk new c.args.tasks c.args.ends.items c.in-Ok.ended commit result looked.0 looked.1 (of_ends.some c.requires.some)
    it.ok it.refused.refused it.refused.full it.halts.doubt it.moments
    in
    let back = on_err result (GivesBackAll mid new c.args.tasks) (GivesBackAll old new c.args.tasks) (gives_back old mid room new c.args.tasks) it.err in
    let halting = halts old mid room g.D.Disk new result it.halts.halts in
    record {
      finishes = done;
      err = back;
      halts = halting;
      runs = λ working.
          all_run g.D.Disk c.taken_in_turn.ensures c.cut_in_turn.ensures
          (λ _. c.stores_go_on.ensures.calls.append_leaves) (λ on. (c.stores_go_on.ensures.rest on).held) (λ on. (c.stores_go_on.ensures.rest on).commits) (λ on. (c.stores_go_on.ensures.gates on).rest)
          old new c.args.tasks c.args.ends.items result working (c.is_kept.ensures.settled working) c.requires.here c.is_kept.ensures.kept c.is_kept-in-Ok.ensures.kept done
          (tried_within old mid room g.D.Disk new c.args.tasks c.args.ends.items c.in-Ok.ended commit result looked.0 looked.1 (of_ends.some c.requires.some) it.ok it.refused.refused it.refused.full it.halts.doubt it.moments
          of_ends.few counted it.within)
          back halting;
    }

pub returns-in-Err : goal.returns-in-Err
returns-in-Err g c =
    let old = c.args.self.now in
    let mid = c.make_ready_for_ends.new.self in
    let new = c.release_all.new.self in
    let room = c.make_ready_for_ends.ensures.same in
    let error = c.in-Err.error in
    let why = c.in-Err.ensures.refused in
    let done = refused_first old mid room g.D.Disk new c.args.tasks c.args.ends.items error why c.release_all.ensures.vault
    (λ on. (c.stores_go_on.ensures.rest on).held) (λ on. (c.stores_go_on.ensures.gates on).rest) c.is_kept.ensures.kept
    in
    let back = gives_back old mid room new c.args.tasks c.release_all.ensures.back in
    let halting = halts_first g.D.Disk old new error why (c.release_all.ensures.vault ∙ room.vault) (c.release_all.ensures.in_doubt ∙ room.in_doubt) in
    record {
      finishes = done;
      err = back;
      halts = halting;
      runs = λ working.
          all_run g.D.Disk c.taken_in_turn.ensures c.cut_in_turn.ensures
          (λ _. c.stores_go_on.ensures.calls.append_leaves) (λ on. (c.stores_go_on.ensures.rest on).held) (λ on. (c.stores_go_on.ensures.rest on).commits) (λ on. (c.stores_go_on.ensures.gates on).rest)
          old new c.args.tasks c.args.ends.items (Err error) working (c.is_kept.ensures.settled working) c.requires.here c.is_kept.ensures.kept c.is_kept-in-Err.ensures.kept done (omega arith) back halting;
    }
