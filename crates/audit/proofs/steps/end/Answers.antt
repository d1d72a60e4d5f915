use Rattle.std.proofs.Common.{◌∙◌, inr, refl, sym}
use Rattle.std.proofs.lemmas.Bool.{false≢true}
use Rattle.machine.specs.Marked.{marked}
use Rattle.audit.proofs.Forged.{lacks}
use Rattle.audit.proofs.Replaying.{replays_as, still_replayed}
use Rattle.audit.proofs.steps.end.Goals as goal

pub has_all-requires : goal.has_all-requires
has_all-requires c = rw c.as_slice.ensures ((c.given_are_of_graph.ensures c.args.store.now.graph (marked c.args.marks.now) c.args.inst c.args.puts c.is_kept.ensures.graph c.requires.gives).1)

pub returns-then-not-has_all-clause-tried : goal.returns-then-not-has_all-clause-tried
returns-then-not-has_all-clause-tried c = (
  refl,
  inr (lacks c.facts_are_told_apart.ensures.one c.facts_are_told_apart.ensures.among c.ends_once.ensures.one c.args.store.now c.args.marks.now c.requires.replayed c.args.inst c.requires.done c.args.puts c.requires.gives
      (λ all. false≢true (sym c.if-not-has_all.true ∙ c.has_all.ensures.1 (rw c.as_slice.ensures all)))),
)

pub returns-clause-replayed : goal.returns-clause-replayed
returns-clause-replayed c =
    let all = rw c.as_slice.ensures at (c.has_all.ensures.0 c.if-not-has_all.false) in
    let more = rw c.as_slice-2.ensures at c.mark_end.ensures in
    still_replayed c.facts_are_told_apart.ensures.one c.facts_are_told_apart.ensures.among c.args.store.now c.args.marks.now c.is_kept.ensures c.requires.replayed c.args.inst c.requires.left c.args.puts all c.reached_goes_on.ensures.takes c.mark_end.new.marks c.requires.done
    c.requires.prescribed c.requires.gives more

pub returns-clause-tried : goal.returns-clause-tried
returns-clause-tried c =
    let all = rw c.as_slice.ensures at (c.has_all.ensures.0 c.if-not-has_all.false) in
    let more = rw c.as_slice-2.ensures at c.mark_end.ensures in
    replays_as c.facts_are_told_apart.ensures.one c.facts_are_told_apart.ensures.among c.args.store.now c.args.marks.now c.is_kept.ensures c.requires.replayed c.args.inst c.requires.left c.args.puts all c.reached_goes_on.ensures.takes c.mark_end.new.marks c.requires.done
    c.requires.prescribed c.requires.gives more
