use Rattle.std.proofs.Common.{◌+◌, ℕ, List, [], sym, subst}
use Rattle.std.proofs.lemmas.Bool.{false≢true}
use Rattle.std.proofs.lemmas.List.{take_rest}
use Rattle.journal.specs.Records.{StandsFor}
use Rattle.journal.specs.WholeRecords.{BeginsWith, BeginsWithNone}
use Rattle.sides.specs.Replaying.{IsTakenTo}
use Rattle.sides.proofs.Replayed.{taken_more, none_ends, none_fits}
use Rattle.sides.proofs.replay.take_commits.Goals as goal

pub returns-then-not-branch-clause-commits : goal.returns-then-not-branch-clause-commits
returns-then-not-branch-clause-commits c =
    let journal = c.args.journal.now in
    let end = c.loop-payload.end in
    let payload = c.in-Some.payload.now in
    none_fits c.spellings_of_commits.ensures.one c.records_lead.ensures.begins c.records_lead.ensures.one c.records_lead.ensures.closed c.fitting.ensures.parts c.fitting.ensures.events_as_set
    c.args.graph.now c.args.holdings.now c.loop-payload.holdings journal payload end c.loop-payload.invariant.taken
    (subst (BeginsWith payload) (take_rest journal end) c.in-Some.ensures) (c.in_ok-take_commit.ensures.refused c.if-not-branch.true)

pub loop-payload-preserved : goal.loop-payload-preserved
loop-payload-preserved c =
    let journal = c.args.journal.now in
    let end = c.loop-payload.end in
    let payload = c.in-Some.payload.now in
    let graph = c.args.graph.now in
    let old = c.args.holdings.now in
    let new = c.take_commit.new.holdings in
    record {
      taken = subst (λ (count : ℕ). IsTakenTo graph old new journal (end + count)) (sym c.record_length.ensures)
          (taken_more c.facts_are_told_apart.ensures.among c.facts_go_on.ensures.all c.facts_go_on.ensures.environment c.fitting.ensures.parts c.fitting.ensures.events_as_set
          graph old c.loop-payload.holdings new journal payload end c.loop-payload.invariant.taken
          (subst (BeginsWith payload) (take_rest journal end) c.in-Some.ensures) (c.in_ok-take_commit.ensures.taken c.if-not-branch.false));
      numbered = c.in_ok-take_commit.ensures.numbered c.if-not-branch.false;
    }

pub returns-clause-commits : goal.returns-clause-commits
returns-clause-commits c =
    let journal = c.args.journal.now in
    let end = c.loop-payload.end in
    none_ends c.spellings_of_commits.ensures.one c.records_lead.ensures.begins c.args.graph.now c.args.holdings.now c.loop-payload.holdings journal end c.loop-payload.invariant.taken
    (subst BeginsWithNone (take_rest journal end) c.in_default.ensures)
    (λ closed. false≢true (c.if-begins_closed.ensures.1 (subst (λ (back : List ℕ). StandsFor back []) (sym (take_rest journal end)) closed)))
