use Rattle.std.proofs.Common.{rules, ◌≡◌, inl, inr, ◌+◌, ◌∷◌, ℕ, drop, sym, ap, subst, ◌∙◌}
use Rattle.std.proofs.lemmas.List.{take_rest}
use Rattle.terms.specs.Commits.{Commit}
use Rattle.journal.specs.WholeRecords.{BeginsWith, BeginsWithNone}
use Rattle.sides.specs.NextCommit.{StandForCommits}
use Rattle.sides.proofs.Walked.{AreBehind, are_behind, none_whole, no_other}
use Rattle.sides.proofs.next.next_commit.Goals as goal

pub returns-in_default-clause-read : goal.returns-in_default-clause-read
returns-in_default-clause-read c commits stand =
    none_whole c.records_lead.ensures.begins c.args.bytes.now c.args.at (subst BeginsWithNone (take_rest c.args.bytes.now c.args.at) c.in_default.ensures) commits stand

pub returns-in-Ok-clause-read : goal.returns-in-Ok-clause-read
returns-in-Ok-clause-read c commits stand =
    let bytes = c.args.bytes.now in
    let at = c.args.at in
    let payload = c.in-Some.payload.now in
    let law = c.records_lead.ensures in
    let begins : BeginsWith payload (drop at bytes) = subst (BeginsWith payload) (take_rest bytes at) c.in-Some.ensures in
    let it : AreBehind bytes payload at commits = are_behind law.first law.begins law.one law.closed bytes payload at begins commits stand in
    let one : it.first ≡ c.decode_payload.new.events.items = c.spellings_of_commits.ensures.one payload it.first c.decode_payload.new.events.items it.spelled c.in-Ok.ensures.spelled in (
      it.more,
      it.are ∙ ap (λ (first : Commit). first ∷ it.more) one,
      subst (λ (count : ℕ). StandForCommits (drop (at + count) bytes) it.more) (sym c.record_length.ensures) it.stand,
    )

pub returns-in-Err : goal.returns-in-Err
returns-in-Err c = record {
  read = tt;
  goes_on = tt;
  damaged = λ place is commits stand.
      let bytes = c.args.bytes.now in
      let at = c.args.at in
      let payload = c.in-Some.payload.now in
      let law = c.records_lead.ensures in
      let begins : BeginsWith payload (drop at bytes) = subst (BeginsWith payload) (take_rest bytes at) c.in-Some.ensures in
      let it : AreBehind bytes payload at commits = are_behind law.first law.begins law.one law.closed bytes payload at begins commits stand in
      elim c.in-Err.ensures.decoded [
        | inl none ↦ absurd (search (rules, none))
        | inr read ↦ no_other payload it.first c.in-Err.field-0 c.spellings_of_commits.ensures.back it.spelled read
      ];
}
