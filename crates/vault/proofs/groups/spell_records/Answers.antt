use Rattle.std.proofs.Common.{refl}
use Rattle.terms.specs.declared.key.TheConstants.{MAX_COMPONENTS}
use Rattle.codec.specs.Commits.{IsCommit}
use Rattle.vault.proofs.Grouped.{within, spelled_on, in_range_on}
use Rattle.vault.proofs.groups.spell_records.Goals as goal

pub loop-start-preserved : goal.loop-start-preserved
loop-start-preserved c =
    let commit = c.args.commit.now in
    let start = c.loop-start.start in
    let more = c.loop-start-test.true in
    record {
      within = within commit start _ more refl;
      spelled = spelled_on commit start _ more refl _ _ _ c.in_ok-spell_record.ensures.spelled c.loop-start.invariant.spelled;
      in_range = λ others. c.loop-start.invariant.in_range (in_range_on commit start _ more refl (IsCommit MAX_COMPONENTS) c.in_ok-spell_record.ensures.in_range others);
    }
