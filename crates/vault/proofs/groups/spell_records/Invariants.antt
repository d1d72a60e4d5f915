use Rattle.std.proofs.Common.{◌≡◌, ◌≤◌, ◌++◌, ◌-◌, length, drop}
use Rattle.std.specs.List.{AllByRecursion}
use Rattle.terms.specs.declared.key.TheConstants.{MAX_COMPONENTS}
use Rattle.codec.specs.Commits.{IsCommit}
use Rattle.vault.specs.Groups.{groups_of, records_of}
use Rattle.vault.proofs.groups.spell_records.Given as goal

-- what is spelled, and then the records of what is left, are all
abbrev pub invariant-loop-start : goal.invariant-loop-start
invariant-loop-start l = record {
  within : l.start ≤ length l.commit;
  spelled : l.out.items ++ records_of (drop l.start l.commit) ≡ l.fn.out.items ++ records_of l.commit;
  in_range : AllByRecursion (IsCommit MAX_COMPONENTS) (groups_of (drop l.start l.commit)) → AllByRecursion (IsCommit MAX_COMPONENTS) (groups_of l.commit);
}

abbrev pub decreases-loop-start : goal.decreases-loop-start
decreases-loop-start l = length l.commit - l.start
