use Rattle.codec.specs.Commits.{IsCommit, commit_bytes}
use Rattle.codec.specs.Reading.{payload}
use Rattle.codec.proofs.CommitLaws.{payload_agrees, group_of_one}
use Rattle.codec.proofs.WholeLaws.{reads_back, spells_one, begins_no_other}
use Rattle.codec.proofs.law.spellings_of_commits.Goals as goal

pub returns-clause-back : goal.returns-clause-back
returns-clause-back c = reads_back (IsCommit c.args.most) commit_bytes (payload c.args.most) (payload_agrees c.args.most c.requires)

pub returns-clause-one : goal.returns-clause-one
returns-clause-one c = spells_one (IsCommit c.args.most) commit_bytes (payload c.args.most) (payload_agrees c.args.most c.requires)

pub returns-clause-begins : goal.returns-clause-begins
returns-clause-begins c = begins_no_other (IsCommit c.args.most) commit_bytes (payload c.args.most) (payload_agrees c.args.most c.requires)

pub returns-clause-group : goal.returns-clause-group
returns-clause-group c = group_of_one c.args.most c.requires
