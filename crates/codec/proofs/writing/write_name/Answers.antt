use Rattle.std.proofs.Common.{rules}
use Rattle.codec.proofs.Appended.{kept_in_front}
use Rattle.codec.proofs.writing.write_name.Goals as goal

pub returns-clause-kept : goal.returns-clause-kept
returns-clause-kept c = search (rules, kept_in_front)
