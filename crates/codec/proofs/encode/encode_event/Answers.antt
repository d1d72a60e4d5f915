use Rattle.std.proofs.Common.{rules}
use Rattle.std.proofs.lemmas.List.{append_assoc}
use Rattle.std.proofs.lemmas.Result.{IfOk-equal}
use Rattle.codec.proofs.Appended.{kept_in_front}
use Rattle.codec.proofs.encode.encode_event.Goals as goal

pub returns-in_ok-write_address-in-EnvItem-clause-spelled : goal.returns-in_ok-write_address-in-EnvItem-clause-spelled
returns-in_ok-write_address-in-EnvItem-clause-spelled c = search (rules, IfOk-equal, append_assoc)

pub returns-in_ok-write_address-in-EnvItem-clause-kept : goal.returns-in_ok-write_address-in-EnvItem-clause-kept
returns-in_ok-write_address-in-EnvItem-clause-kept c = search (rules, kept_in_front)
