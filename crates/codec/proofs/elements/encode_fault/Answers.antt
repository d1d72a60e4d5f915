use Rattle.std.proofs.Common.{length, arith}
use Rattle.codec.specs.Spelling.{fault_bytes}
use Rattle.codec.proofs.Roomy.{takes_less}
use Rattle.codec.proofs.elements.encode_fault.Goals as goal

pub returns-clause-room : goal.returns-clause-room
returns-clause-room c = takes_less (length (fault_bytes c.args.fault.now)) 96 c.args.out.now c.write_fault.new.out c.write_fault.result (omega (arith, c.fault_is_short.ensures)) c.write_fault.ensures.room
