use denote.Param.Send.{sendable}
use denote.Param.SendFields.{as_row_sync, variants_sync}
use Rattle.std.proofs.Crossing.{crosses}
use Rattle.steptree.specs.contracts.code.Instruction as of_instruction
use Rattle.graph.proofs.crossing.instructions_are_shared.Goals as goal

pub returns : goal.returns
returns c = variants_sync of_instruction.enum (search (as_row_sync, sendable, crosses, c.is_shared.ensures, c.is_shared-2.ensures, c.simple_statements_are_shared.ensures, c.formulas_are_shared.ensures) depth 20 fits 3000)
