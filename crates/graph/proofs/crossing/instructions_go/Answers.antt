use denote.Param.Send.{sendable}
use denote.Param.SendFields.{as_row_send, variants_send}
use Rattle.std.proofs.Crossing.{crosses}
use Rattle.steptree.specs.contracts.code.Instruction as of_instruction
use Rattle.graph.proofs.crossing.instructions_go.Goals as goal

pub returns : goal.returns
returns c = variants_send of_instruction.enum (search (as_row_send, sendable, crosses, c.goes.ensures, c.goes-2.ensures, c.simple_statements_go.ensures, c.formulas_go.ensures) depth 20 fits 3000)
