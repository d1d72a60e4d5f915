-- When instructions are the code of a block.
use Rattle.std.specs.Prelude.{◌≡◌, ℕ, List, Option, Some, None, slice_get}
use Rattle.steptree.specs.Tree.{Expression, End, Do, If, For}
use Rattle.steptree.specs.Simple.{NumberedSimple, Block}
use Rattle.steptree.specs.declared.simple.Simple.TheVariants.{Assign}
use Rattle.steptree.specs.declared.code.Formula.{Formula}
use Rattle.steptree.specs.declared.code.Instruction.{Instruction}
use Rattle.steptree.specs.declared.code.Instruction.TheVariants as instruction
use Rattle.steptree.specs.Executed.{expression_of}

-- the instruction is at this place
abbrev pub Stands : List Instruction → ℕ → Instruction → Type 0
Stands code at one = slice_get code at ≡ Some one

-- the simple statement that an instruction is made of, and the place where it goes on; an assignment has an instruction of its own
abbrev pub simple_of : Instruction → Option (NumberedSimple × ℕ)
simple_of (instruction.Assign variable value next) = Some (Assign variable (expression_of value), next)
simple_of (instruction.Do (Assign variable value) next) = None
simple_of (instruction.Do statement next) = Some (statement, next)
simple_of one = None

-- the instructions from `at` on do what the block does, and then go on at `stop`
abbrev pub IsCode : List Instruction → ℕ → Block → ℕ → Type 0
IsCode code at End stop = at ≡ stop
IsCode code at (Do statement rest) stop = (one : Instruction) × (next : ℕ)
    × Stands code at one × (simple_of one ≡ Some (statement, next)) × IsCode code next rest stop
IsCode code at (If condition first second rest) stop = (formula : Formula) × (one : ℕ) × (two : ℕ) × (next : ℕ)
    × Stands code at (instruction.Branch formula one two) × (expression_of formula ≡ condition)
    × IsCode code one first next × IsCode code two second next × IsCode code next rest stop
IsCode code at (For variable from to block rest) stop = (turn : ℕ) × (begin : ℕ) × (after : ℕ)
    × Stands code at (instruction.For variable from to turn begin after)
    × Stands code turn instruction.Turn × IsCode code begin block turn × IsCode code after rest stop

-- what stood in the old list stands in the new one
abbrev pub Keeps : List Instruction → List Instruction → Type 0
Keeps old new = (at : ℕ) (one : Instruction) → Stands old at one → Stands new at one

-- at `at` the code does the statement, and goes on with whatever block is at `next`
abbrev pub Compiles : (Block → Block) → List Instruction → ℕ → List Instruction → ℕ → Type 0
Compiles statement old next new at = (rest : Block) (stop : ℕ) → IsCode old next rest stop → IsCode new at (statement rest) stop

-- at `at` the code does the loop, and goes on with whatever block is at `next`
abbrev pub CompilesLoop : ℕ → Expression → Expression → Block → List Instruction → ℕ → List Instruction → ℕ → Type 0
CompilesLoop variable from to block = Compiles (For variable from to block)
