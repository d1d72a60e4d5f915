-- What a list of instructions does, from one of its places on.
use Rattle.std.specs.Prelude.{◌≡◌, ℕ, zero, suc, ℤ, pos, ◌+ℤ◌, int_lt, List, [], ◌∷◌, Option, Some, None, if◌then◌else◌, slice_get}
use Rattle.std.specs.Ordering.{int_eq}
use Rattle.steptree.specs.Tree.{Expression, Number, Variable, Operation}
use Rattle.steptree.specs.declared.expression.Operator.TheVariants as operator
use Rattle.steptree.specs.declared.code.Operand.{Operand}
use Rattle.steptree.specs.declared.code.Operand.TheVariants as operand
use Rattle.steptree.specs.declared.code.Pair.{Pair}
use Rattle.steptree.specs.declared.code.Link.{Link}
use Rattle.steptree.specs.declared.code.Link.TheVariants as link
use Rattle.steptree.specs.declared.code.Formula.{Formula}
use Rattle.steptree.specs.declared.code.Formula.TheVariants as formula
use Rattle.steptree.specs.declared.code.Instruction.{Instruction}
use Rattle.steptree.specs.declared.code.Instruction.TheVariants as instruction
use Rattle.steptree.specs.declared.code.Loop.{Loop}
use Rattle.steptree.specs.declared.code.Code.{Code}
use Rattle.steptree.specs.declared.body.Body.{Body}
use Rattle.steptree.specs.declared.body.TheConstants.{BUDGET}
use Rattle.steptree.specs.declared.simple.Simple.TheVariants.{Assign}
use Rattle.steptree.specs.Run.{Read, State, Outcome, ends, strays, counting, given, assigned, doing}
use Rattle.steptree.specs.Values.{value_of}
use Rattle.steptree.specs.Bodies.{begun, outcome_of}

-- the expression that an operand stands for
abbrev pub operand_of : Operand → Expression
operand_of (operand.Number number) = Number number
operand_of (operand.Variable slot) = Variable slot

-- the expression that a pair stands for
abbrev pub pair_of : Pair → Expression
pair_of pair = Operation pair.operator (operand_of pair.left) (operand_of pair.right)

-- the operation that a link makes of an expression: of `a * b`, `Before Subtract c` makes `a * b - c`
abbrev pub linked : Expression → Link → Expression
linked before (link.Before between right) = Operation between before (operand_of right)
linked before (link.After between left) = Operation between (operand_of left) before
linked before (link.BeforePair between right) = Operation between before (pair_of right)

-- what links make of an expression, one after another
abbrev pub chained : Expression → List Link → Expression
chained before [] = before
chained before (first ∷ others) = chained (linked before first) others

-- the expression that a formula computes
abbrev pub expression_of : Formula → Expression
expression_of (formula.Leaf leaf) = operand_of leaf
expression_of (formula.Sum left right) = Operation operator.Add (Variable left) (Variable right)
expression_of (formula.SumWith left right) = Operation operator.Add (Variable left) (Number right)
expression_of (formula.Variables between left right) = Operation between (Variable left) (Variable right)
expression_of (formula.WithNumber between left right) = Operation between (Variable left) (Number right)
expression_of (formula.Two pair) = pair_of pair
expression_of (formula.First between left right) = Operation between (pair_of left) (operand_of right)
expression_of (formula.Second between left right) = Operation between (operand_of left) (pair_of right)
expression_of (formula.FirstThen between inner left right last) = Operation between (Operation inner (pair_of left) (operand_of right)) (operand_of last)
expression_of (formula.SecondThen between inner left right last) = Operation between (Operation inner (operand_of left) (pair_of right)) (operand_of last)
expression_of (formula.Both between left right) = Operation between (pair_of left) (pair_of right)
expression_of (formula.Chain first links) = chained (pair_of first) links.items
expression_of (formula.Deep expression) = expression

-- what comes of a place, with these loops open, the innermost first
abbrev pub Onward : Type 0
Onward = List Loop → ℕ → State → Outcome

-- a loop after its next turn has begun
abbrev pub advanced : Loop → Loop
advanced open_loop = record open_loop { next = open_loop.next +ℤ pos 1 }

-- what an instruction does after it was counted; `onward` says what comes of the place where it goes on
abbrev pub carried_out : Onward → List Loop → Instruction → State → Outcome
carried_out onward loops instruction.End now = ends now
carried_out onward loops (instruction.Assign variable value next) now = doing (Assign variable (expression_of value)) now (onward loops next)
carried_out onward loops (instruction.Branch condition first second) now =
    given (value_of (expression_of condition) now.variables) now (λ v. onward loops (if int_eq v (pos 0) then second else first) now)
carried_out onward loops (instruction.For variable from to turn begin after) now =
    given (value_of from now.variables) now (λ a. given (value_of to now.variables) now (λ b.
    onward (record { variable = variable; next = a; to = b; begin = begin; after = after } ∷ loops) turn now))
carried_out onward loops instruction.Turn now = ends now
carried_out onward loops (instruction.Do statement next) now = doing statement now (onward loops next)

-- the next turn of the innermost loop is counted, and its variable gets its value; if no turn is left, it is `left`
abbrev pub turned : Onward → List Loop → State → Outcome → Outcome
turned onward [] state left = left
turned onward (innermost ∷ others) state left =
    if int_lt innermost.next innermost.to
    then counting state (λ now. onward (advanced innermost ∷ others) innermost.begin (assigned innermost.variable innermost.next now))
    else left

-- the instruction at a place, if there is one; `left` is what comes of it if it leaves the innermost loop
abbrev pub performed : Onward → List Loop → Option Instruction → State → Outcome → Outcome
performed onward loops None state left = ends state
performed onward loops (Some instruction.End) state left = ends state
performed onward loops (Some instruction.Turn) state left = turned onward loops state left
performed onward loops (Some (instruction.Assign variable value next)) state left = counting state (carried_out onward loops (instruction.Assign variable value next))
performed onward loops (Some (instruction.Branch condition first second)) state left = counting state (carried_out onward loops (instruction.Branch condition first second))
performed onward loops (Some (instruction.For variable from to turn begin after)) state left = counting state (carried_out onward loops (instruction.For variable from to turn begin after))
performed onward loops (Some (instruction.Do statement next)) state left = counting state (carried_out onward loops (instruction.Do statement next))

-- the instructions from a place on, up to and with the next one that is counted
abbrev pub stepped : Onward → List Instruction → Onward
stepped onward code [] at state = performed onward [] (slice_get code at) state (ends state)
stepped onward code (innermost ∷ others) at state =
    performed onward (innermost ∷ others) (slice_get code at) state (stepped onward code others innermost.after state)

-- the instructions from a place on, if so many statements and turns are left
unfoldable pub executed : ℕ → List Instruction → Onward
executed zero code loops at state = stepped (λ others place now. strays) code loops at state
executed (suc left) code loops at state = stepped (executed left code) code loops at state

-- the code does what the body does, for any key and along any reads
abbrev pub Performs : Code → Body → Type 0
Performs code body = (key : List ℤ) (reads : List Read) → outcome_of body key reads ≡ executed BUDGET code.instructions.items [] code.start (begun key reads)
