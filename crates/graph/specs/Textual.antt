-- The graphs that a text can give, and the laws between texts and graphs.
use Rattle.std.specs.Prelude.{◌≡◌, ◌≢◌, ◌≤◌, ◌<◌, ⊤, ℕ, suc, pos, max, List, [], length, get_or}
use Rattle.std.specs.List.{AllByRecursion}
use Rattle.terms.specs.declared.key.TheConstants.{MAX_COMPONENTS}
use Rattle.steptree.specs.Tree.{Expression, Number, Variable, Negation, Operation, End, Do, If, For}
use Rattle.steptree.specs.Simple.{Block, NumberedUse, Target, Value, ItemRead, ItemPut, TagPut, AllUses}
use Rattle.steptree.specs.Names.{Text, names_in}
use Rattle.syntax.specs.declared.token.Word.{Word}
use Rattle.syntax.specs.declared.limits.TheConstants.{MOST_NAME_BYTES, MOST_DEPTH, MOST_BRACES}
use Rattle.syntax.specs.Tokens.{GREATEST, IsWordText, word_text}
use Rattle.graph.specs.declared.limits.TheConstants.{MOST_TEXT}
use Rattle.graph.specs.Graph.{Step, Graph, IsGraph}
use Rattle.syntax.specs.declared.tree.Tree.{Tree}
use Rattle.syntax.specs.Reading.{IsRead}
use Rattle.graph.specs.declared.fault.GraphFault.{GraphFault}
use Rattle.graph.specs.Prescribed.{names_of_steps}
use Rattle.graph.specs.Tree.{IsGraphOf}
use Rattle.graph.specs.Reads.{Reads, HasCause, no_memory}
use Rattle.graph.specs.Canonical.{canonical}

-- ---- names

-- a text that is a name: letters and digits, the first a letter, not reserved and not too long
pub record IsGraphName (text : Text) : Type 0 where
  pub word : IsWordText text
  pub not_reserved : (kept : Word) → text ≢ word_text kept
  pub short : length text ≤ MOST_NAME_BYTES

-- names, no two of them equal
pub record AreNames (names : List Text) : Type 0 where
  pub each : AllByRecursion IsGraphName names
  pub distinct : (one two : ℕ) → one < length names → two < length names → get_or names one [] ≡ get_or names two [] → one ≡ two

-- ---- bodies

-- the depth of an expression; a number or a variable has depth 1
abbrev pub depth_of : Expression → ℕ
depth_of (Number number) = 1
depth_of (Variable slot) = 1
depth_of (Negation operand) = suc (depth_of operand)
depth_of (Operation between left right) = suc (max (depth_of left) (depth_of right))

-- each number is one that a text can have, and each variable is one of `names` names
abbrev pub IsSpelled : ℕ → Expression → Type 0
IsSpelled names (Number number) = (value : ℕ) × (number ≡ pos value) × (value ≤ GREATEST)
IsSpelled names (Variable slot) = slot < names
IsSpelled names (Negation operand) = IsSpelled names operand
IsSpelled names (Operation between left right) = IsSpelled names left × IsSpelled names right

abbrev pub IsTextExpression : ℕ → Expression → Type 0
IsTextExpression names expression = IsSpelled names expression × (depth_of expression ≤ MOST_DEPTH)

abbrev pub AreComponents : ℕ → List Expression → Type 0
AreComponents names components = AllByRecursion (IsTextExpression names) components

-- what a statement of a read block uses, and what one of a write block
abbrev pub IsReadUse : ℕ → NumberedUse → Type 0
IsReadUse names (Target slot) = slot < names
IsReadUse names (Value value) = IsTextExpression names value
IsReadUse names (ItemRead collection components) = AreComponents names components
IsReadUse names (ItemPut collection components) = ⊥
IsReadUse names (TagPut collection components) = ⊥

abbrev pub IsWriteUse : ℕ → NumberedUse → Type 0
IsWriteUse names (Target slot) = slot < names
IsWriteUse names (Value value) = IsTextExpression names value
IsWriteUse names (ItemRead collection components) = ⊥
IsWriteUse names (ItemPut collection components) = AreComponents names components
IsWriteUse names (TagPut collection components) = AreComponents names components

-- a block inside `around` braces, whose simple statements use only such things
abbrev pub IsTextBlock : (NumberedUse → Type 0) → ℕ → ℕ → Block → Type 0
IsTextBlock IsUse names around End = ⊤
IsTextBlock IsUse names around (Do statement rest) = AllUses IsUse statement × IsTextBlock IsUse names around rest
IsTextBlock IsUse names around (If condition first second rest) =
    IsTextExpression names condition × (around < MOST_BRACES) × IsTextBlock IsUse names (suc around) first × IsTextBlock IsUse names (suc around) second × IsTextBlock IsUse names around rest
IsTextBlock IsUse names around (For slot from to block rest) =
    (slot < names) × IsTextExpression names from × IsTextExpression names to × (around < MOST_BRACES) × IsTextBlock IsUse names (suc around) block × IsTextBlock IsUse names around rest

abbrev pub IsReadBlock : ℕ → ℕ → Block → Type 0
IsReadBlock names = IsTextBlock (IsReadUse names) names

abbrev pub IsWriteBlock : ℕ → ℕ → Block → Type 0
IsWriteBlock names = IsTextBlock (IsWriteUse names) names

-- ---- graphs

pub record IsTextStep (step : Step) : Type 0 where
  pub name : IsGraphName step.name
  pub names : AreNames step.names
  pub few : step.parameters ≤ MAX_COMPONENTS
  pub read : IsReadBlock (length step.names) 0 step.body.read
  pub write : IsWriteBlock (length step.names) 0 step.body.write

-- a graph that a text can give, leaving aside the length of the text
pub record IsTextual (g : Graph) : Type 0 where
  pub graph : IsGraph g
  pub items : AreNames (names_in g.items)
  pub tags : AreNames (names_in g.tags)
  pub step_names : AreNames (names_of_steps g.steps)
  pub steps : AllByRecursion IsTextStep g.steps

-- ---- laws

-- if a text reads as a graph, then the graph is one that can be written as a text
abbrev pub ReadsTextual : Type 0
ReadsTextual = (text : List ℕ) (g : Graph) → Reads text g → IsTextual g

-- if a text can give a graph, then its canonical text reads as that graph, unless the canonical text is too long
abbrev pub CanonicalReads : Type 0
CanonicalReads = (g : Graph) → IsTextual g → length (canonical g) ≤ MOST_TEXT → Reads (canonical g) g

-- ---- one text, one graph

-- if two trees of one text are graphs, the graphs are equal
abbrev pub OneGraph : Type 0
OneGraph = (text : List ℕ) (t u : Tree) (g h : Graph) → IsRead text t → IsRead text u → IsGraphOf t g → IsGraphOf u h → g ≡ h

-- so a text reads as one graph at most
abbrev pub OneReading : Type 0
OneReading = (text : List ℕ) (g h : Graph) → Reads text g → Reads text h → g ≡ h

-- a text that reads as a graph has no fault but `NoMemory`
abbrev pub ReadsWithoutFault : Type 0
ReadsWithoutFault = (text : List ℕ) (g : Graph) (fault : GraphFault) → Reads text g → HasCause text fault → fault ≡ no_memory
