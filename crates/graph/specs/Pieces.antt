-- Parts of the canonical text, as its writers add them.
use Rattle.std.specs.Prelude.{◌≡◌, ℕ, zero, suc, Bool, true, false, List, [], ◌∷◌, ◌++◌, Option, Some, None, codes, get_or, slice_get, Vec, Result, OnOk}
use Rattle.std.specs.declared.alloc.Global.{Global}
use Rattle.std.specs.List.{flat_map, zip}
use Rattle.steptree.specs.Names.{Text}
use Rattle.steptree.specs.Tree.{Expression}
use Rattle.steptree.specs.Simple.{Block}
use Rattle.steptree.specs.SeenBlocks.{NumberedStatement, stated}
use Rattle.graph.specs.declared.canonical_text.relations.Kind.{Kind}
use Rattle.graph.specs.declared.canonical_text.relations.Kind.TheVariants as kind
use Rattle.graph.specs.declared.canonical_text.words.Words.{Words}
use Rattle.graph.specs.Graph.{Graph}
use Rattle.graph.specs.Seen.{owned_texts}
use Rattle.graph.specs.Canonical.{arrow, joined, in_brackets, in_angles, in_rounds, line, declaration_line, marked, expression_text, block_text}

-- exactly this piece was added to the text, unless memory was refused
abbrev pub Writes : {X E : Type 0} → Result X E → Vec ℕ Global → Vec ℕ Global → Text → Type 0
Writes result old new piece = OnOk result (new.items ≡ old.items ++ piece)

-- the indentation of a line at a level
abbrev pub indentation : ℕ → Text
indentation zero = []
indentation (suc level) = codes "  " ++ indentation level

-- a relation with a collection of this name at one end
abbrev pub relation_line : Kind → Text → Text
relation_line (kind.Reads step) name = arrow (in_brackets name) (in_rounds step.now)
relation_line (kind.PutsItem step) name = arrow (in_rounds step.now) (in_brackets name)
relation_line (kind.PutsTag step) name = arrow (in_rounds step.now) (in_angles name)
relation_line kind.EnvironmentPutsItem name = arrow (codes "env") (in_brackets name)
relation_line kind.EnvironmentPutsTag name = arrow (codes "env") (in_angles name)
relation_line kind.EnvironmentGets name = arrow (in_brackets name) (codes "env")

-- the text of a name, if there is a name and it is marked
abbrev pub where_marked : (Text → Text) → Option Text → Bool → Text
where_marked text None mark = []
where_marked text (Some name) true = text name
where_marked text (Some name) false = []

-- a relation with the collection of this number, if its name is there and marked; and with each marked one of these names
abbrev pub relation_at : Kind → List Text → List Bool → ℕ → Text
relation_at relation names marks number = where_marked (relation_line relation) (slice_get names number) (get_or marks number false)

abbrev pub relation_lines : Kind → List Text → List Bool → Text
relation_lines relation names marks = flat_map (relation_line relation) (marked (zip names marks))

-- the declaration of a collection, if there is one
abbrev pub declaration_at : (Text → Text) → Option (Text × ℕ) → Text
declaration_at brackets None = []
declaration_at brackets (Some entry) = declaration_line brackets entry.0 entry.1

-- what follows a name: nothing, or a colon and these texts with ", " between them
abbrev pub after_colon : List Text → Text
after_colon [] = []
after_colon (first ∷ more) = codes ": " ++ joined (first ∷ more)

-- the names of the parameters and variables
abbrev pub names_of_words : Words → List Text
names_of_words words = owned_texts words.names.now

-- a text in the words of this graph and this step
abbrev pub in_words : {X : Type 0} → Words → (Graph → List Text → X) → X
in_words words text = text words.graph.now (names_of_words words)

-- the bounds of a loop
abbrev pub bounds_text : Graph → List Text → Expression → Expression → Text
bounds_text g names from to = expression_text g names from ++ codes " .. " ++ expression_text g names to

-- the read block or the write block of a step, with its first line and its last
abbrev pub section_text : Graph → List Text → Text → Block → Text
section_text g names title block = line 1 title ++ block_text g names 2 block ++ line 1 (codes "}")

-- a statement was written: with the text of any block after it, this is the text of the block that begins with the statement
abbrev pub WritesStatement : {X E : Type 0} → Result X E → Vec ℕ Global → Vec ℕ Global → Words → ℕ → NumberedStatement → Type 0
WritesStatement result old new words level statement =
    OnOk result ((rest : Block) → new.items ++ in_words words block_text level rest ≡ old.items ++ in_words words block_text level (stated statement rest))

-- the text of an element, if there is one
abbrev pub where_there : {X : Type 0} → (X → Text) → Option X → Text
where_there text None = []
where_there text (Some it) = text it
