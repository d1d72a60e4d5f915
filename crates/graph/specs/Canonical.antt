-- The canonical text of a graph.
use Rattle.std.specs.Prelude.{ℕ, suc, zero, ℤ, pos, negsuc, Bool, true, false, List, [], ◌∷◌, ◌++◌, map, take, drop, codes, get_or}
use Rattle.std.specs.List.{flat_map, zip}
use Rattle.std.specs.Fmt.{decimal}
use Rattle.steptree.specs.declared.expression.Operator.{Operator}
use Rattle.steptree.specs.declared.expression.Operator.TheVariants as operator
use Rattle.steptree.specs.Tree.{Expression, Number, Variable, Negation, Operation, End, Do, If, For}
use Rattle.steptree.specs.Simple.{NumberedSimple, Block}
use Rattle.steptree.specs.declared.simple.Simple.TheVariants.{Assign, Get, PutItem, PutTag}
use Rattle.steptree.specs.Names.{Text, names_in}
use Rattle.steptree.specs.Nameable.{Collection}
use Rattle.graph.specs.Graph.{Step, Graph}

-- these texts, each after ", "
abbrev pub after_commas : List Text → Text
after_commas texts = flat_map (λ text. codes ", " ++ text) texts

-- these texts, with ", " between them
abbrev pub joined : List Text → Text
joined [] = []
joined (first ∷ more) = first ++ after_commas more

-- a line, indented by this number of levels
abbrev pub line : ℕ → Text → Text
line zero text = text ++ codes "\n"
line (suc level) text = codes "  " ++ line level text

-- a name, and after a colon these texts if there are any
abbrev pub with_colon : Text → List Text → Text
with_colon name [] = name
with_colon name (first ∷ more) = name ++ codes ": " ++ joined (first ∷ more)

-- a text between these two
abbrev pub between : Text → Text → Text → Text
between opening closing text = opening ++ text ++ closing

abbrev pub in_brackets : Text → Text
in_brackets text = between (codes "[") (codes "]") text

abbrev pub in_angles : Text → Text
in_angles text = between (codes "<") (codes ">") text

abbrev pub in_rounds : Text → Text
in_rounds text = between (codes "(") (codes ")") text

-- ---- declarations and relations

-- the names that components have, as many as any key may have
abbrev pub letters : List Text
letters = codes "i" ∷ codes "j" ∷ codes "k" ∷ codes "l" ∷ codes "m" ∷ codes "n" ∷ codes "o" ∷ codes "p" ∷ []

-- the names of this number of components
abbrev pub component_names : ℕ → List Text
component_names components = take components letters

-- the declaration of a collection with this name and this number of components
abbrev pub declaration_line : (Text → Text) → Text → ℕ → Text
declaration_line brackets name components = line 0 (brackets (with_colon name (component_names components)) ++ codes ";")

abbrev pub declaration_lines : (Text → Text) → List Collection → Text
declaration_lines brackets collections = flat_map (λ collection. declaration_line brackets collection.name collection.components) collections

-- all declarations: the items first
abbrev pub declarations_text : Graph → Text
declarations_text g = declaration_lines in_brackets g.items ++ declaration_lines in_angles g.tags

-- the names that are marked
abbrev pub marked : List (Text × Bool) → List Text
marked [] = []
marked ((name, true) ∷ more) = name ∷ marked more
marked ((name, false) ∷ more) = marked more

abbrev pub those : List Collection → List Bool → List Text
those collections marks = marked (zip (names_in collections) marks)

abbrev pub arrow : Text → Text → Text
arrow from to = line 0 (from ++ codes " -> " ++ to ++ codes ";")

-- the tag collection with this number prescribes the step with this name
abbrev pub prescription_line : Graph → ℕ → Text → Text
prescription_line g tag name = line 0 (in_angles (get_or (names_in g.tags) tag []) ++ codes " :: " ++ in_rounds name ++ codes ";")

abbrev pub step_relations : Graph → Step → Text
step_relations g step =
    prescription_line g step.prescriber step.name
    ++ flat_map (λ item. arrow (in_brackets item) (in_rounds step.name)) (those g.items step.reads)
    ++ flat_map (λ item. arrow (in_rounds step.name) (in_brackets item)) (those g.items step.item_puts)
    ++ flat_map (λ tag. arrow (in_rounds step.name) (in_angles tag)) (those g.tags step.tag_puts)

abbrev pub environment_relations : Graph → Text
environment_relations g =
    flat_map (λ item. arrow (codes "env") (in_brackets item)) (those g.items g.environment_item_puts)
    ++ flat_map (λ tag. arrow (codes "env") (in_angles tag)) (those g.tags g.environment_tag_puts)
    ++ flat_map (λ item. arrow (in_brackets item) (codes "env")) (those g.items g.environment_gets)

-- ---- bodies

abbrev pub operator_text : Operator → Text
operator_text operator.Add = codes "+"
operator_text operator.Subtract = codes "-"
operator_text operator.Multiply = codes "*"
operator_text operator.Divide = codes "/"
operator_text operator.Remainder = codes "%"
operator_text operator.Equal = codes "=="
operator_text operator.NotEqual = codes "!="
operator_text operator.Less = codes "<"
operator_text operator.LessOrEqual = codes "<="
operator_text operator.Greater = codes ">"
operator_text operator.GreaterOrEqual = codes ">="

-- a text's numbers are never below 0
abbrev pub number_text : ℤ → Text
number_text (pos number) = decimal number
number_text (negsuc number) = codes "-" ++ decimal (suc number)

module _ (g : Graph) (names : List Text) where
  abbrev pub variable_text : ℕ → Text
  variable_text slot = get_or names slot []

  abbrev pub expression_text : Expression → Text
  expression_text (Number number) = number_text number
  expression_text (Variable slot) = variable_text slot
  expression_text (Negation operand) = in_rounds (codes "-" ++ expression_text operand)
  expression_text (Operation between left right) = in_rounds (expression_text left ++ codes " " ++ operator_text between ++ codes " " ++ expression_text right)

  abbrev pub item_text : ℕ → List Expression → Text
  item_text number components = in_brackets (with_colon (get_or (names_in g.items) number []) (map expression_text components))

  abbrev pub tag_text : ℕ → List Expression → Text
  tag_text number components = in_angles (with_colon (get_or (names_in g.tags) number []) (map expression_text components))

  -- ---- the lines of a statement, each at a level

  -- `x = e;`
  abbrev pub assignment_line : ℕ → ℕ → Expression → Text
  assignment_line level slot value = line level (variable_text slot ++ codes " = " ++ expression_text value ++ codes ";")

  -- the first line of a choice and of a loop
  abbrev pub condition_line : ℕ → Expression → Text
  condition_line level condition = line level (codes "if " ++ in_rounds (expression_text condition) ++ codes " {")

  abbrev pub range_line : ℕ → ℕ → Expression → Expression → Text
  range_line level slot from to = line level (codes "for " ++ variable_text slot ++ codes " in " ++ expression_text from ++ codes " .. " ++ expression_text to ++ codes " {")

  -- a choice and a loop around the texts of their blocks
  abbrev pub choice_around : ℕ → Expression → Text → Text → Text
  choice_around level condition first second = condition_line level condition ++ first ++ line level (codes "} else {") ++ second ++ line level (codes "}")

  abbrev pub loop_around : ℕ → ℕ → Expression → Expression → Text → Text
  loop_around level slot from to block = range_line level slot from to ++ block ++ line level (codes "}")

  -- `get x = [c: k];`, `put [c: k] = e;` and `put <c: k>;`
  abbrev pub get_line : ℕ → ℕ → ℕ → List Expression → Text
  get_line level slot item components = line level (codes "get " ++ variable_text slot ++ codes " = " ++ item_text item components ++ codes ";")

  abbrev pub put_item_line : ℕ → ℕ → List Expression → Expression → Text
  put_item_line level item components value = line level (codes "put " ++ item_text item components ++ codes " = " ++ expression_text value ++ codes ";")

  abbrev pub put_tag_line : ℕ → ℕ → List Expression → Text
  put_tag_line level tag components = line level (codes "put " ++ tag_text tag components ++ codes ";")

  abbrev pub simple_line : ℕ → NumberedSimple → Text
  simple_line level (Assign slot value) = assignment_line level slot value
  simple_line level (Get slot item components) = get_line level slot item.0 components
  simple_line level (PutItem item components value) = put_item_line level item.0 components value
  simple_line level (PutTag tag components) = put_tag_line level tag.0 components

  -- ---- blocks

  -- a block, one statement a line, indented by `level` levels
  abbrev pub block_text : ℕ → Block → Text
  block_text level End = []
  block_text level (Do statement rest) = simple_line level statement ++ block_text level rest
  block_text level (If condition first second rest) = choice_around level condition (block_text (suc level) first) (block_text (suc level) second) ++ block_text level rest
  block_text level (For slot from to block rest) = loop_around level slot from to (block_text (suc level) block) ++ block_text level rest

  -- a choice and a loop, with their blocks
  abbrev pub choice_text : ℕ → Expression → Block → Block → Text
  choice_text level condition first second = choice_around level condition (block_text (suc level) first) (block_text (suc level) second)

  abbrev pub loop_text : ℕ → ℕ → Expression → Expression → Block → Text
  loop_text level slot from to block = loop_around level slot from to (block_text (suc level) block)

-- the line of the variables, if there are any
abbrev pub variables_line : List Text → Text
variables_line [] = []
variables_line (first ∷ more) = line 1 (codes "var " ++ joined (first ∷ more) ++ codes ";")

-- the first line of a step, by its name and the names of its parameters
abbrev pub step_line : Text → List Text → Text
step_line name parameters = line 0 (codes "step " ++ name ++ in_rounds (joined parameters) ++ codes " {")

-- the first line, and the line of the variables; the first `parameters` names are those of the parameters
abbrev pub heading_text : Text → List Text → ℕ → Text
heading_text name names parameters = step_line name (take parameters names) ++ variables_line (drop parameters names)

abbrev pub step_text : Graph → Step → Text
step_text g step =
    heading_text step.name step.names step.parameters
    ++ line 1 (codes "read {") ++ block_text g step.names 2 step.body.read ++ line 1 (codes "}")
    ++ line 1 (codes "write {") ++ block_text g step.names 2 step.body.write ++ line 1 (codes "}")
    ++ line 0 (codes "}")

-- ---- the whole text

abbrev pub canonical : Graph → Text
canonical g =
    declarations_text g ++ flat_map (step_relations g) g.steps ++ environment_relations g ++ flat_map (step_text g) g.steps
