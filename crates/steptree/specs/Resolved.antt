-- When a body with numbers resolves a body with names: each name is replaced by what it stands for.
use Rattle.std.specs.Prelude.{◌≡◌, ⊤, ℕ, List, [], ◌∷◌, map, length, Some}
use Rattle.steptree.specs.declared.checked.Checked.{Checked}
use Rattle.steptree.specs.Nameable.{Collection, Nameable}
use Rattle.steptree.specs.declared.step.Name.{Name}
use Rattle.steptree.specs.declared.step.Step.{Step}
use Rattle.steptree.specs.declared.simple.Simple.TheVariants.{Assign, Get, PutItem, PutTag}
use Rattle.steptree.specs.Tree.{Expression, NamedExpression, Number, Variable, Negation, Operation, End, Do, If, For}
use Rattle.steptree.specs.Simple.{NumberedSimple, NamedSimple, Block, NamedBlock}
use Rattle.steptree.specs.Names.{Text, names_of, slot_of, number_of}

abbrev pub IsExpression : List Text → NamedExpression → Expression → Type 0
IsExpression names (Number m) (Number n) = n ≡ m
IsExpression names (Variable name) (Variable slot) = slot_of names name ≡ Some slot
IsExpression names (Negation e) (Negation f) = IsExpression names e f
IsExpression names (Operation operator e1 e2) (Operation same f1 f2) = (same ≡ operator) × IsExpression names e1 f1 × IsExpression names e2 f2
IsExpression names e f = ⊥

abbrev pub AreExpressions : List Text → List NamedExpression → List Expression → Type 0
AreExpressions names [] [] = ⊤
AreExpressions names (e ∷ es) (f ∷ fs) = IsExpression names e f × AreExpressions names es fs
AreExpressions names es fs = ⊥

-- a key with names is a key of the collection with this number, and has these components
abbrev pub IsKey : List Text → List Collection → Name → List NamedExpression → ℕ → List Expression → Type 0
IsKey names collections name parts number components = (number_of collections name ≡ Some number) × AreExpressions names parts components

-- the number and the components together are the key with names
abbrev pub ResolvesKey : List Text → List Collection → Name → List NamedExpression → ℕ × List Expression → Type 0
ResolvesKey names collections name parts resolved = IsKey names collections name parts resolved.0 resolved.1

abbrev pub IsSimple : List Text → Nameable → NamedSimple → NumberedSimple → Type 0
IsSimple names sheet (Assign name e) (Assign slot f) = (slot_of names name ≡ Some slot) × IsExpression names e f
IsSimple names sheet (Get name item parts) (Get slot collection components) = (slot_of names name ≡ Some slot) × IsKey names sheet.items item parts.items collection.0 components
IsSimple names sheet (PutItem item parts e) (PutItem collection components f) = IsKey names sheet.items item parts.items collection.0 components × IsExpression names e f
IsSimple names sheet (PutTag tag parts) (PutTag collection components) = IsKey names sheet.tags tag parts.items collection.0 components
IsSimple names sheet statement other = ⊥

abbrev pub IsBlock : List Text → Nameable → NamedBlock → Block → Type 0
IsBlock names sheet End End = ⊤
IsBlock names sheet (Do named block) (Do statement rest) = IsSimple names sheet named statement × IsBlock names sheet block rest
IsBlock names sheet (If e a b block) (If f first second rest) =
    IsExpression names e f × IsBlock names sheet a first × IsBlock names sheet b second × IsBlock names sheet block rest
IsBlock names sheet (For name e1 e2 a block) (For slot f1 f2 inner rest) =
    (slot_of names name ≡ Some slot) × IsExpression names e1 f1 × IsExpression names e2 f2 × IsBlock names sheet a inner × IsBlock names sheet block rest
IsBlock names sheet block other = ⊥

-- a checked step is the step with each name replaced by what it stands for
pub record Resolves (sheet : Nameable) (step : Step) (checked : Checked) : Type 0 where
  pub names : map (λ name. name.bytes.items) checked.names.items ≡ names_of step
  pub parameters : checked.parameters ≡ length step.parameters.items
  pub read : IsBlock (names_of step) sheet step.read checked.body.read
  pub write : IsBlock (names_of step) sheet step.write checked.body.write
