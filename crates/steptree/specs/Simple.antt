-- Simple statements, which have no blocks inside them: what each one uses, and what it does.
use Rattle.std.specs.Prelude.{ℕ, ℤ, List, [], ◌∷◌, Result, Ok}
use Rattle.std.specs.Global.{Vec}
use Rattle.std.specs.List.{AllByRecursion}
use Rattle.terms.specs.declared.name.ItemCollection.{ItemCollection}
use Rattle.terms.specs.declared.name.TagCollection.{TagCollection}
use Rattle.terms.specs.declared.put.Put.TheVariants.{Item, Tag}
use Rattle.terms.specs.declared.fault.FaultKind.{FaultKind}
use Rattle.steptree.specs.declared.simple.Simple.{Simple}
use Rattle.steptree.specs.declared.simple.Simple.TheVariants.{Assign, Get, PutItem, PutTag}
use Rattle.steptree.specs.declared.simple.Action.{Action}
use Rattle.steptree.specs.declared.simple.Action.TheVariants.{Assigns, Gets, Puts}
use Rattle.steptree.specs.declared.step.Name.{Name}
use Rattle.steptree.specs.Tree.{ExpressionTree, Expression, NamedExpression, BlockTree}
use Rattle.steptree.specs.Values.{with_value, value_of, values_of}

-- with slots and numbers
abbrev pub NumberedSimple : Type 0
NumberedSimple = Simple ℕ ItemCollection TagCollection (List Expression)

abbrev pub Block : Type 0
Block = BlockTree ℕ NumberedSimple

-- with names
abbrev pub NamedSimple : Type 0
NamedSimple = Simple Name Name Name (Vec NamedExpression)

abbrev pub NamedBlock : Type 0
NamedBlock = BlockTree Name NamedSimple

-- ---- which one it is

abbrev pub form_of : {V I T C : Type 0} → Simple V I T C → ℕ
form_of (Assign variable value) = 0
form_of (Get variable collection components) = 1
form_of (PutItem collection components value) = 2
form_of (PutTag collection components) = 3

-- ---- what it uses

-- What a statement names or evaluates: a variable that gets a value, an expression, or the key of an item that is read, of an item
-- that is put, or of a tag that is put.
pub data Use (V I T C : Type 0) : Type 0 where
  Target : V → Use V I T C
  Value : ExpressionTree V → Use V I T C
  ItemRead : I → C → Use V I T C
  ItemPut : I → C → Use V I T C
  TagPut : T → C → Use V I T C

-- in the order of the statement's text
abbrev pub uses_of : {V I T C : Type 0} → Simple V I T C → List (Use V I T C)
uses_of (Assign variable value) = Target variable ∷ Value value ∷ []
uses_of (Get variable collection components) = Target variable ∷ ItemRead collection components ∷ []
uses_of (PutItem collection components value) = ItemPut collection components ∷ Value value ∷ []
uses_of (PutTag collection components) = TagPut collection components ∷ []

-- all that it uses is such
abbrev pub AllUses : {V I T C : Type 0} → (Use V I T C → Type 0) → Simple V I T C → Type 0
AllUses Is statement = AllByRecursion Is (uses_of statement)

abbrev pub NumberedUse : Type 0
NumberedUse = Use ℕ ItemCollection TagCollection (List Expression)

abbrev pub NamedUse : Type 0
NamedUse = Use Name Name Name (Vec NamedExpression)

-- ---- what it does

-- when the variables have these values; its expressions are evaluated from the left
abbrev pub action_of : NumberedSimple → List ℤ → Result Action FaultKind
action_of (Assign variable value) variables = with_value (value_of value variables) (λ v. Ok (Assigns variable v))
action_of (Get variable collection components) variables =
    with_value (values_of components variables) (λ key. Ok (Gets variable (record { collection = collection; key = key })))
action_of (PutItem collection components value) variables =
    with_value (values_of components variables) (λ key. with_value (value_of value variables) (λ v. Ok (Puts (Item (record { collection = collection; key = key }) v))))
action_of (PutTag collection components) variables =
    with_value (values_of components variables) (λ key. Ok (Puts (Tag (record { collection = collection; key = key }))))
