-- The graph of a tree: its names by their numbers, its relations as marks.
use Rattle.std.specs.Prelude.{◌≡◌, Bool, false, ◌&&◌, if◌then◌else◌, List, [], ◌∷◌, map, length, Option, Some, None}
use Rattle.std.specs.List.{list_any}
use Rattle.steptree.specs.declared.step.Name.{Name}
use Rattle.steptree.specs.declared.step.Step.{Step as NamedStep}
use Rattle.steptree.specs.Nameable.{Collection, Nameable}
use Rattle.steptree.specs.Names.{Text, is_text, place_of, names_of, names_in}
use Rattle.steptree.specs.Resolved.{IsBlock}
use Rattle.steptree.specs.Sheet.{BodyKeepsTo}
use Rattle.syntax.specs.declared.tree.Declaration.{Declaration}
use Rattle.syntax.specs.declared.tree.Declaration.TheVariants as declared
use Rattle.syntax.specs.declared.tree.Relation.{Relation}
use Rattle.syntax.specs.declared.tree.Relation.TheVariants as related
use Rattle.syntax.specs.declared.tree.Tree.{Tree}
use Rattle.syntax.specs.Tree.{AreAll}
use Rattle.graph.specs.Graph.{Step, Graph}

abbrev pub text_of : Name → Text
text_of name = name.text.now

-- ---- collections

abbrev pub items_of : List Declaration → List Collection
items_of [] = []
items_of (declared.Item name components ∷ more) = record { name = text_of name; components = components } ∷ items_of more
items_of (declared.Tag name components ∷ more) = items_of more

abbrev pub tags_of : List Declaration → List Collection
tags_of [] = []
tags_of (declared.Item name components ∷ more) = tags_of more
tags_of (declared.Tag name components ∷ more) = record { name = text_of name; components = components } ∷ tags_of more

abbrev pub step_names : List NamedStep → List Text
step_names steps = map (λ step. text_of step.name) steps

-- ---- relations

abbrev pub is_name : Name → Text → Bool
is_name name text = is_text (text_of name) text

-- each test says whether the relation is the one between these names
abbrev pub is_prescription : Text → Text → Relation → Bool
is_prescription tag step (related.Prescribes one two) = is_name one tag && is_name two step
is_prescription tag step relation = false

abbrev pub is_read : Text → Text → Relation → Bool
is_read item step (related.Reads place one two) = is_name one item && is_name two step
is_read item step relation = false

abbrev pub is_item_put : Text → Text → Relation → Bool
is_item_put step item (related.PutsItem place one two) = is_name one step && is_name two item
is_item_put step item relation = false

abbrev pub is_tag_put : Text → Text → Relation → Bool
is_tag_put step tag (related.PutsTag place one two) = is_name one step && is_name two tag
is_tag_put step tag relation = false

abbrev pub is_environment_item_put : Text → Relation → Bool
is_environment_item_put item (related.EnvironmentPutsItem place one) = is_name one item
is_environment_item_put item relation = false

abbrev pub is_environment_tag_put : Text → Relation → Bool
is_environment_tag_put tag (related.EnvironmentPutsTag place one) = is_name one tag
is_environment_tag_put tag relation = false

abbrev pub is_environment_get : Text → Relation → Bool
is_environment_get item (related.EnvironmentGets place one) = is_name one item
is_environment_get item relation = false

-- for each of these names, whether the list has the relation with that name
abbrev pub each_of : (Text → Relation → Bool) → List Relation → List Text → List Bool
each_of is relations names = map (λ name. list_any (is name) relations) names

-- the tag of the first relation that prescribes the step
abbrev pub prescriber_of : List Relation → Text → Option Text
prescriber_of [] step = None
prescriber_of (related.Prescribes one two ∷ more) step = if is_name two step then Some (text_of one) else prescriber_of more step
prescriber_of (relation ∷ more) step = prescriber_of more step

-- ---- the graph

-- what the tree lets the step name
abbrev pub sheet_in : Tree → NamedStep → Nameable
sheet_in tree step = record {
  items = items_of tree.declarations.items;
  tags = tags_of tree.declarations.items;
  reads = each_of (λ item. is_read item (text_of step.name)) tree.relations.items (names_in (items_of tree.declarations.items));
  item_puts = each_of (is_item_put (text_of step.name)) tree.relations.items (names_in (items_of tree.declarations.items));
  tag_puts = each_of (is_tag_put (text_of step.name)) tree.relations.items (names_in (tags_of tree.declarations.items));
}

-- the step of the graph is this step of the tree
pub record IsStepOf (tree : Tree) (g : Graph) (text : NamedStep) (step : Step) : Type 0 where
  pub name : step.name ≡ text_of text.name
  pub prescriber : (tag : Text) × (prescriber_of tree.relations.items step.name ≡ Some tag) × (place_of (names_in g.tags) tag ≡ Some step.prescriber)
  pub names : step.names ≡ names_of text
  pub parameters : step.parameters ≡ length text.parameters.items
  pub reads : step.reads ≡ (sheet_in tree text).reads
  pub item_puts : step.item_puts ≡ (sheet_in tree text).item_puts
  pub tag_puts : step.tag_puts ≡ (sheet_in tree text).tag_puts
  pub read : IsBlock (names_of text) (sheet_in tree text) text.read step.body.read
  pub write : IsBlock (names_of text) (sheet_in tree text) text.write step.body.write
  pub keeps : BodyKeepsTo (sheet_in tree text) step.body

pub record IsGraphOf (tree : Tree) (g : Graph) : Type 0 where
  pub items : g.items ≡ items_of tree.declarations.items
  pub tags : g.tags ≡ tags_of tree.declarations.items
  pub steps : AreAll (IsStepOf tree g) tree.steps.items g.steps
  pub environment_item_puts : g.environment_item_puts ≡ each_of is_environment_item_put tree.relations.items (names_in g.items)
  pub environment_tag_puts : g.environment_tag_puts ≡ each_of is_environment_tag_put tree.relations.items (names_in g.tags)
  pub environment_gets : g.environment_gets ≡ each_of is_environment_get tree.relations.items (names_in g.items)
