-- A graph: its collections by their numbers, and the relations between them.
use Rattle.std.specs.Prelude.{◌≡◌, ◌≤◌, ℕ, ℤ, Bool, true, false, List, length, get_or, slice_get, Option, Some, option_map}
use Rattle.terms.specs.declared.name.Addr.{Addr}
use Rattle.terms.specs.declared.name.Tag.{Tag}
use Rattle.terms.specs.declared.name.Inst.{Inst}
use Rattle.steptree.specs.declared.body.Body.{Body}
use Rattle.steptree.specs.declared.sheet.TheConstants.{MOST_COLLECTIONS}
use Rattle.steptree.specs.declared.slot.TheConstants.{MOST_NAMES}
use Rattle.steptree.specs.Bodies.{Ending, Means}
use Rattle.steptree.specs.Limits.{AreFew}
use Rattle.steptree.specs.Nameable.{Collection, Nameable}
use Rattle.steptree.specs.Sheet.{BodyKeepsTo}

-- a step collection: its name, the number of the tag collection that prescribes it, the names of its parameters and then of its
-- variables, what it may read and what it may put (a mark for each collection, by number), and its body
pub record Step : Type 0 where
  pub name : List ℕ
  pub prescriber : ℕ
  pub names : List (List ℕ)
  pub parameters : ℕ
  pub reads : List Bool
  pub item_puts : List Bool
  pub tag_puts : List Bool
  pub body : Body

-- the collections of each kind by their numbers, and which of them the environment may put and get
pub record Graph : Type 0 where
  pub items : List Collection
  pub tags : List Collection
  pub steps : List Step
  pub environment_item_puts : List Bool
  pub environment_tag_puts : List Bool
  pub environment_gets : List Bool

-- ---- what a graph says of instances, addresses and tags

-- the step with this number
abbrev pub IsStep : Graph → ℕ → Step → Type 0
IsStep g number step = slice_get g.steps number ≡ Some step

-- the body of that step, the names in it, and how many of these are parameters, if there is such a step
abbrev pub body_at : Graph → ℕ → Option Body
body_at g number = option_map (λ step. step.body) (slice_get g.steps number)

abbrev pub names_at : Graph → ℕ → Option (List (List ℕ))
names_at g number = option_map (λ step. step.names) (slice_get g.steps number)

abbrev pub parameters_at : Graph → ℕ → Option ℕ
parameters_at g number = option_map (λ step. step.parameters) (slice_get g.steps number)

-- there is a collection with this number, and its keys have this number of components
abbrev pub IsOf : List Collection → ℕ → ℕ → Type 0
IsOf collections number components = (collection : Collection) × (slice_get collections number ≡ Some collection) × (collection.components ≡ components)

-- the instance is prescribed by a tag with its key, whose collection prescribes its step
pub record Prescribes (g : Graph) (tag : Tag) (instance : Inst) : Type 0 where
  pub step : Step
  pub is_step : IsStep g instance.collection.0 step
  pub prescriber : step.prescriber ≡ tag.collection.0
  pub key : tag.key ≡ instance.key

-- the body of the instance's step ends like this, with the instance's key, when the items hold these values
pub record BodyMeans (g : Graph) (instance : Inst) (pairs : Addr → ℤ → Type 0) (ending : Ending) : Type 0 where
  pub step : Step
  pub is_step : IsStep g instance.collection.0 step
  pub means : Means step.body instance.key pairs ending

-- the environment may put the item; put the tag; get the item
abbrev pub EnvironmentMayPutItem : Graph → Addr → Type 0
EnvironmentMayPutItem g address = IsOf g.items address.collection.0 (length address.key) × (get_or g.environment_item_puts address.collection.0 false ≡ true)

abbrev pub EnvironmentMayPutTag : Graph → Tag → Type 0
EnvironmentMayPutTag g tag = IsOf g.tags tag.collection.0 (length tag.key) × (get_or g.environment_tag_puts tag.collection.0 false ≡ true)

abbrev pub EnvironmentMayGet : Graph → Addr → Type 0
EnvironmentMayGet g address = IsOf g.items address.collection.0 (length address.key) × (get_or g.environment_gets address.collection.0 false ≡ true)

-- ---- what each graph satisfies

-- what the graph lets the step name
abbrev pub sheet_of : Graph → Step → Nameable
sheet_of g step = record { items = g.items; tags = g.tags; reads = step.reads; item_puts = step.item_puts; tag_puts = step.tag_puts }

-- the step has as many parameters as the tags that prescribe it have components, and its body names only what the graph lets it name
pub record IsOfGraph (g : Graph) (step : Step) : Type 0 where
  pub prescribed : IsOf g.tags step.prescriber step.parameters
  pub parameters : step.parameters ≤ length step.names
  pub names : length step.names ≤ MOST_NAMES
  pub keeps : BodyKeepsTo (sheet_of g step) step.body
  pub each_read : length step.reads ≡ length g.items
  pub each_item_put : length step.item_puts ≡ length g.items
  pub each_tag_put : length step.tag_puts ≡ length g.tags

pub record IsGraph (g : Graph) : Type 0 where
  pub items : AreFew g.items
  pub tags : AreFew g.tags
  pub few : length g.steps ≤ MOST_COLLECTIONS
  pub steps : (number : ℕ) (step : Step) → IsStep g number step → IsOfGraph g step
  pub each_item : length g.environment_item_puts ≡ length g.items
  pub each_tag : length g.environment_tag_puts ≡ length g.tags
  pub each_get : length g.environment_gets ≡ length g.items
