-- The relations so far, by the numbers of the collections.
use Rattle.std.specs.Prelude.{◌≡◌, ℕ, Bool, false, List, [], ◌∷◌, ◌++◌, length, Option, None, is_none, is_some, replicate, Result, MatchResult}
use Rattle.terms.specs.declared.name.TagCollection.{TagCollection}
use Rattle.steptree.specs.declared.step.Name.{Name}
use Rattle.steptree.specs.Names.{Text, place_of}
use Rattle.syntax.specs.declared.tree.Relation.{Relation}
use Rattle.graph.specs.declared.fault.GraphError.TheVariants.{Redeclared, UnknownName, TwoPrescribers, StepMissing}
use Rattle.graph.specs.declared.fault.PlacedFault.{PlacedFault}
use Rattle.graph.specs.declared.relations.Numbers.{Numbers}
use Rattle.graph.specs.declared.relations.Relations.{Relations}
use Rattle.graph.specs.Faults.{At, fault_if, or_else, relation_fault, relation_faults}
use Rattle.graph.specs.Marks.{AreMarks, AreRows, ArePrescribers, mark_at, mark_between, prescriber_at, bits}
use Rattle.graph.specs.Numbered.{names_numbered, found}
use Rattle.graph.specs.Placed.{IsFirst}
use Rattle.graph.specs.Tree.{is_read, is_item_put, is_tag_put, is_environment_item_put, is_environment_tag_put, is_environment_get}

-- ---- the faults of one relation, by the numbers of its names, where those so far are marked

-- a read, and a put: it was there before, or its item or tag is unknown, or its step is missing
abbrev pub read_faults : List (List Bool) → ℕ → Option ℕ → Name → Option ℕ → Name → List At
read_faults rows position item item_name step step_name =
    fault_if (mark_between rows step item) Redeclared position ++ fault_if (is_none item) UnknownName item_name.place ++ fault_if (is_none step) StepMissing step_name.place

abbrev pub put_faults : List (List Bool) → ℕ → Option ℕ → Name → Option ℕ → Name → List At
put_faults rows position step step_name other other_name =
    fault_if (mark_between rows step other) Redeclared position ++ fault_if (is_none step) StepMissing step_name.place ++ fault_if (is_none other) UnknownName other_name.place

-- a relation of the environment: it was there before, or its name is unknown
abbrev pub environment_faults : List Bool → ℕ → Option ℕ → Name → List At
environment_faults row position place name = fault_if (mark_at row place) Redeclared position ++ fault_if (is_none place) UnknownName name.place

-- a prescription: its tag is unknown; its step is missing, or is prescribed already
abbrev pub prescription_faults : List (Option TagCollection) → Option ℕ → Name → Option ℕ → Name → List At
prescription_faults prescribers tag tag_name step step_name = fault_if (is_none tag) UnknownName tag_name.place
    ++ or_else (fault_if (is_none step) StepMissing step_name.place) (fault_if (is_some (prescriber_at prescribers step)) TwoPrescribers step_name.place)

-- ---- the relations so far

-- nothing is marked, for these numbers of item, tag and step collections
pub record IsUnmarked (items tags steps : ℕ) (them : Relations) : Type 0 where
  pub prescribers : them.prescribers.items ≡ replicate steps None
  pub reads : bits them.reads ≡ replicate steps (replicate items false)
  pub item_puts : bits them.item_puts ≡ replicate steps (replicate items false)
  pub tag_puts : bits them.tag_puts ≡ replicate steps (replicate tags false)
  pub environment_item_puts : them.environment_item_puts.items ≡ replicate items false
  pub environment_tag_puts : them.environment_tag_puts.items ≡ replicate tags false
  pub environment_gets : them.environment_gets.items ≡ replicate items false

module _ (items tags steps : List Text) where
  -- the numbers are the indexes of these names
  pub record AreNumbers (numbers : Numbers) : Type 0 where
    pub items_are : names_numbered numbers.items.now ≡ items
    pub tags_are : names_numbered numbers.tags.now ≡ tags
    pub steps_are : (text : Text) → found numbers.steps.now text ≡ place_of steps text

  -- the marks are exactly these relations
  pub record AreRelations (before : List Relation) (them : Relations) : Type 0 where
    pub prescribers : ArePrescribers tags steps before them.prescribers.items
    pub reads : AreRows (λ step item. is_read item step) steps items before (bits them.reads)
    pub item_puts : AreRows is_item_put steps items before (bits them.item_puts)
    pub tag_puts : AreRows is_tag_put steps tags before (bits them.tag_puts)
    pub environment_item_puts : AreMarks is_environment_item_put items before them.environment_item_puts.items
    pub environment_tag_puts : AreMarks is_environment_tag_put tags before them.environment_tag_puts.items
    pub environment_gets : AreMarks is_environment_get items before them.environment_gets.items

  -- the relation is marked if it has no fault; otherwise its first fault is reported, or that memory was refused
  abbrev pub Relates : List Relation → Relation → Relations → Result (Unit {0}) PlacedFault → Type 0
  Relates before relation them result =
      MatchResult result (λ _. (relation_fault items tags steps before relation ≡ []) × AreRelations (before ++ relation ∷ []) them) (IsFirst (relation_fault items tags steps before relation))

  -- all of them are marked if none has a fault; otherwise the first fault is reported, or that memory was refused
  abbrev pub RelatesAll : List Relation → Result Relations PlacedFault → Type 0
  RelatesAll relations result = MatchResult result (λ them. (relation_faults items tags steps [] relations ≡ []) × AreRelations relations them) (IsFirst (relation_faults items tags steps [] relations))

-- one relation more, whichever relations are marked before it; and all relations of a tree, whose steps are this many
abbrev pub RelatesOne : Numbers → Relation → Relations → Relations → Result (Unit {0}) PlacedFault → Type 0
RelatesOne numbers relation old new result = (items tags steps : List Text) (before : List Relation) → AreNumbers items tags steps numbers → AreRelations items tags steps before old
    → Relates items tags steps before relation new result

abbrev pub RelatesTree : Numbers → ℕ → List Relation → Result Relations PlacedFault → Type 0
RelatesTree numbers steps relations result = (items tags names : List Text) → AreNumbers items tags names numbers → length names ≡ steps → RelatesAll items tags names relations result
