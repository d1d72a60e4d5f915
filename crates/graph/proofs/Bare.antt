-- Trees of one derivation differ only in where their parts are in memory; without that they are one, and they have the same faults.
use Rattle.std.proofs.Common.{◌≡◌, Bool, true, List, [], ◌∷◌, ◌++◌, length, map, Option, Some, None, refl, sym, ap, ◌∙◌, arith, if◌then◌else◌}
use Rattle.std.specs.List.{list_any}
use Rattle.std.proofs.lemmas.List.{map-append, length-map}
use Rattle.steptree.specs.declared.step.Name.{Name}
use Rattle.steptree.specs.declared.step.Step.{Step as NamedStep}
use Rattle.steptree.specs.Names.{Text, names_in}
use Rattle.steptree.specs.Nameable.{Collection}
use Rattle.syntax.specs.declared.tree.Declaration.{Declaration as Declaring}
use Rattle.syntax.specs.declared.tree.Declaration.TheVariants as declared
use Rattle.syntax.specs.declared.tree.Relation.{Relation as Relating}
use Rattle.syntax.specs.declared.tree.Relation.TheVariants as related
use Rattle.syntax.specs.declared.tree.Tree.{Tree}
use Rattle.syntax.specs.Grammar.{Named, Declaration, item_declared, tag_declared, Relation, prescribes, reads, puts_item, puts_tag, environment_puts_item, environment_puts_tag, environment_gets, StepText, GraphText}
use Rattle.syntax.specs.GraphTexts.{all_names, IsDeclaration, IsRelation, IsStep, IsTree}
use Rattle.syntax.specs.Tree.{IsName, AreAll}
use Rattle.graph.specs.declared.fault.GraphError.TheVariants as error
use Rattle.graph.specs.Collected.{of_name}
use Rattle.graph.specs.Tree.{text_of, items_of, tags_of, step_names, is_name, is_read, is_item_put, is_tag_put, each_of, prescriber_of, sheet_in}
use Rattle.graph.specs.Faults.{fault_if, or_else, has, repeated, declaration_faults, same_relation, relation_fault, relation_faults, components_of, is_other, arity_faults, step_faults, tree_faults}
use Rattle.graph.proofs.Lists.{any_agree, in_common}
use Rattle.graph.proofs.PrintedApart.{any_mapped}
use Rattle.graph.proofs.PrintedDeclarations.{tree_declaration}
use Rattle.graph.proofs.PrintedRelations.{tree_relation}
use Rattle.graph.proofs.PrintedValues.{name_of}

-- ---- at no particular place in memory

abbrev pub bare : Name → Name
bare name = name_of (name.text.now, name.place)

abbrev pub bare_declaration : Declaring → Declaring
bare_declaration (declared.Item name components) = declared.Item (bare name) components
bare_declaration (declared.Tag name components) = declared.Tag (bare name) components

abbrev pub bare_relation : Relating → Relating
bare_relation (related.Prescribes one two) = related.Prescribes (bare one) (bare two)
bare_relation (related.Reads place one two) = related.Reads place (bare one) (bare two)
bare_relation (related.PutsItem place one two) = related.PutsItem place (bare one) (bare two)
bare_relation (related.PutsTag place one two) = related.PutsTag place (bare one) (bare two)
bare_relation (related.EnvironmentPutsItem place one) = related.EnvironmentPutsItem place (bare one)
bare_relation (related.EnvironmentPutsTag place one) = related.EnvironmentPutsTag place (bare one)
bare_relation (related.EnvironmentGets place one) = related.EnvironmentGets place (bare one)

name_bare : (it : Named) (name : Name) → IsName it name → name_of it ≡ bare name
name_bare it name is = λ i. name_of (sym is.0 i, sym is.1 i)

declaration_bare : (text : Declaration) (it : Declaring) → IsDeclaration text it → tree_declaration text ≡ bare_declaration it
declaration_bare (item_declared name components) (declared.Item one number) is = λ i. declared.Item (name_bare name one is.0 i) (sym is.1 i)
declaration_bare (tag_declared name components) (declared.Tag one number) is = λ i. declared.Tag (name_bare name one is.0 i) (sym is.1 i)
declaration_bare _ _ is = absurd (assumption)

relation_bare : (text : Relation) (it : Relating) → IsRelation text it → tree_relation text ≡ bare_relation it
relation_bare (prescribes tag step) (related.Prescribes one two) is = λ i. related.Prescribes (name_bare tag one is.0 i) (name_bare step two is.1 i)
relation_bare (reads position item step) (related.Reads place one two) is = λ i. related.Reads (sym is.0 i) (name_bare item one is.1 i) (name_bare step two is.2 i)
relation_bare (puts_item position step item) (related.PutsItem place one two) is = λ i. related.PutsItem (sym is.0 i) (name_bare step one is.1 i) (name_bare item two is.2 i)
relation_bare (puts_tag position step tag) (related.PutsTag place one two) is = λ i. related.PutsTag (sym is.0 i) (name_bare step one is.1 i) (name_bare tag two is.2 i)
relation_bare (environment_puts_item position item) (related.EnvironmentPutsItem place one) is = λ i. related.EnvironmentPutsItem (sym is.0 i) (name_bare item one is.1 i)
relation_bare (environment_puts_tag position tag) (related.EnvironmentPutsTag place one) is = λ i. related.EnvironmentPutsTag (sym is.0 i) (name_bare tag one is.1 i)
relation_bare (environment_gets position item) (related.EnvironmentGets place one) is = λ i. related.EnvironmentGets (sym is.0 i) (name_bare item one is.1 i)
relation_bare _ _ is = absurd (assumption)

-- ---- nothing changes

items_bare : (them : List Declaring) → items_of (map bare_declaration them) ≡ items_of them
items_bare [] = refl
items_bare (declared.Item name components ∷ them) = λ i. of_name name components ∷ items_bare them i
items_bare (declared.Tag name components ∷ them) = items_bare them

tags_bare : (them : List Declaring) → tags_of (map bare_declaration them) ≡ tags_of them
tags_bare [] = refl
tags_bare (declared.Item name components ∷ them) = tags_bare them
tags_bare (declared.Tag name components ∷ them) = λ i. of_name name components ∷ tags_bare them i

declarations_bare : (items tags : List Text) (them : List Declaring) → declaration_faults items tags (map bare_declaration them) ≡ declaration_faults items tags them
declarations_bare items tags [] = refl
declarations_bare items tags (declared.Item name components ∷ them) = λ i. fault_if (has items name) error.Redeclared name.place ++ declarations_bare (items ++ text_of name ∷ []) tags them i
declarations_bare items tags (declared.Tag name components ∷ them) = λ i. fault_if (has tags name) error.Redeclared name.place ++ declarations_bare items (tags ++ text_of name ∷ []) them i

same_bare : (one two : Relating) → same_relation (bare_relation one) (bare_relation two) ≡ same_relation one two
same_bare one two = grind arith

any_bare : (test other : Relating → Bool) → ((it : Relating) → test (bare_relation it) ≡ other it) → (them : List Relating) → list_any test (map bare_relation them) ≡ list_any other them
any_bare test other same them = any_mapped test bare_relation them ∙ any_agree (λ it. test (bare_relation it)) other them same

each_bare : (is : Text → Relating → Bool) → ((name : Text) (it : Relating) → is name (bare_relation it) ≡ is name it) → (them : List Relating) (names : List Text)
    → each_of is (map bare_relation them) names ≡ each_of is them names
each_bare is same them names = λ i. map (λ name. any_bare (is name) (is name) (same name) them i) names

prescriber_bare : (them : List Relating) (step : Text) → prescriber_of (map bare_relation them) step ≡ prescriber_of them step
prescriber_bare [] step = refl
prescriber_bare (related.Prescribes one two ∷ more) step = λ i. if is_name two step then Some (text_of one) else prescriber_bare more step i
prescriber_bare (_ ∷ more) step = prescriber_bare more step

module _ (items tags steps : List Text) where
  fault_bare : (before : List Relating) (one : Relating) → relation_fault items tags steps (map bare_relation before) (bare_relation one) ≡ relation_fault items tags steps before one
  fault_bare before one = grind (arith, any_bare (same_relation (bare_relation one)) (same_relation one) (same_bare one) before, prescriber_bare before)

  relations_bare : (before them : List Relating) → relation_faults items tags steps (map bare_relation before) (map bare_relation them) ≡ relation_faults items tags steps before them
  relations_bare before [] = refl
  relations_bare before (one ∷ them) =
      let rest : relation_faults items tags steps (map bare_relation before ++ bare_relation one ∷ []) (map bare_relation them) ≡ relation_faults items tags steps (before ++ one ∷ []) them =
      ap (λ (l : List Relating). relation_faults items tags steps l (map bare_relation them)) (sym (map-append bare_relation before (one ∷ []))) ∙ relations_bare (before ++ one ∷ []) them in
      λ i. fault_bare before one i ++ rest i

repeated_bare : (before : List Text) (names : List Name) → repeated before (map bare names) ≡ repeated before names
repeated_bare before [] = refl
repeated_bare before (name ∷ names) = λ i. fault_if (has before name) error.Redeclared name.place ++ repeated_bare (before ++ text_of name ∷ []) names i

-- ---- two trees of one derivation

-- what they have in common
pub record SharesNames (t u : Tree) : Type 0 where
  pub items : items_of t.declarations.items ≡ items_of u.declarations.items
  pub tags : tags_of t.declarations.items ≡ tags_of u.declarations.items
  pub relations : map bare_relation t.relations.items ≡ map bare_relation u.relations.items

pub names_bare : (texts : List Named) (ones twos : List Name) → AreAll IsName texts ones → AreAll IsName texts twos → map bare ones ≡ map bare twos
names_bare texts ones twos a b = sym (in_common IsName name_of bare name_bare texts ones a) ∙ in_common IsName name_of bare name_bare texts twos b

module _ (graph : GraphText) (t u : Tree) (a : IsTree graph t) (b : IsTree graph u) where
  same_declarations : map bare_declaration t.declarations.items ≡ map bare_declaration u.declarations.items
  same_declarations =
      sym (in_common IsDeclaration tree_declaration bare_declaration declaration_bare graph.declarations t.declarations.items a.declarations)
      ∙ in_common IsDeclaration tree_declaration bare_declaration declaration_bare graph.declarations u.declarations.items b.declarations

  pub shared : SharesNames t u
  shared = record {
    items = sym (items_bare t.declarations.items) ∙ ap items_of same_declarations ∙ items_bare u.declarations.items;
    tags = sym (tags_bare t.declarations.items) ∙ ap tags_of same_declarations ∙ tags_bare u.declarations.items;
    relations = sym (in_common IsRelation tree_relation bare_relation relation_bare graph.relations t.relations.items a.relations)
        ∙ in_common IsRelation tree_relation bare_relation relation_bare graph.relations u.relations.items b.relations;
  }

module _ (t u : Tree) (same : SharesNames t u) where
  pub prescriber_same : (step : Text) → prescriber_of t.relations.items step ≡ prescriber_of u.relations.items step
  prescriber_same step = sym (prescriber_bare t.relations.items step) ∙ ap (λ (them : List Relating). prescriber_of them step) same.relations ∙ prescriber_bare u.relations.items step

  pub each_same : (is : Text → Relating → Bool) → ((name : Text) (it : Relating) → is name (bare_relation it) ≡ is name it) → (names also : List Text) → names ≡ also
      → each_of is t.relations.items names ≡ each_of is u.relations.items also
  each_same is told names also named = sym (each_bare is told t.relations.items names) ∙ (λ i. each_of is (same.relations i) (named i)) ∙ each_bare is told u.relations.items also

  -- they let a step with one name name the same
  pub sheet_same : (one two : NamedStep) → text_of one.name ≡ text_of two.name → sheet_in t one ≡ sheet_in u two
  sheet_same one two named =
      let reads = each_same (λ item. is_read item (text_of one.name)) (λ item it. grind arith) _ _ (ap names_in same.items)
      ∙ (λ i. each_of (λ item. is_read item (named i)) u.relations.items (names_in (items_of u.declarations.items))) in
      let item_puts = each_same (is_item_put (text_of one.name)) (λ item it. grind arith) _ _ (ap names_in same.items)
      ∙ (λ i. each_of (is_item_put (named i)) u.relations.items (names_in (items_of u.declarations.items))) in
      let tag_puts = each_same (is_tag_put (text_of one.name)) (λ tag it. grind arith) _ _ (ap names_in same.tags)
      ∙ (λ i. each_of (is_tag_put (named i)) u.relations.items (names_in (tags_of u.declarations.items))) in
      λ i. record { items = same.items i; tags = same.tags i; reads = reads i; item_puts = item_puts i; tag_puts = tag_puts i }

  -- ---- the faults of their steps

  arity_same : (tags : List Collection) (prescriber : Option Text) (one two : NamedStep) → bare one.name ≡ bare two.name → length one.parameters.items ≡ length two.parameters.items
      → arity_faults tags prescriber one ≡ arity_faults tags prescriber two
  arity_same tags None one two name many = λ i. fault_if true error.NoPrescriber (name i).place
  arity_same tags (Some tag) one two name many = λ i. fault_if (is_other (components_of tags tag) (many i)) error.Arity (name i).place

  steps_same : (tags : List Collection) (before also : List Text) → before ≡ also → (texts : List StepText) (ones twos : List NamedStep) → AreAll IsStep texts ones → AreAll IsStep texts twos
      → step_faults tags t.relations.items before ones ≡ step_faults tags u.relations.items also twos
  steps_same tags before also same_before [] [] [] a b = refl
  steps_same tags before also same_before (text ∷ texts) (one ∷ ones) (two ∷ twos) a b =
      let name = sym (name_bare text.name one.name a.0.name) ∙ name_bare text.name two.name b.0.name in
      let parameters = names_bare (all_names text.parameters) one.parameters.items two.parameters.items a.0.parameters b.0.parameters in
      let variables = names_bare (all_names text.variables) one.variables.items two.variables.items a.0.variables b.0.variables in
      let many : length one.parameters.items ≡ length two.parameters.items = sym (length-map one.parameters.items bare) ∙ ap length parameters ∙ length-map two.parameters.items bare in
      let found : prescriber_of t.relations.items (text_of one.name) ≡ prescriber_of u.relations.items (text_of two.name) = prescriber_same (text_of one.name) ∙ ap (λ (it : Name). prescriber_of u.relations.items (text_of it)) name in
      let arity = ap (λ (prescriber : Option Text). arity_faults tags prescriber one) found ∙ arity_same tags (prescriber_of u.relations.items (text_of two.name)) one two name many in
      let listed : map bare (one.parameters.items ++ one.variables.items) ≡ map bare (two.parameters.items ++ two.variables.items) =
      map-append bare one.parameters.items one.variables.items ∙ (λ i. parameters i ++ variables i) ∙ sym (map-append bare two.parameters.items two.variables.items) in
      let names = sym (repeated_bare [] (one.parameters.items ++ one.variables.items)) ∙ ap (repeated []) listed ∙ repeated_bare [] (two.parameters.items ++ two.variables.items) in
      let rest = steps_same tags (before ++ text_of one.name ∷ []) (also ++ text_of two.name ∷ []) (λ i. same_before i ++ text_of (name i) ∷ []) texts ones twos a.1 b.1 in
      λ i. or_else (fault_if (has (same_before i) (name i)) error.StepTwice (name i).place) (arity i) ++ names i ++ rest i
  steps_same _ _ _ _ _ _ _ a b = absurd (assumption)

pub faults_same : (graph : GraphText) (t u : Tree) → IsTree graph t → IsTree graph u → tree_faults t ≡ tree_faults u
faults_same graph t u a b =
    let same = shared graph t u a b in
    let named = in_common IsStep (λ text. text.name.0) (λ step. text_of step.name) (λ text step is. sym is.name.0) graph.steps in
    let steps : step_names t.steps.items ≡ step_names u.steps.items = sym (named t.steps.items a.steps) ∙ named u.steps.items b.steps in
    let of_declarations = sym (declarations_bare [] [] t.declarations.items) ∙ ap (declaration_faults [] []) (same_declarations graph t u a b) ∙ declarations_bare [] [] u.declarations.items in
    let of_relations = sym (relations_bare (names_in (items_of t.declarations.items)) (names_in (tags_of t.declarations.items)) (step_names t.steps.items) [] t.relations.items)
    ∙ (λ i. relation_faults (names_in (same.items i)) (names_in (same.tags i)) (steps i) [] (same.relations i))
    ∙ relations_bare (names_in (items_of u.declarations.items)) (names_in (tags_of u.declarations.items)) (step_names u.steps.items) [] u.relations.items in
    let of_steps = (λ i. step_faults (same.tags i) t.relations.items [] t.steps.items) ∙ steps_same t u same (tags_of u.declarations.items) [] [] refl graph.steps t.steps.items u.steps.items a.steps b.steps in
    λ i. of_declarations i ++ of_relations i ++ of_steps i
