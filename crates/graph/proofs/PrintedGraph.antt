-- The canonical text of a graph that a text can give reads as that graph.
use Rattle.std.proofs.Common.{◌≡◌, ℕ, zero, suc, ◌*◌, ◌^◌, ◌<◌, ◌≤◌, Bool, true, false, List, [], ◌∷◌, length, get_or, map, Option, Some, option_map, sym, ap, subst, ◌∙◌, arith, if◌then◌else◌}
use Rattle.std.proofs.Common.{length-append, ◌+◌, ◌++◌, append_assoc}
use Rattle.std.proofs.lemmas.List.{length-map, append-nil}
use Rattle.std.specs.Prelude.{is_some, All, slice_get}
use Rattle.std.specs.List.{AllByRecursion, flat_map}
use Rattle.std.proofs.lemmas.Option.{slice_get_within}
use Rattle.terms.specs.declared.key.TheConstants.{MAX_COMPONENTS}
use Rattle.steptree.specs.Names.{Text, is_text, place_of, names_in, names_of}
use Rattle.steptree.specs.Nameable.{Collection, Nameable}
use Rattle.syntax.specs.Grammar.{Relation, Declaration, GraphText, item_declared, tag_declared}
use Rattle.syntax.specs.Tree.{AreAll}
use Rattle.graph.specs.Graph.{Graph, Step, IsOfGraph, sheet_of, IsGraph}
use Rattle.graph.specs.Faults.{relation_faults, declaration_faults, step_faults}
use Rattle.graph.specs.Textual.{IsGraphName, IsTextStep, IsTextual, CanonicalReads}
use Rattle.graph.specs.Prescribed.{names_of_steps}
use Rattle.graph.specs.Canonical.{those, in_brackets, in_angles, step_text, step_relations, environment_relations, canonical}
use Rattle.graph.proofs.PrintedTokens.{found_at, never, anything, Printed, and, whole, in_order}
use Rattle.graph.proofs.PrintedBlocks.{many_names}
use Rattle.graph.proofs.PrintedDeclarations.{Declarable, declaration_line, item_lines_printed, tag_lines_printed, Declares, tree_declaration, are_declarations, declared_back}
use Rattle.graph.proofs.PrintedDeclarations.{declarations_within, without_fault}
use Rattle.graph.proofs.PrintedApart.{each_marked, fewer_marked, Apart, apart, Clear}
use Rattle.graph.proofs.PrintedRelations.{Shape, shape_of, Shaped, HasGoodNames, step_shapes, environment_shapes, shapes, tree_relation, shapes_back, shape_line, relations_printed, relation_lines, are_relations, Names}
use Rattle.graph.proofs.PrintedMarks.{prescribed, clash, IsThere, IsKnown, relations_without_fault, shapes_apart, marks_told, step_marks_told, in_lists}
use Rattle.graph.proofs.PrintedSteps.{IsGood, all_indexed, components_found, Facts, DerivedStep, step_printed, Shown, step_trees, names_shown, steps_within, steps_without_fault}
use Rattle.graph.proofs.Lists.{each_at, each, each_weaker, each_unmapped, each_of_both, each_flat, each_mapped, as_many, no_both, each_found}
use Rattle.graph.proofs.Texts.{itself}
use Rattle.std.proofs.lemmas.Grind.{flat_map-append}
use Rattle.steptree.specs.declared.sheet.TheConstants.{MOST_COLLECTIONS}
use Rattle.steptree.specs.declared.step.Step.{Step as NamedStep}
use Rattle.steptree.specs.Resolved.{IsBlock}
use Rattle.steptree.specs.Sheet.{BodyKeepsTo}
use Rattle.syntax.specs.declared.tree.Tree.{Tree}
use Rattle.syntax.specs.Spelled.{Piece}
use Rattle.syntax.specs.GraphTexts.{declaration_pieces, relation_pieces, step_pieces, graph_pieces, relation_limits}
use Rattle.graph.specs.Tree.{items_of, tags_of, step_names, is_read, is_item_put, is_tag_put, sheet_in, IsStepOf, is_environment_item_put, is_environment_tag_put, is_environment_get}
use Rattle.graph.proofs.PrintedExpressions.{AllPrinted, all_printed, no_all}
use Rattle.graph.proofs.PrintedValues.{vec_of}

pub declarable : (collections : List Collection) → All (λ collection. collection.components ≤ MAX_COMPONENTS) collections → AllByRecursion IsGraphName (names_in collections)
    → AllByRecursion Declarable collections
declarable [] few good = tt
declarable (first ∷ rest) few good = (record { name = good.0; few = few 0 first (omega arith) }, declarable rest (λ k d h. few (suc k) d (omega arith)) good.1)

-- ---- names that are there

some_if : (b : Bool) (o : Option ℕ) → is_some o ≡ true → is_some (if b then Some zero else option_map suc o) ≡ true
some_if b o h = grind arith

there_all : (names : List Text) → AllByRecursion (IsThere names) names
there_all [] = tt
there_all (first ∷ rest) = (
  ap (λ (b : Bool). is_some (if b then Some zero else option_map suc (place_of rest first))) (itself first),
  each_weaker (IsThere rest) (IsThere (first ∷ rest)) (λ text h. some_if (is_text first text) (place_of rest text) h) rest (there_all rest),
)

-- ---- what holds of each relation

within_tags : (g : Graph) (step : Step) → IsOfGraph g step → step.prescriber < length (names_in g.tags)
within_tags g step of_graph = let h = slice_get_within g.tags step.prescriber of_graph.prescribed.0 of_graph.prescribed.1 in omega (arith, many_names g.tags)

-- what holds of the names of items, of tags and of steps holds of those in the relations
shapes_named : (IsItem IsTag IsStep : Text → Type 0) (g : Graph) → IsGraph g → AllByRecursion IsItem (names_in g.items) → AllByRecursion IsTag (names_in g.tags) → AllByRecursion IsStep (names_of_steps g.steps)
    → AllByRecursion (Names IsItem IsTag IsStep) (shapes g)
shapes_named IsItem IsTag IsStep g graph items tags steps =
    each_of_both (Names IsItem IsTag IsStep) (flat_map (step_shapes g) g.steps) (environment_shapes g)
    (each_flat (Names IsItem IsTag IsStep) (step_shapes g) g.steps (all_indexed (λ step. AllByRecursion (Names IsItem IsTag IsStep) (step_shapes g step)) g.steps of_step))
    (search (each_of_both, each_mapped, each_marked))
  where
    of_step : (index : ℕ) (step : Step) → slice_get g.steps index ≡ Some step → AllByRecursion (Names IsItem IsTag IsStep) (step_shapes g step)
    of_step index step there =
        let name : IsStep step.name = each_found (λ (it : Step). IsStep it.name) g.steps index step there (each_unmapped IsStep (λ (it : Step). it.name) g.steps steps) in
        let reads : AllByRecursion (λ item. IsItem item × IsStep step.name) (names_in g.items) = each_weaker IsItem _ (λ item h. (h, name)) (names_in g.items) items in
        let item_puts : AllByRecursion (λ item. IsStep step.name × IsItem item) (names_in g.items) = each_weaker IsItem _ (λ item h. (name, h)) (names_in g.items) items in
        let tag_puts : AllByRecursion (λ tag. IsStep step.name × IsTag tag) (names_in g.tags) = each_weaker IsTag _ (λ tag h. (name, h)) (names_in g.tags) tags in
        ((each_at IsTag (names_in g.tags) step.prescriber [] (within_tags g step (graph.steps index step there)) tags, name), search (each_of_both, each_mapped, each_marked))

-- ---- how many relations

fewer : (collections : List Collection) (marks : List Bool) → length (those collections marks) ≤ length collections
fewer collections marks = omega (arith, fewer_marked (names_in collections) marks, many_names collections)

step_count : (g : Graph) (step : Step) → length g.items ≤ 64 → length g.tags ≤ 64 → length (step_shapes g step) ≤ 193
step_count g step items tags =
    simp (length-append, length-map) (omega (arith, fewer g.items step.reads, fewer g.items step.item_puts, fewer g.tags step.tag_puts))

steps_count : (g : Graph) (steps : List Step) → length g.items ≤ 64 → length g.tags ≤ 64 → length (flat_map (step_shapes g) steps) ≤ 193 * length steps
steps_count g [] items tags = omega arith
steps_count g (step ∷ steps) items tags = omega (arith, length-append (step_shapes g step) (flat_map (step_shapes g) steps), step_count g step items tags, steps_count g steps items tags)

pub shapes_count : (g : Graph) → length g.items ≤ 64 → length g.tags ≤ 64 → length g.steps ≤ 64 → length (shapes g) < 2 ^ 63
shapes_count g items tags steps =
    simp (length-append, length-map) (omega (arith, steps_count g g.steps items tags, fewer g.items g.environment_item_puts, fewer g.tags g.environment_tag_puts, fewer g.items g.environment_gets))

-- ---- the parts of a graph that a text can give

module _ (g : Graph) (is : IsTextual g) where
  pub items_apart : Apart is_text (names_in g.items)
  items_apart = apart (names_in g.items) is.items.distinct

  pub tags_apart : Apart is_text (names_in g.tags)
  tags_apart = apart (names_in g.tags) is.tags.distinct

  pub steps_apart : Apart is_text (names_of_steps g.steps)
  steps_apart = apart (names_of_steps g.steps) is.step_names.distinct

  pub good_steps : AllByRecursion (IsGood g) g.steps
  good_steps = all_indexed (IsGood g) g.steps (λ index step there. record { of_graph = is.graph.steps index step there; textual = each_found IsTextStep g.steps index step there is.steps })

  pub good_shapes : AllByRecursion HasGoodNames (shapes g)
  good_shapes = shapes_named IsGraphName IsGraphName IsGraphName g is.graph is.items.each is.tags.each is.step_names.each

  abbrev Known : Shape → Type 0
  Known shape = IsKnown (names_in g.items) (names_in g.tags) (names_of_steps g.steps) shape

  known_shapes : AllByRecursion Known (shapes g)
  known_shapes = shapes_named _ _ _ g is.graph (there_all (names_in g.items)) (there_all (names_in g.tags)) (there_all (names_of_steps g.steps))

  module _ (relations : List Relation) (shaped : AreAll Shaped (shapes g) relations) where
    pub facts : AllByRecursion (Facts g (map tree_relation relations)) g.steps
    facts = all_indexed (Facts g (map tree_relation relations)) g.steps (λ index step there.
        let of : IsOfGraph g step = is.graph.steps index step there in record {
          reads = step_marks_told g relations shaped (λ step item. is_read item step) (λ name text d. grind arith) g.items (λ (it : Step). it.reads) (λ name text. simp in_lists) index step there steps_apart
              items_apart of.each_read;
          item_puts = step_marks_told g relations shaped is_item_put (λ name text d. grind arith) g.items (λ (it : Step). it.item_puts) (λ name text. simp in_lists) index step there steps_apart items_apart of.each_item_put;
          tag_puts = step_marks_told g relations shaped is_tag_put (λ name text d. grind arith) g.tags (λ (it : Step). it.tag_puts) (λ name text. simp in_lists) index step there steps_apart tags_apart of.each_tag_put;
          prescriber = prescribed g relations shaped index step there steps_apart;
          place = found_at (names_in g.tags) step.prescriber is.tags.distinct (within_tags g step of);
          components = components_found g.tags step.prescriber of.prescribed.0 of.prescribed.1 tags_apart ∙ ap (λ (n : ℕ). Some n) of.prescribed.2;
        })

    pub relations_are_right : relation_faults (names_in g.items) (names_in g.tags) (names_of_steps g.steps) [] (map tree_relation relations) ≡ []
    relations_are_right =
        relations_without_fault (names_in g.items) (names_in g.tags) (names_of_steps g.steps) [] relations
        (subst (λ (l : List Shape). AllByRecursion Known l) (sym (shapes_back (shapes g) relations shaped)) known_shapes)
        (subst (λ (l : List Shape). Apart clash l) (sym (shapes_back (shapes g) relations shaped)) (shapes_apart g items_apart tags_apart steps_apart))
        (each (λ shape. AllByRecursion (λ other. clash shape other ≡ false) []) (λ shape. tt) (map shape_of relations))

-- ---- the steps of a graph are those of a tree

module _ (tree : Tree) (g : Graph) (items : items_of tree.declarations.items ≡ g.items) (tags : tags_of tree.declarations.items ≡ g.tags) where
  step_of : (value : NamedStep) (step : Step) → Shown g value step → Facts g tree.relations.items step → IsStepOf tree g value step
  step_of value step shown told =
      let reads : step.reads ≡ (sheet_in tree value).reads = rw (shown.name, items) (sym told.reads) in
      let item_puts : step.item_puts ≡ (sheet_in tree value).item_puts = rw (shown.name, items) (sym told.item_puts) in
      let tag_puts : step.tag_puts ≡ (sheet_in tree value).tag_puts = rw (shown.name, tags) (sym told.tag_puts) in
      let same : sheet_of g step ≡ sheet_in tree value = λ i. record { items = sym items i; tags = sym tags i; reads = reads i; item_puts = item_puts i; tag_puts = tag_puts i } in record {
        name = sym shown.name;
        prescriber = (get_or (names_in g.tags) step.prescriber [], told.prescriber, told.place);
        names = shown.names;
        parameters = shown.parameters;
        reads = reads;
        item_puts = item_puts;
        tag_puts = tag_puts;
        read = subst (λ (sheet : Nameable). IsBlock (names_of value) sheet value.read step.body.read) same shown.read;
        write = subst (λ (sheet : Nameable). IsBlock (names_of value) sheet value.write step.body.write) same shown.write;
        keeps = subst (λ (sheet : Nameable). BodyKeepsTo sheet step.body) same shown.keeps;
      }

  steps_of : (values : List NamedStep) (steps : List Step) → AreAll (Shown g) values steps → AllByRecursion (Facts g tree.relations.items) steps → AreAll (IsStepOf tree g) values steps
  steps_of [] [] all told = tt
  steps_of (value ∷ values) (step ∷ steps) all told = (step_of value step all.0 told.0, steps_of values steps all.1 told.1)
  steps_of _ _ all _ = absurd (assumption)

-- ---- the text

-- the parts of the canonical text, in their order
record Parts (g : Graph) : Type 0 where
  items : AllPrinted never (declaration_line in_brackets) declaration_pieces (Declares item_declared) 0 g.items
  tags : AllPrinted never (declaration_line in_angles) declaration_pieces (Declares tag_declared) (0 + length (flat_map (declaration_line in_brackets) g.items)) g.tags
  relations : AllPrinted never shape_line relation_pieces Shaped (0 + length (flat_map (declaration_line in_brackets) g.items ++ flat_map (declaration_line in_angles) g.tags)) (shapes g)
  steps : AllPrinted never (step_text g) step_pieces (DerivedStep g)
      (0 + length (flat_map (declaration_line in_brackets) g.items ++ flat_map (declaration_line in_angles) g.tags ++ flat_map shape_line (shapes g))) g.steps

parts : (g : Graph) → IsTextual g → Parts g
parts g is = record {
  items = item_lines_printed g.items 0 (declarable g.items is.graph.items.short is.items.each);
  tags = tag_lines_printed g.tags _ (declarable g.tags is.graph.tags.short is.tags.each);
  relations = relations_printed (shapes g) _ (good_shapes g is);
  steps = all_printed never (step_text g) step_pieces (DerivedStep g) (IsGood g) (λ step rest good. anything (step_text g step ++ rest)) (step_printed g is.graph.items is.graph.tags is.items is.tags) g.steps _ (good_steps g is);
}

abbrev text_of_parts : {g : Graph} → Parts g → GraphText
text_of_parts it = record { declarations = it.items.derived ++ it.tags.derived; relations = it.relations.derived; steps = it.steps.derived }

all_parts : (g : Graph) (it : Parts g) → Printed never 0 (canonical g) (graph_pieces (text_of_parts it))
all_parts g it =
    let declared : Text = flat_map (declaration_line in_brackets) g.items ++ flat_map (declaration_line in_angles) g.tags in
    let texts : Text = flat_map (step_text g) g.steps in
    let all = and (and (and it.items.printed it.tags.printed) it.relations.printed) it.steps.printed in
    let same : declared ++ flat_map shape_line (shapes g) ++ texts ≡ canonical g =
    ap (λ (l : Text). declared ++ l ++ texts) (relation_lines g) ∙ ap (λ (l : Text). l ++ texts) (sym (append_assoc declared (flat_map (step_relations g) g.steps) (environment_relations g))) in
    subst (λ (t : Text). Printed never 0 t (graph_pieces (text_of_parts it))) same
    (in_order (ap (λ (p : List Piece). p ++ flat_map relation_pieces it.relations.derived ++ flat_map step_pieces it.steps.derived) (sym (flat_map-append declaration_pieces it.items.derived it.tags.derived))) all)

nothing_before : (names : List Text) → Clear is_text [] names
nothing_before names = each (λ text. AllByRecursion (λ other. is_text text other ≡ false) []) (λ text. tt) names

-- ---- the law

pub canonical_reads : CanonicalReads
canonical_reads g is short =
    let it = parts g is in
    let printed = all_parts g it in
    let one : List Declaration = it.items.derived in
    let two : List Declaration = it.tags.derived in
    let relations : List Relation = it.relations.derived in
    let trees = step_trees g g.steps it.steps.derived it.steps.related in
    let few_tags : length g.tags ≤ MOST_COLLECTIONS = is.graph.tags.few in
    let tree : Tree = record {
      declarations = vec_of (map tree_declaration (one ++ two)) (omega (
        arith,
        length-map (one ++ two) tree_declaration,
        length-append one two,
        as_many (Declares item_declared) g.items one it.items.related,
        as_many (Declares tag_declared) g.tags two it.tags.related,
        is.graph.items.few,
        few_tags,
      ));
      relations = vec_of (map tree_relation relations)
          (omega (arith, length-map relations tree_relation, as_many Shaped (shapes g) relations it.relations.related, shapes_count g is.graph.items.few few_tags is.graph.few));
      steps = vec_of trees.values (omega (arith, as_many (Shown g) trees.values g.steps trees.shown, is.graph.few));
    } in
    let back = declared_back g.items g.tags one two it.items.related it.tags.related in
    let items : items_of (map tree_declaration (one ++ two)) ≡ g.items = back.0 in
    let tags : tags_of (map tree_declaration (one ++ two)) ≡ g.tags = back.1 in
    let all_facts = facts g is relations it.relations.related in
    let declared : declaration_faults [] [] (map tree_declaration (one ++ two)) ≡ [] =
    without_fault [] g.items g.tags one two it.items.related it.tags.related (items_apart g is) (tags_apart g is) (nothing_before (names_in g.items)) (nothing_before (names_in g.tags)) in
    let related : relation_faults (names_in (items_of (map tree_declaration (one ++ two)))) (names_in (tags_of (map tree_declaration (one ++ two)))) (step_names trees.values) [] (map tree_relation relations) ≡ [] =
    (λ i. relation_faults (names_in (items i)) (names_in (tags i)) (names_shown g trees.values g.steps trees.shown i) [] (map tree_relation relations))
    ∙ relations_are_right g is relations it.relations.related in
    let stepped : step_faults (tags_of (map tree_declaration (one ++ two))) (map tree_relation relations) [] trees.values ≡ [] =
    ap (λ (l : List Collection). step_faults l (map tree_relation relations) [] trees.values) tags
    ∙ steps_without_fault g (map tree_relation relations) [] trees.values g.steps trees.shown all_facts (steps_apart g is) (nothing_before (names_of_steps g.steps)) in record {
      short = short;
      ascii = printed.ascii;
      tree = tree;
      read = record {
        spots = printed.spots;
        tokens = whole (append-nil (canonical g)) printed (append-nil printed.spots);
        graph = text_of_parts it;
        derives = printed.are;
        within = no_both _ _ (no_both _ _ (declarations_within 0 g.items g.tags one two (omega (arith, is.graph.items.few)) few_tags it.items.related it.tags.related)
            (no_all Shaped relation_limits (λ shape relation h. h.limits) (shapes g) relations it.relations.related)) (steps_within g 0 g.steps it.steps.derived it.steps.related (omega (arith, is.graph.few)));
        is = record { declarations = are_declarations (one ++ two); relations = are_relations relations; steps = trees.are };
      };
      no_fault = no_both _ _ (no_both _ _ declared related) stepped;
      graph = record {
        items = sym items;
        tags = sym tags;
        steps = steps_of tree g items tags trees.values g.steps trees.shown all_facts;
        environment_item_puts = sym (marks_told g relations it.relations.related is_environment_item_put (λ name d. grind arith) g.items g.environment_item_puts (λ text. simp in_lists) (items_apart g is) is.graph.each_item);
        environment_tag_puts = sym (marks_told g relations it.relations.related is_environment_tag_put (λ name d. grind arith) g.tags g.environment_tag_puts (λ text. simp in_lists) (tags_apart g is) is.graph.each_tag);
        environment_gets = sym (marks_told g relations it.relations.related is_environment_get (λ name d. grind arith) g.items g.environment_gets (λ text. simp in_lists) (items_apart g is) is.graph.each_get);
      };
      canonical = short;
    }
