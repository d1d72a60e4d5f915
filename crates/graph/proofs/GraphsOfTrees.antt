-- The graph that is made of a small tree without a fault: it satisfies the invariant, and it is the tree's graph.
use Rattle.std.proofs.Common.{◌≡◌, ◌+◌, ℕ, Bool, false, not, ◌==◌, List, [], ◌++◌, length, Option, Some, sym, ap, subst, ◌∙◌, slice_get, arith, length-append, ◌<◌, ◌≤◌, ◌^◌, ◌∷◌, map}
use Rattle.std.proofs.lemmas.Bool.Decides.{nat_tests}
use Rattle.std.proofs.lemmas.List.{length-map, get_or-map}
use Rattle.steptree.specs.declared.step.Name.{Name}
use Rattle.steptree.specs.declared.step.Step.{Step as NamedStep}
use Rattle.steptree.specs.Names.{Text, place_of, names_of, names_in}
use Rattle.steptree.specs.Nameable.{Collection, Nameable}
use Rattle.steptree.specs.Sheet.{BodyKeepsTo}
use Rattle.steptree.specs.Limits.{AreFew}
use Rattle.syntax.specs.declared.tree.Relation.{Relation}
use Rattle.syntax.specs.declared.tree.Tree.{Tree}
use Rattle.graph.specs.declared.fault.GraphError.TheVariants.{Arity}
use Rattle.graph.specs.Faults.{arity_faults, fault_if, is_other, tree_faults}
use Rattle.graph.specs.Graph.{Step, Graph, sheet_of, IsGraph, IsOf, IsOfGraph}
use Rattle.graph.specs.Small.{IsSmall, IsSmallStep}
use Rattle.graph.specs.Tree.{text_of, items_of, tags_of, each_of, prescriber_of, is_environment_item_put, is_environment_tag_put, is_environment_get, sheet_in, IsStepOf, IsGraphOf}
use Rattle.graph.proofs.Faultless.{no_arity, not_so, items_apart, tags_apart}
use Rattle.graph.proofs.Lists.{as_many, each_found, matched_at}
use Rattle.graph.proofs.Checking.{found_collection}
use Rattle.std.specs.Prelude.{Vec}
use Rattle.std.specs.List.{AllByRecursion}
use Rattle.std.specs.declared.alloc.Global.{Global}
use Rattle.std.proofs.lemmas.Option.{slice_get_within, get_or_from_slice_get}
use Rattle.terms.specs.declared.name.StepCollection.{StepCollection}
use Rattle.syntax.specs.Tree.{AreAll}
use Rattle.graph.specs.declared.graph.Prescribed.{Prescribed}
use Rattle.graph.specs.declared.resolved.Resolved.{Resolved}
use Rattle.graph.specs.CheckedSteps.{IsCheckedStep, AreCheckedSteps}
use Rattle.graph.specs.declared.limits.TheConstants.{MOST_TEXT}
use Rattle.graph.specs.Canonical.{canonical}
use Rattle.graph.specs.Inside.{IsKept}
use Rattle.graph.specs.Seen.{collection_seen, step_seen}
use Rattle.graph.specs.Prescribed.{numbers_of, ArePrescriptions}
use Rattle.graph.specs.Reads.{Reads, IsOfText}
use Rattle.graph.specs.Resolved.{IsResolved}
use Rattle.graph.specs.Textual.{CanonicalReads, ReadsTextual}
use Rattle.graph.proofs.Marks.{at_place}
use Rattle.graph.proofs.Sheets.{row_told}

same_count : (one two : ℕ) → not (one == two) ≡ false → one ≡ two
same_count one two same = grind (arith, nat_tests)

-- ---- the graph

module _ (tree : Tree) (g : Graph) (small : IsSmall tree) (none : tree_faults tree ≡ []) (is : IsGraphOf tree g) where
  abbrev items : List Collection
  items = items_of tree.declarations.items

  abbrev tags : List Collection
  tags = tags_of tree.declarations.items

  -- as many marks as there are names in the collections
  as_many_marks : (is_so : Text → Relation → Bool) (collections : List Collection) (marks : List Bool) → marks ≡ each_of is_so tree.relations.items (names_in collections) → length marks ≡ length collections
  as_many_marks is_so collections marks same =
      ap (λ (l : List Bool). length l) same ∙ length-map (names_in collections) _ ∙ length-map collections (λ (collection : Collection). collection.name)

  prescribed_as_declared : (number : ℕ) (named : NamedStep) (tag : Text) (place : ℕ) → slice_get tree.steps.items number ≡ Some named → prescriber_of tree.relations.items (text_of named.name) ≡ Some tag
      → place_of (names_in tags) tag ≡ Some place → IsOf tags place (length named.parameters.items)
  prescribed_as_declared number named tag place there first at =
      let it = found_collection tags tag place at in
      let no_fault : fault_if (is_other (Some it.0.components) (length named.parameters.items)) Arity named.name.place ≡ [] =
      sym (ap (λ (o : Option Text). arity_faults tags o named) first ∙ ap (λ (o : Option ℕ). fault_if (is_other o (length named.parameters.items)) Arity named.name.place) it.2) ∙ no_arity tree none number named there in
      (it.0, it.1, same_count it.0.components (length named.parameters.items) (not_so (is_other (Some it.0.components) (length named.parameters.items)) Arity named.name.place no_fault))

  its_step : (number : ℕ) (named : NamedStep) (step : Step) → slice_get tree.steps.items number ≡ Some named → IsStepOf tree g named step → IsOfGraph g step
  its_step number named step there means =
      let few = each_found IsSmallStep tree.steps.items number named there small.steps in
      let tag = means.prescriber.0 in
      let first : prescriber_of tree.relations.items (text_of named.name) ≡ Some tag = ap (prescriber_of tree.relations.items) (sym means.name) ∙ means.prescriber.1 in
      let at : place_of (names_in tags) tag ≡ Some step.prescriber = ap (λ (l : List Collection). place_of (names_in l) tag) (sym is.tags) ∙ means.prescriber.2 in
      let count : length step.names ≡ length (names_of named) = ap (λ (l : List Text). length l) means.names in
      let sum : length (names_of named) ≡ length named.parameters.items + length named.variables.items =
      length-map (named.parameters.items ++ named.variables.items) (λ (name : Name). name.text.now) ∙ length-append named.parameters.items named.variables.items in
      let parameters : step.parameters ≡ length named.parameters.items = means.parameters in
      let same : sheet_in tree named ≡ sheet_of g step = λ i. record { items = sym is.items i; tags = sym is.tags i; reads = sym means.reads i; item_puts = sym means.item_puts i; tag_puts = sym means.tag_puts i } in
      record {
        prescribed = rw (parameters, is.tags) (prescribed_as_declared number named tag step.prescriber there first at);
        parameters = omega (arith, count, sum, parameters);
        names = omega (arith, count, few.names);
        keeps = subst (λ (sheet : Nameable). BodyKeepsTo sheet step.body) same means.keeps;
        each_read = as_many_marks _ items step.reads means.reads ∙ ap (λ (l : List Collection). length l) (sym is.items);
        each_item_put = as_many_marks _ items step.item_puts means.item_puts ∙ ap (λ (l : List Collection). length l) (sym is.items);
        each_tag_put = as_many_marks _ tags step.tag_puts means.tag_puts ∙ ap (λ (l : List Collection). length l) (sym is.tags);
      }

  pub graph_is : IsGraph g
  graph_is = record {
    items = subst AreFew (sym is.items) small.items;
    tags = subst AreFew (sym is.tags) small.tags;
    few = omega (arith, as_many (IsStepOf tree g) tree.steps.items g.steps is.steps, small.few);
    steps = λ number step there.
        let at = matched_at (IsStepOf tree g) tree.steps.items g.steps number step is.steps there in
        its_step number at.0 step at.1 at.2;
    each_item = as_many_marks is_environment_item_put g.items g.environment_item_puts is.environment_item_puts;
    each_tag = as_many_marks is_environment_tag_put g.tags g.environment_tag_puts is.environment_tag_puts;
    each_get = as_many_marks is_environment_get g.items g.environment_gets is.environment_gets;
  }

-- ---- checked steps by their number

pub all_prescribed : (tree : Tree) (steps : List NamedStep) (them : List (Text × Prescribed)) (tags : ℕ) → tags ≡ length (tags_of tree.declarations.items) → AreCheckedSteps tree steps them
    → AllByRecursion (λ entry. entry.1.prescriber.0 < tags) them
all_prescribed tree [] [] tags many all = tt
all_prescribed tree (step ∷ steps) (entry ∷ them) tags many all =
    let by = all.0.1.prescriber in
    let within = slice_get_within (names_in (tags_of tree.declarations.items)) entry.1.prescriber.0 by.tag (at_place (names_in (tags_of tree.declarations.items)) by.tag entry.1.prescriber.0 by.place) in
    let count = length-map (tags_of tree.declarations.items) (λ (collection : Collection). collection.name) in
    (omega arith, all_prescribed tree steps them tags many all.1)
all_prescribed _ _ _ _ _ all = absurd (assumption)

-- ---- the graph

module _ (tree : Tree) (resolved : Resolved) (steps : List (Text × Prescribed)) (small : IsSmall tree) (none : tree_faults tree ≡ []) (are : IsResolved tree resolved) (checked : AreCheckedSteps tree tree.steps.items steps) where
  -- the graph with its environment rows given apart
  abbrev pub rowed : List Bool → List Bool → List Bool → Graph
  rowed item_puts tag_puts gets = record {
    items = map collection_seen resolved.items.numbered;
    tags = map collection_seen resolved.tags.numbered;
    steps = map step_seen steps;
    environment_item_puts = item_puts;
    environment_tag_puts = tag_puts;
    environment_gets = gets;
  }

  abbrev pub g : Graph
  g = rowed resolved.relations.environment_item_puts.items resolved.relations.environment_tag_puts.items resolved.relations.environment_gets.items

  step_of : (named : NamedStep) (entry : Text × Prescribed) → entry.0 ≡ text_of named.name → IsCheckedStep tree named entry.1 → IsStepOf tree g named (step_seen entry)
  step_of named entry name is = record {
    name = name;
    prescriber = (is.prescriber.tag, ap (prescriber_of tree.relations.items) name ∙ is.prescriber.first, ap (λ (l : List Collection). place_of (names_in l) is.prescriber.tag) are.tags.numbered ∙ is.prescriber.place);
    names = is.resolves.names;
    parameters = is.resolves.parameters;
    reads = is.reads;
    item_puts = is.item_puts;
    tag_puts = is.tag_puts;
    read = is.resolves.read;
    write = is.resolves.write;
    keeps = is.keeps;
  }

  steps_of : (named : List NamedStep) (them : List (Text × Prescribed)) → AreCheckedSteps tree named them → AreAll (IsStepOf tree g) named (map step_seen them)
  steps_of [] [] all = tt
  steps_of (step ∷ named) (entry ∷ them) all = (step_of step entry all.0.0 all.0.1, steps_of named them all.1)
  steps_of _ _ all = absurd (assumption)

  pub is_its_graph : IsGraphOf tree g
  is_its_graph = record {
    items = are.items.numbered;
    tags = are.tags.numbered;
    steps = steps_of tree.steps.items steps checked;
    environment_item_puts = rw are.items.numbered (row_told is_environment_item_put _ tree.relations.items _ (items_apart tree none) are.relations.environment_item_puts);
    environment_tag_puts = rw are.tags.numbered (row_told is_environment_tag_put _ tree.relations.items _ (tags_apart tree none) are.relations.environment_tag_puts);
    environment_gets = rw are.items.numbered (row_told is_environment_get _ tree.relations.items _ (items_apart tree none) are.relations.environment_gets);
  }

  pub is_graph : IsGraph g
  is_graph = graph_is tree g small none is_its_graph

  pub graph_rowed : (item_puts tag_puts gets : List Bool) → item_puts ≡ g.environment_item_puts → tag_puts ≡ g.environment_tag_puts → gets ≡ g.environment_gets → IsGraph (rowed item_puts tag_puts gets)
  graph_rowed item_puts tag_puts gets one two three = subst IsGraph (λ i. rowed (sym one i) (sym two i) (sym three i)) is_graph

  pub spelled : (item_puts tag_puts gets : List Bool) (text : Text) → item_puts ≡ g.environment_item_puts → tag_puts ≡ g.environment_tag_puts → gets ≡ g.environment_gets
      → text ≡ canonical (rowed item_puts tag_puts gets) → text ≡ canonical g
  spelled item_puts tag_puts gets text one two three is = is ∙ (λ i. canonical (rowed (one i) (two i) (three i)))

  -- the text of the tree reads as the graph, and so does its canonical text, unless that is too long
  reads_back : CanonicalReads → ReadsTextual → IsOfText tree → length (canonical g) ≤ MOST_TEXT → Reads (canonical g) g
  reads_back back textual of_text short =
      let reads : Reads of_text.0 g = record { short = of_text.1.0; ascii = of_text.1.1; tree = tree; read = of_text.2; no_fault = none; graph = is_its_graph; canonical = short } in
      back g (textual of_text.0 g reads) short

  pub is_kept : (prescribes : Vec (Vec StepCollection Global) Global) (many : ℕ) → many ≡ length resolved.tags.numbered → ArePrescriptions (map step_seen steps) many (numbers_of prescribes.items)
      → CanonicalReads → ReadsTextual → IsOfText tree → length (canonical g) ≤ MOST_TEXT
      → IsKept (record {
        items = resolved.items.numbered;
        tags = resolved.tags.numbered;
        prescribes = prescribes;
        steps = steps;
        environment_item_puts = resolved.relations.environment_item_puts;
        environment_tag_puts = resolved.relations.environment_tag_puts;
        environment_gets = resolved.relations.environment_gets;
      })
  is_kept prescribes many count lists back textual of_text short =
      let as_many = length-map prescribes.items (λ (steps : Vec StepCollection Global). map (λ step. step.0) steps.items) in record {
        graph = is_graph;
        reads = reads_back back textual of_text short;
        long = sym as_many ∙ lists.long ∙ count;
        prescribes = λ number those there.
            let within = slice_get_within prescribes.items number those there in
            ap (λ (steps : Vec StepCollection Global). map (λ step. step.0) steps.items) (sym (get_or_from_slice_get prescribes.items number those those there))
            ∙ sym (get_or-map (λ (steps : Vec StepCollection Global). map (λ step. step.0) steps.items) prescribes.items number those [] within) ∙ lists.each number (omega (arith, lists.long));
      }

pub few_steps : (tree : Tree) (steps : List (Text × Prescribed)) → IsSmall tree → AreCheckedSteps tree tree.steps.items steps → length steps < 2 ^ 16
few_steps tree steps small checked = omega (arith, as_many (λ step entry. (entry.0 ≡ text_of step.name) × IsCheckedStep tree step entry.1) tree.steps.items steps checked, small.few)

pub so_many_tags : (tree : Tree) (resolved : Resolved) → IsResolved tree resolved → length resolved.tags.numbered ≡ length (tags_of tree.declarations.items)
so_many_tags tree resolved are = sym (length-map resolved.tags.numbered collection_seen) ∙ ap (λ (l : List Collection). length l) are.tags.numbered
