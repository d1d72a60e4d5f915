-- The steps of a graph as they are printed: their names, limits and faults.
use Rattle.std.proofs.Common.{◌≡◌, ℕ, zero, suc, ◌+◌, false, List, [], ◌∷◌, ◌++◌, length, map, take, drop, codes, Option, refl, sym, ap, subst, ◌∙◌, arith, append_assoc, length-append, length-take-le}
use Rattle.std.proofs.Common.{take-append-drop, ◌≤◌, ◌<◌, true, ◌==◌, get_or, Some}
use Rattle.std.specs.Prelude.{is_some, slice_get}
use Rattle.std.specs.List.{AllByRecursion}
use Rattle.std.proofs.lemmas.List.{map-append, length-map}
use Rattle.terms.specs.declared.key.TheConstants.{MAX_COMPONENTS}
use Rattle.steptree.specs.declared.slot.TheConstants.{MOST_NAMES}
use Rattle.steptree.specs.declared.step.Name.{Name}
use Rattle.steptree.specs.declared.step.Step.{Step as NamedStep}
use Rattle.steptree.specs.Names.{Text, is_text, names_of, names_in, place_of}
use Rattle.steptree.specs.Resolved.{IsBlock}
use Rattle.steptree.specs.Sheet.{BodyKeepsTo}
use Rattle.steptree.specs.Limits.{AreFew}
use Rattle.syntax.specs.declared.token.Word.TheVariants as kept
use Rattle.syntax.specs.declared.token.Symbol.TheVariants as sign
use Rattle.syntax.specs.Tokens.{word_text}
use Rattle.syntax.specs.Grammar.{Named, StepText}
use Rattle.syntax.specs.Spelled.{Piece, named, a_sign, a_word, statements_pieces, plain}
use Rattle.syntax.specs.OwnStatements.{get_pieces, put_pieces}
use Rattle.syntax.specs.GraphTexts.{parameters_pieces, variables_pieces, step_pieces, all_names, step_limits, steps_limits, IsStep}
use Rattle.syntax.specs.Tree.{AreAll}
use Rattle.graph.specs.declared.fault.GraphError.TheVariants.{StepTwice}
use Rattle.graph.specs.Graph.{Graph, Step, sheet_of, IsOfGraph}
use Rattle.graph.specs.Tree.{text_of, step_names, is_read, is_item_put, is_tag_put, each_of, prescriber_of}
use Rattle.graph.specs.Faults.{At, fault_if, has, repeated, or_else, components_of, arity_faults, step_faults}
use Rattle.graph.specs.Textual.{IsGraphName, AreNames, IsTextStep}
use Rattle.graph.specs.Canonical.{in_rounds, joined, line, variables_line, block_text, step_text}
use Rattle.graph.proofs.PrintedTokens.{never, Printed, behind, and, printed_name, no_name_limit, lined, word_first, close_brace, plain_brace, a_word_alone, no_more_limit, in_order, inside_rounds}
use Rattle.graph.proofs.PrintedExpressions.{OnePrinted}
use Rattle.graph.proofs.PrintedDeclarations.{Bears, no_limits_of, none_behind, texts_of, names_of_all, parameters_printed, variables_printed, one_before, not_there}
use Rattle.graph.proofs.PrintedBlocks.{known, many_names}
use Rattle.graph.proofs.OwnStatements.{read_printed, write_printed}
use Rattle.graph.proofs.PrintedApart.{Apart, Clear, apart, nowhere, take_each, flipped}
use Rattle.graph.proofs.PrintedValues.{vec_of, name_of}
use Rattle.graph.proofs.Lists.{as_many, no_both, each, are_both, each_at, in_common}
use Rattle.std.proofs.lemmas.Option.{slice_get_within, slice_get-get_or}
use Rattle.std.proofs.lemmas.Bool.Decides.{nat_tests}
use Rattle.steptree.specs.declared.sheet.TheConstants.{MOST_COLLECTIONS}
use Rattle.steptree.specs.Nameable.{Collection}
use Rattle.syntax.specs.declared.tree.Relation.{Relation as Related}
use Rattle.graph.specs.Prescribed.{names_of_steps}
use Rattle.graph.proofs.Texts.{itself}
use Rattle.std.proofs.lemmas.Simd.{map-map}
use Rattle.syntax.specs.declared.token.Word.{Word}
use Rattle.std.proofs.lemmas.List.Elements.{recursion_from_All}

-- ---- names of a step

both_named : (one two : List Named) (texts : List Text) → AreAll Bears texts (one ++ two) → map (λ (it : Name). it.text.now) (map name_of one ++ map name_of two) ≡ texts
both_named one two texts all =
    ap (λ (l : List Name). map (λ (it : Name). it.text.now) l) (sym (map-append name_of one two)) ∙ map-map (λ (it : Name). it.text.now) name_of (one ++ two) ∙ texts_of texts (one ++ two) all

not_repeated : (before : List Text) (those : List Named) → Apart is_text (map (λ (it : Named). it.0) those) → Clear is_text before (map (λ (it : Named). it.0) those) → repeated before (map name_of those) ≡ []
not_repeated before [] apart clear = refl
not_repeated before (it ∷ those) apart clear =
    no_both _ _ (not_there before it.0 it.1 clear.0)
    (not_repeated (before ++ it.0 ∷ []) those apart.1 (one_before before it.0 (map (λ (it : Named). it.0) those) clear.1 apart.0))

drop_each : (P : Text → Type 0) (count : ℕ) (texts : List Text) → AllByRecursion P texts → AllByRecursion P (drop count texts)
drop_each P zero texts all = all
drop_each P (suc count) [] all = tt
drop_each P (suc count) (text ∷ texts) all = drop_each P count texts all.1

-- ---- the pieces of a step in their order

step_pieces_in_order : (head variables read write : List Piece) (a b c d e f g h : Piece)
    → head ++ (a ∷ []) ++ variables ++ (b ∷ c ∷ []) ++ read ++ (d ∷ []) ++ (e ∷ f ∷ []) ++ write ++ (g ∷ []) ++ (h ∷ [])
    ≡ head ++ (a ∷ (variables ++ (b ∷ []) ++ (c ∷ (read ++ (d ∷ []))) ++ (e ∷ []) ++ (f ∷ (write ++ (g ∷ []))) ++ (h ∷ [])))
step_pieces_in_order head variables read write a b c d e f g h = simp append_assoc

opening : (place : ℕ) (it : Word) → Printed never place (word_text it ++ codes " {") (a_word it ++ a_sign sign.OpenBrace)
opening place it = behind (a_word_alone place it) (plain_brace _) (λ rest may. refl)

-- ---- a step

-- a step of a graph that a text can have
pub record IsGood (g : Graph) (step : Step) : Type 0 where
  pub of_graph : IsOfGraph g step
  pub textual : IsTextStep step

-- a step of the tree, and the step of the graph that it is
pub record Shown (g : Graph) (value : NamedStep) (step : Step) : Type 0 where
  pub name : text_of value.name ≡ step.name
  pub names : step.names ≡ names_of value
  pub parameters : step.parameters ≡ length value.parameters.items
  pub read : IsBlock (names_of value) (sheet_of g step) value.read step.body.read
  pub write : IsBlock (names_of value) (sheet_of g step) value.write step.body.write
  pub keeps : BodyKeepsTo (sheet_of g step) step.body
  pub once : repeated [] (value.parameters.items ++ value.variables.items) ≡ []

-- what is known of the derivation of a printed step
pub record DerivedStep (g : Graph) (step : Step) (text : StepText) : Type 0 where
  pub limits : step_limits text ≡ []
  pub value : NamedStep
  pub is : IsStep text value
  pub shown : Shown g value step

module _ (g : Graph) (items : AreFew g.items) (tags : AreFew g.tags) (item_names : AreNames (names_in g.items)) (tag_names : AreNames (names_in g.tags)) where
  pub step_printed : (step : Step) (place : ℕ) → IsGood g step → OnePrinted never (step_text g) step_pieces (DerivedStep g) place step
  step_printed step place good =
      let inputs : List Text = take step.parameters step.names in
      let locals : List Text = drop step.parameters step.names in
      let head : Text = codes "step " ++ step.name in
      let line0 : Text = line 0 (head ++ in_rounds (joined inputs) ++ codes " {") in
      let text2 : Text = line0 ++ variables_line locals ++ line 1 (codes "read {") in
      let text5 : Text = text2 ++ block_text g step.names 2 step.body.read ++ line 1 (codes "}") ++ line 1 (codes "write {") in
      let parameters = parameters_printed inputs (place + length head + 1) (take_each IsGraphName step.parameters step.names good.textual.names.each) in
      let variables = variables_printed locals (place + length line0) (drop_each IsGraphName step.parameters step.names good.textual.names.each) in
      let read = read_printed g step step.names good.textual.names (known g.items items item_names) (known g.tags tags tag_names) step.body.read 2 0 (place + length text2) good.textual.read good.of_graph.keeps.0 in
      let write = write_printed g step step.names good.textual.names (known g.items items item_names) (known g.tags tags tag_names) step.body.write 2 0 (place + length text5) good.textual.write good.of_graph.keeps.1 in
      let title = behind (and (word_first place kept.Step) (printed_name (place + 5) step.name good.textual.name)) (inside_rounds (plain _) refl parameters.printed) (λ rest may. refl) in
      let text : StepText = record { name = (step.name, place + 5); parameters = parameters.names; variables = variables.names; read = read.statements; write = write.statements } in
      let one : List Named = all_names parameters.names in
      let two : List Named = all_names variables.names in
      let whole : inputs ++ locals ≡ step.names = take-append-drop step.parameters step.names in
      let bear : AreAll Bears step.names (one ++ two) = subst (λ (l : List Text). AreAll Bears l (one ++ two)) whole (are_both Bears inputs locals one two parameters.related variables.related) in
      let many : length (one ++ two) ≡ length step.names = (as_many Bears step.names (one ++ two) bear) in
      let few : length one ≡ step.parameters = (as_many Bears inputs one parameters.related) ∙ length-take-le step.parameters step.names good.of_graph.parameters in
      let named_all : map (λ (it : Name). it.text.now) (map name_of one ++ map name_of two) ≡ step.names = both_named one two step.names bear in
      let no_names = no_both _ _ (no_both _ _ (no_both _ _ (no_name_limit step.name (place + 5) good.textual.name) (no_limits_of step.names (one ++ two) bear))
      (none_behind MAX_COMPONENTS one (omega (arith, few, good.textual.few)))) (none_behind MOST_NAMES (one ++ two) (omega (arith, many, good.of_graph.names))) in
      let value : NamedStep = record {
        name = name_of (step.name, place + 5);
        parameters = vec_of (map name_of one) (omega (arith, length-map one name_of, few, good.textual.few));
        variables = vec_of (map name_of two) (omega (arith, length-map two name_of, many, length-append one two, good.of_graph.names));
        read = read.value;
        write = write.value;
      } in record {
        derived = text;
        printed = in_order
            (step_pieces_in_order (a_word kept.Step ++ named (step.name, place + 5) ∷ a_sign sign.OpenRound ++ parameters_pieces parameters.names ++ a_sign sign.CloseRound) (variables_pieces variables.names)
            (statements_pieces get_pieces read.statements) (statements_pieces put_pieces write.statements) _ _ _ _ _ _ _ _)
            (and (and (and (and (and (and (and (and (lined 0 place (and title (plain_brace _))) variables.printed) (lined 1 _ (opening _ kept.Read))) read.printed) (lined 1 _ (close_brace _)))
            (lined 1 _ (opening _ kept.Write))) write.printed) (lined 1 _ (close_brace _))) (lined 0 _ (close_brace _)));
        related = record {
          limits = no_both _ _ (no_both _ _ no_names read.limits) write.limits;
          value = value;
          is = record { name = (refl, refl); parameters = names_of_all one; variables = names_of_all two; read = read.is; write = write.is };
          shown = record {
            name = refl;
            names = sym named_all;
            parameters = omega (arith, length-map one name_of, few);
            read = subst (λ (l : List Text). IsBlock l (sheet_of g step) read.value step.body.read) (sym named_all) read.resolves;
            write = subst (λ (l : List Text). IsBlock l (sheet_of g step) write.value step.body.write) (sym named_all) write.resolves;
            keeps = good.of_graph.keeps;
            once = ap (λ (l : List Name). repeated [] l) (sym (map-append name_of one two))
                ∙ not_repeated [] (one ++ two) (subst (Apart is_text) (sym (texts_of step.names (one ++ two) bear)) (apart step.names good.textual.names.distinct))
                (each (λ text. AllByRecursion (λ other. is_text text other ≡ false) []) (λ text. tt) _);
          };
        };
      }

-- what holds at each index holds of each
pub all_indexed : {X : Type 0} (Q : X → Type 0) (xs : List X) → ((index : ℕ) (x : X) → slice_get xs index ≡ Some x → Q x) → AllByRecursion Q xs
all_indexed Q xs it = recursion_from_All Q xs (λ index default within. it index (get_or xs index default) (slice_get-get_or xs index default within))

-- ---- the trees of steps

pub record StepTrees (g : Graph) (steps : List Step) (texts : List StepText) : Type 0 where
  pub values : List NamedStep
  pub are : AreAll IsStep texts values
  pub shown : AreAll (Shown g) values steps

pub step_trees : (g : Graph) (steps : List Step) (texts : List StepText) → AreAll (DerivedStep g) steps texts → StepTrees g steps texts
step_trees g [] [] all = record { values = []; are = tt; shown = tt }
step_trees g (step ∷ steps) (text ∷ texts) all =
    let one = all.0 in
    let rest = step_trees g steps texts all.1 in
    record { values = one.value ∷ rest.values; are = (one.is, rest.are); shown = (one.shown, rest.shown) }
step_trees _ _ _ all = absurd (assumption)

pub names_shown : (g : Graph) (values : List NamedStep) (steps : List Step) → AreAll (Shown g) values steps → step_names values ≡ names_of_steps steps
names_shown g values steps all = in_common (Shown g) (λ value. text_of value.name) (λ step. step.name) (λ value step is. is.name) values steps all

pub steps_within : (g : Graph) (before : ℕ) (steps : List Step) (texts : List StepText) → AreAll (DerivedStep g) steps texts → before + length steps ≤ MOST_COLLECTIONS → steps_limits before texts ≡ []
steps_within g before [] [] all few = refl
steps_within g before (step ∷ steps) (text ∷ texts) all few =
    no_both _ _ (no_both _ _ (no_more_limit MOST_COLLECTIONS before text.name.1 (omega arith)) all.0.limits) (steps_within g (suc before) steps texts all.1 (omega arith))
steps_within _ _ _ _ all _ = absurd (assumption)

-- ---- faults

-- the number of components of the tags with this number
pub components_found : (tags : List Collection) (index : ℕ) (collection : Collection) → slice_get tags index ≡ Some collection → Apart is_text (names_in tags)
    → components_of tags (get_or (names_in tags) index []) ≡ Some collection.components
components_found [] index collection there apart = absurd (cc)
components_found (first ∷ tags) zero collection there apart = grind (arith, itself first.name)
components_found (first ∷ tags) (suc index) collection there apart =
    let within : index < length (names_in tags) = omega (arith, slice_get_within tags index collection there, many_names tags) in
    grind (arith, flipped (get_or (names_in tags) index []) first.name (each_at (λ text. is_text text first.name ≡ false) (names_in tags) index [] within apart.0), components_found tags index collection there apart.1)

-- what the relations of the tree say of a step
pub record Facts (g : Graph) (relations : List Related) (step : Step) : Type 0 where
  pub reads : each_of (λ item. is_read item step.name) relations (names_in g.items) ≡ step.reads
  pub item_puts : each_of (is_item_put step.name) relations (names_in g.items) ≡ step.item_puts
  pub tag_puts : each_of (is_tag_put step.name) relations (names_in g.tags) ≡ step.tag_puts
  pub prescriber : prescriber_of relations step.name ≡ Some (get_or (names_in g.tags) step.prescriber [])
  pub place : place_of (names_in g.tags) (get_or (names_in g.tags) step.prescriber []) ≡ Some step.prescriber
  pub components : components_of g.tags (get_or (names_in g.tags) step.prescriber []) ≡ Some step.parameters

equal_counts : (count : ℕ) → (count == count) ≡ true
equal_counts count = grind (arith, nat_tests)

right_arity : (g : Graph) (relations : List Related) (value : NamedStep) (step : Step) → Shown g value step → Facts g relations step → arity_faults g.tags (prescriber_of relations (text_of value.name)) value ≡ []
right_arity g relations value step shown facts =
    simp (shown.name, facts.prescriber, facts.components, shown.parameters, equal_counts)

not_twice : (before : List Text) (value : NamedStep) (name : Text) → text_of value.name ≡ name → AllByRecursion (λ other. is_text name other ≡ false) before
    → fault_if (has before value.name) StepTwice value.name.place ≡ []
not_twice before value name same all = ap (λ (o : Option ℕ). fault_if (is_some o) StepTwice value.name.place) (ap (λ (t : Text). place_of before t) same ∙ nowhere before name all)

pub steps_without_fault : (g : Graph) (relations : List Related) (before : List Text) (values : List NamedStep) (steps : List Step) → AreAll (Shown g) values steps → AllByRecursion (Facts g relations) steps
    → Apart is_text (names_of_steps steps) → Clear is_text before (names_of_steps steps) → step_faults g.tags relations before values ≡ []
steps_without_fault g relations before [] [] all facts apart clear = refl
steps_without_fault g relations before (value ∷ values) (step ∷ steps) all facts apart clear =
    let arity : List At = arity_faults g.tags (prescriber_of relations (text_of value.name)) value in
    let first : or_else (fault_if (has before value.name) StepTwice value.name.place) arity ≡ [] =
    ap (λ (l : List At). or_else l arity) (not_twice before value step.name all.0.name clear.0) ∙ right_arity g relations value step all.0 facts.0 in
    let more : step_faults g.tags relations (before ++ text_of value.name ∷ []) values ≡ [] =
    ap (λ (t : Text). step_faults g.tags relations (before ++ t ∷ []) values) all.0.name
    ∙ steps_without_fault g relations (before ++ step.name ∷ []) values steps all.1 facts.1 apart.1 (one_before before step.name (names_of_steps steps) clear.1 apart.0) in
    no_both _ _ (no_both _ _ first all.0.once) more
steps_without_fault _ _ _ _ _ all _ _ _ = absurd (assumption)
