-- A graph that a text reads as can be written: its names, its steps, and the graph.
use Rattle.std.proofs.Common.{◌≡◌, ℕ, suc, List, [], ◌∷◌, ◌++◌, length, map, get_or, Option, Some, None, sym, ap, subst, ◌∙◌}
use Rattle.std.specs.List.{AllByRecursion, IsDistinct, flat_map}
use Rattle.std.specs.Str.{bytes_eq}
use Rattle.std.proofs.lemmas.Option.{slice_get-get_or}
use Rattle.steptree.specs.Names.{Text, place_of, names_in, names_of}
use Rattle.syntax.specs.declared.limits.TheConstants.{MOST_NAME_BYTES}
use Rattle.syntax.specs.declared.token.Symbol.TheVariants as sign
use Rattle.syntax.specs.declared.tree.Declaration.{Declaration as Declared}
use Rattle.syntax.specs.declared.tree.Declaration.TheVariants as declared
use Rattle.syntax.specs.Tokens.{name}
use Rattle.syntax.specs.Grammar.{Named, Names, Declaration, item_declared, tag_declared, StepText}
use Rattle.syntax.specs.Limits.{name_limits}
use Rattle.syntax.specs.GraphTexts.{all_names, declarations_limits, step_names, step_limits, steps_limits, names_pieces, parameters_pieces, variables_pieces, declaration_pieces, step_pieces, graph_pieces, IsDeclaration, IsStep}
use Rattle.syntax.specs.Spelled.{Piece, a_sign, named, statements_pieces}
use Rattle.syntax.specs.OwnStatements.{get_pieces, put_pieces}
use Rattle.syntax.specs.Tree.{AreAll}
use Rattle.graph.specs.Textual.{IsGraphName, AreNames, IsTextStep, ReadsTextual}
use Rattle.graph.specs.Tree.{items_of, tags_of, text_of, sheet_in, IsStepOf}
use Rattle.graph.proofs.Faultless.{first_empty, second_empty, later, own_names, names_in_step_apart, items_apart, tags_apart, step_names_apart, no_step}
use Rattle.graph.proofs.Texts.{own_place}
use Rattle.graph.proofs.ReadBlocks.{IsSound, AreSound, front, rear, kept_to, pieces_sound}
use Rattle.graph.proofs.OwnStatements.{read_block_read, write_block_read}
use Rattle.std.proofs.lemmas.Grind.{flat_map-append}
use Rattle.steptree.specs.declared.step.Step.{Step as NamedStep}
use Rattle.syntax.specs.declared.tree.Tree.{Tree}
use Rattle.graph.specs.Faults.{repeated, step_faults}
use Rattle.graph.specs.Graph.{Step, Graph}
use Rattle.graph.proofs.SameGraphs.{names_are}
use Rattle.graph.proofs.SmallTrees.{small_step, is_small}
use Rattle.graph.proofs.Lists.{each_of_both, in_common, each_weaker, each_mapped}
use Rattle.graph.specs.Prescribed.{names_of_steps}
use Rattle.graph.proofs.GraphsOfTrees.{graph_is}

pub name_read : (it : Named) → IsSound (name it.0) → name_limits it ≡ [] → IsGraphName it.0
name_read it sound none = record { word = sound.0; not_reserved = sound.1; short = kept_to MOST_NAME_BYTES (length it.0) it.1 none }

-- names that can be written, and differ
pub are_names : (names : List Text) → AllByRecursion IsGraphName names → IsDistinct bytes_eq names → AreNames names
are_names names each distinct = record {
  each = each;
  distinct = λ one two first second same.
      let at_one : place_of names (get_or names one []) ≡ Some one = own_place names one (get_or names one []) distinct (slice_get-get_or names one [] first) in
      let at_two : place_of names (get_or names two []) ≡ Some two = own_place names two (get_or names two []) distinct (slice_get-get_or names two [] second) in
      let places : Some one ≡ Some two = sym at_one ∙ ap (place_of names) same ∙ at_two in
      cc;
}

-- ---- lists

abbrev pub texts_of : List Named → List Text
texts_of them = map (λ (it : Named). it.0) them

abbrev comma : Named → List Piece
comma it = a_sign sign.Comma ++ named it ∷ []

more_read : (more : List Named) → AreSound (flat_map comma more) → flat_map name_limits more ≡ [] → AllByRecursion IsGraphName (texts_of more)
more_read [] sound none = tt
more_read (it ∷ more) sound none = (name_read it sound.1.0 (search first_empty), more_read more sound.1.1 (search second_empty))

names_read : (names : Names) → AreSound (names_pieces names) → flat_map name_limits (names.first ∷ names.more) ≡ [] → AllByRecursion IsGraphName (texts_of (names.first ∷ names.more))
names_read names sound none = (name_read names.first sound.0 (search first_empty), more_read names.more sound.1 (search second_empty))

pub parameters_read : (names : Option Names) → AreSound (parameters_pieces names) → flat_map name_limits (all_names names) ≡ [] → AllByRecursion IsGraphName (texts_of (all_names names))
parameters_read None sound none = tt
parameters_read (Some names) sound none = names_read names sound none

pub variables_read : (names : Option Names) → AreSound (variables_pieces names) → flat_map name_limits (all_names names) ≡ [] → AllByRecursion IsGraphName (texts_of (all_names names))
variables_read None sound none = tt
variables_read (Some names) sound none = names_read names (front (names_pieces names) (a_sign sign.Semicolon) sound.1) none

-- ---- declarations

pub declarations_read : (items tags : ℕ) (texts : List Declaration) (ds : List Declared) → AreSound (flat_map declaration_pieces texts) → declarations_limits items tags texts ≡ [] → AreAll IsDeclaration texts ds
    → AllByRecursion IsGraphName (names_in (items_of ds)) × AllByRecursion IsGraphName (names_in (tags_of ds))
declarations_read items tags [] [] sound none are = (tt, tt)
declarations_read items tags (item_declared it components ∷ texts) (declared.Item called number ∷ ds) sound none are =
    let own : AreSound (declaration_pieces (item_declared it components)) = search front in
    let rest = declarations_read (suc items) tags texts ds (search rear) (search second_empty) are.1 in
    ((subst IsGraphName (sym are.0.0.0) (name_read it own.1.0 (search (first_empty, second_empty))), rest.0), rest.1)
declarations_read items tags (tag_declared it components ∷ texts) (declared.Tag called number ∷ ds) sound none are =
    let own : AreSound (declaration_pieces (tag_declared it components)) = search front in
    let rest = declarations_read items (suc tags) texts ds (search rear) (search second_empty) are.1 in
    (rest.0, (subst IsGraphName (sym are.0.0.0) (name_read it own.1.0 (search (first_empty, second_empty))), rest.1))
declarations_read _ _ _ _ _ _ are = absurd (assumption)

-- the parts of a step
module _ (text : StepText) (sound : AreSound (step_pieces text)) (none : step_limits text ≡ []) where
  variables_sound : AreSound (variables_pieces text.variables)
  variables_sound = search (front, rear) depth 9

  read_sound : AreSound (statements_pieces get_pieces text.read)
  read_sound = search (front, rear) depth 9

  write_sound : AreSound (statements_pieces put_pieces text.write)
  write_sound = search (front, rear) depth 9

  step_names_read : AllByRecursion IsGraphName (texts_of (all_names text.parameters) ++ texts_of (all_names text.variables))
  step_names_read =
      let limits : flat_map name_limits (step_names text) ≡ [] = search (first_empty, second_empty) in
      let both : flat_map name_limits (all_names text.parameters) ++ flat_map name_limits (all_names text.variables) ≡ [] =
      sym (flat_map-append name_limits (all_names text.parameters) (all_names text.variables)) ∙ limits in
      each_of_both IsGraphName (texts_of (all_names text.parameters)) (texts_of (all_names text.variables))
      (parameters_read text.parameters (search (front, rear)) (first_empty _ _ both)) (variables_read text.variables variables_sound (second_empty _ _ both))

  step_read : (tree : Tree) (g : Graph) (it : NamedStep) (step : Step) → IsStep text it → IsStepOf tree g it step → repeated [] (it.parameters.items ++ it.variables.items) ≡ [] → IsTextStep step
  step_read tree g it step is means once = record {
    name = rw (means.name, is.name.0) (name_read text.name sound.1.0 (search (first_empty, second_empty)));
    names = rw means.names (are_names (names_of it) (rw (names_are text it is) step_names_read) (names_in_step_apart (it.parameters.items ++ it.variables.items) once));
    few = rw means.parameters (small_step text it none is).parameters;
    read = rw means.names (read_block_read (names_of it) (sheet_in tree it) text.read it.read _ read_sound (search (first_empty, second_empty)) is.read means.read);
    write = rw means.names (write_block_read (names_of it) (sheet_in tree it) text.write it.write _ write_sound (search (first_empty, second_empty)) is.write means.write);
  }

pub steps_read : (tree : Tree) (g : Graph) (before : ℕ) (names : List Text) (texts : List StepText) (them : List NamedStep) (steps : List Step) → AreSound (flat_map step_pieces texts)
    → steps_limits before texts ≡ []
    → step_faults (tags_of tree.declarations.items) tree.relations.items names them ≡ [] → AreAll IsStep texts them → AreAll (IsStepOf tree g) them steps → AllByRecursion IsTextStep steps
steps_read tree g before names [] [] [] sound none clear are mean = tt
steps_read tree g before names (text ∷ texts) (it ∷ them) (step ∷ steps) sound none clear are mean =
    let tags = tags_of tree.declarations.items in (
      step_read text (search front) (search (first_empty, second_empty)) tree g it step are.0 mean.0 (own_names tags tree.relations.items names it them clear),
      steps_read tree g (suc before) (names ++ text_of it.name ∷ []) texts them steps (search rear) (search second_empty) (later tags tree.relations.items names it them clear) are.1 mean.1,
    )
steps_read _ _ _ _ _ _ _ _ _ _ are mean = absurd (assumption)

pub reads_textual : ReadsTextual
reads_textual text g reads =
    let read = reads.read in
    let tree = reads.tree in
    let graph = read.graph in
    let sound : AreSound (graph_pieces graph) = pieces_sound 0 text read.spots (graph_pieces graph) read.tokens read.derives in
    let names = declarations_read 0 0 graph.declarations tree.declarations.items (search (front, rear)) (first_empty _ _ (first_empty _ _ read.within)) read.is.declarations in
    let all_steps : AllByRecursion IsTextStep g.steps = steps_read tree g 0 [] graph.steps tree.steps.items g.steps (search (front, rear)) (second_empty _ _ read.within) (no_step tree reads.no_fault) read.is.steps reads.graph.steps in
    record {
      graph = graph_is tree g (is_small graph tree read.is read.within) reads.no_fault reads.graph;
      items = rw reads.graph.items (are_names _ names.0 (items_apart tree reads.no_fault));
      tags = rw reads.graph.tags (are_names _ names.1 (tags_apart tree reads.no_fault));
      step_names = are_names (names_of_steps g.steps) (each_mapped IsGraphName (λ (step : Step). step.name) g.steps (each_weaker IsTextStep (λ step. IsGraphName step.name) (λ step is. is.name) g.steps all_steps))
          (subst (IsDistinct bytes_eq) (in_common (IsStepOf tree g) (λ (step : NamedStep). text_of step.name) (λ (step : Step). step.name) (λ it step is. sym is.name) tree.steps.items g.steps reads.graph.steps) (step_names_apart tree reads.no_fault));
      steps = all_steps;
    }
