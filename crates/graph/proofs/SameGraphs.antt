-- Trees of one derivation differ only in where their parts are in memory: all of them that are graphs are one graph.
use Rattle.std.proofs.Common.{◌≡◌, List, [], ◌∷◌, sym, ◌∙◌, ℕ, Some, refl, ap, ◌++◌, map, arith, subst}
use Rattle.steptree.specs.declared.step.Name.{Name}
use Rattle.syntax.specs.Grammar.{Named, StepText, GraphText}
use Rattle.syntax.specs.Tree.{IsName, AreAll}
use Rattle.syntax.specs.OwnStatements.{IsGet, IsPut}
use Rattle.syntax.specs.GraphTexts.{IsStep, IsTree, all_names, Derives}
use Rattle.steptree.specs.Names.{place_of, names_in, names_of}
use Rattle.steptree.specs.Nameable.{Nameable}
use Rattle.std.proofs.lemmas.List.{map-append}
use Rattle.steptree.specs.declared.step.Step.{Step as NamedStep}
use Rattle.syntax.specs.declared.tree.Tree.{Tree}
use Rattle.graph.specs.Graph.{Step, Graph}
use Rattle.graph.specs.Tree.{text_of, is_environment_item_put, is_environment_tag_put, is_environment_get, prescriber_of, sheet_in, IsStepOf, IsGraphOf}
use Rattle.graph.proofs.Lists.{as_many, in_common}
use Rattle.graph.proofs.Bare.{SharesNames, shared, sheet_same, prescriber_same, each_same}
use Rattle.syntax.specs.Reading.{IsRead}
use Rattle.syntax.specs.Tokens.{Spot, TokensOnce}
use Rattle.syntax.specs.Unambiguous.{OneDerivation}
use Rattle.graph.proofs.AlikeTrees.{statements_alike, block_same}
use Rattle.graph.proofs.OwnStatements.{get_alike, put_alike}

pub names_are : (text : StepText) (step : NamedStep) → IsStep text step → names_of step ≡ map (λ (it : Named). it.0) (all_names text.parameters) ++ map (λ (it : Named). it.0) (all_names text.variables)
names_are text step is =
    let texts = in_common IsName (λ (it : Named). it.0) (λ (name : Name). name.text.now) (λ it name is. sym is.0) in
    map-append (λ (name : Name). name.text.now) step.parameters.items step.variables.items
    ∙ (λ i. sym (texts (all_names text.parameters) step.parameters.items is.parameters) i ++ sym (texts (all_names text.variables) step.variables.items is.variables) i)

-- two trees of one derivation, and the graphs that they are
module _ (t u : Tree) (g h : Graph) (same : SharesNames t u) (tags_are_same : g.tags ≡ h.tags) where
  step_same : (text : StepText) (one two : NamedStep) (first second : Step) → IsStep text one → IsStep text two → IsStepOf t g one first → IsStepOf u h two second → first ≡ second
  step_same text one two first second a b c d =
      let named : text_of one.name ≡ text_of two.name = a.name.0 ∙ sym b.name.0 in
      let step_named : first.name ≡ second.name = c.name ∙ named ∙ sym d.name in
      let names : names_of one ≡ names_of two = names_are text one a ∙ sym (names_are text two b) in
      let found : prescriber_of t.relations.items first.name ≡ prescriber_of u.relations.items second.name =
      prescriber_same t u same first.name ∙ ap (prescriber_of u.relations.items) step_named in
      let one_tag : Some c.prescriber.0 ≡ Some d.prescriber.0 = sym c.prescriber.1 ∙ found ∙ d.prescriber.1 in
      let tag : c.prescriber.0 ≡ d.prescriber.0 = cc in
      let numbers : Some first.prescriber ≡ Some second.prescriber = sym c.prescriber.2 ∙ (λ i. place_of (names_in (tags_are_same i)) (tag i)) ∙ d.prescriber.2 in
      let sheets = sheet_same t u same one two named in
      let prescriber : first.prescriber ≡ second.prescriber = cc in
      let read = block_same (names_of one) (sheet_in t one) one.read two.read _ _ (statements_alike IsGet get_alike text.read one.read two.read a.read b.read) c.read (rw (← names, ← sheets) at d.read) in
      let write = block_same (names_of one) (sheet_in t one) one.write two.write _ _ (statements_alike IsPut put_alike text.write one.write two.write a.write b.write) c.write (rw (← names, ← sheets) at d.write) in
      λ i. record {
        name = step_named i;
        prescriber = prescriber i;
        names = (c.names ∙ names ∙ sym d.names) i;
        parameters = (c.parameters ∙ as_many IsName _ one.parameters.items a.parameters ∙ sym (as_many IsName _ two.parameters.items b.parameters) ∙ sym d.parameters) i;
        reads = (c.reads ∙ ap (λ (sheet : Nameable). sheet.reads) sheets ∙ sym d.reads) i;
        item_puts = (c.item_puts ∙ ap (λ (sheet : Nameable). sheet.item_puts) sheets ∙ sym d.item_puts) i;
        tag_puts = (c.tag_puts ∙ ap (λ (sheet : Nameable). sheet.tag_puts) sheets ∙ sym d.tag_puts) i;
        body = record { read = read i; write = write i };
      }

  steps_same : (texts : List StepText) (ones twos : List NamedStep) (firsts seconds : List Step) → AreAll IsStep texts ones → AreAll IsStep texts twos → AreAll (IsStepOf t g) ones firsts
      → AreAll (IsStepOf u h) twos seconds → firsts ≡ seconds
  steps_same [] [] [] [] [] a b c d = refl
  steps_same (text ∷ texts) (one ∷ ones) (two ∷ twos) (first ∷ firsts) (second ∷ seconds) a b c d =
      let step = step_same text one two first second a.0 b.0 c.0 d.0 in let rest = steps_same texts ones twos firsts seconds a.1 b.1 c.1 d.1 in λ i. step i ∷ rest i
  steps_same _ _ _ _ _ a b c d = absurd (assumption)

pub graph_same : (graph : GraphText) (t u : Tree) (g h : Graph) → IsTree graph t → IsTree graph u → IsGraphOf t g → IsGraphOf u h → g ≡ h
graph_same graph t u g h a b c d =
    let same = shared graph t u a b in
    let items_same : g.items ≡ h.items = c.items ∙ same.items ∙ sym d.items in
    let tags_same : g.tags ≡ h.tags = c.tags ∙ same.tags ∙ sym d.tags in
    let steps = steps_same t u g h same tags_same graph.steps t.steps.items u.steps.items g.steps h.steps a.steps b.steps c.steps d.steps in
    let item_puts = each_same t u same is_environment_item_put (λ name it. grind arith) _ _ (ap names_in items_same) in
    let tag_puts = each_same t u same is_environment_tag_put (λ name it. grind arith) _ _ (ap names_in tags_same) in
    let gets = each_same t u same is_environment_get (λ name it. grind arith) _ _ (ap names_in items_same) in
    λ i. record {
      items = items_same i;
      tags = tags_same i;
      steps = steps i;
      environment_item_puts = (c.environment_item_puts ∙ item_puts ∙ sym d.environment_item_puts) i;
      environment_tag_puts = (c.environment_tag_puts ∙ tag_puts ∙ sym d.environment_tag_puts) i;
      environment_gets = (c.environment_gets ∙ gets ∙ sym d.environment_gets) i;
    }

-- all readings of one text have one derivation
pub one_reading : TokensOnce → OneDerivation → (text : List ℕ) (t u : Tree) (one : IsRead text t) (two : IsRead text u) → two.graph ≡ one.graph
one_reading once derived text t u one two =
    derived one.spots two.graph one.graph (subst (λ (them : List Spot). Derives two.graph them) (once text two.spots one.spots two.tokens one.tokens) two.derives) one.derives
