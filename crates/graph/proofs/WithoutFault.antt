-- A text that reads as a graph has no fault but `NoMemory`.
use Rattle.std.proofs.Common.{◌≡◌, ℕ, suc, Bool, true, not, List, [], ◌∷◌, ◌++◌, length, Option, Some, refl, sym, ap, ◌∙◌, ◌<◌, inl, inr, map, slice_get, arith}
use Rattle.std.specs.Prelude.{option_map, is_none}
use Rattle.std.proofs.lemmas.Bool.{eq-eqb}
use Rattle.steptree.specs.declared.checker.CheckError.{CheckError}
use Rattle.steptree.specs.declared.checker.CheckError.TheVariants.{UnknownName, Arity}
use Rattle.steptree.specs.Tree.{Expression, NamedExpression, Number, Variable, Negation, Operation, End, Do, If, For}
use Rattle.steptree.specs.Simple.{NumberedSimple, NamedSimple, Block, NamedBlock}
use Rattle.steptree.specs.Tree as tree
use Rattle.steptree.specs.declared.step.Name.{Name}
use Rattle.steptree.specs.Names.{Text, place_of, names_in, slot_of, number_of, names_of}
use Rattle.steptree.specs.CheckFaults.{fault_if, variable_faults, expression_faults, component_faults, is_number, components_of, known_faults, key_faults, simple_faults, block_faults, faults_of}
use Rattle.steptree.specs.Resolved.{IsExpression, AreExpressions, IsKey, IsSimple, IsBlock}
use Rattle.steptree.specs.Sheet.{IsAllowed, AllowsAll, KeepsTo}
use Rattle.steptree.specs.Nameable.{Collection, Nameable}
use Rattle.syntax.specs.Tree.{AreAll}
use Rattle.syntax.specs.OwnStatements.{IsGet, IsPut}
use Rattle.syntax.specs.GraphTexts.{IsStep, IsTree}
use Rattle.graph.proofs.AlikeTrees.{SameName, Alike, AlikeKey, AlikeSimple, AlikeBlock, statements_alike}
use Rattle.graph.proofs.OwnStatements.{get_alike, put_alike}
use Rattle.graph.proofs.SameGraphs.{names_are, one_reading}
use Rattle.steptree.specs.declared.step.Step.{Step as NamedStep}
use Rattle.syntax.specs.declared.fault.TreeError.TheVariants as syntax_error
use Rattle.syntax.specs.declared.tree.Tree.{Tree}
use Rattle.syntax.specs.Grammar.{StepText, GraphText}
use Rattle.syntax.specs.Reading.{IsRead, ReadWithoutFault}
use Rattle.syntax.specs.Tokens.{TokensOnce}
use Rattle.syntax.specs.Unambiguous.{OneDerivation}
use Rattle.graph.specs.declared.fault.GraphError.{GraphError}
use Rattle.graph.specs.declared.fault.GraphFault.{GraphFault}
use Rattle.graph.specs.declared.fault.GraphError.TheVariants as error
use Rattle.graph.specs.Canonical.{canonical}
use Rattle.graph.specs.Faults.{tree_faults, body_fault}
use Rattle.graph.specs.Graph.{Step, Graph}
use Rattle.graph.specs.Reads.{Reads, body_faults, IsTreeFault, IsCause, HasCause, no_memory}
use Rattle.graph.specs.Textual.{OneGraph}
use Rattle.graph.specs.Tree.{sheet_in, IsStepOf, IsGraphOf}
use Rattle.graph.proofs.Bare.{SharesNames, shared, sheet_same, faults_same}
use Rattle.graph.proofs.Lists.{each_found}

-- ---- keys of declared collections

-- a collection that is there and allowed, with this number of components, gives no fault
known_clear : (collections : List Collection) (allowed : List Bool) (error : CheckError) (name : Name) (parts : List NamedExpression) (number components : ℕ)
    → number_of collections name ≡ Some number → IsAllowed collections allowed number components
    → length parts ≡ components → known_faults collections allowed error name parts (number_of collections name) ≡ []
known_clear collections allowed error name parts number components found is counted =
    let has : components_of collections number ≡ Some (length parts) = ap (option_map (λ (it : Collection). it.components)) is.declared.1 ∙ ap (λ (n : ℕ). Some n) (is.declared.2 ∙ sym counted) in
    let as_many : is_number (components_of collections number) (length parts) ≡ true = ap (λ (it : Option ℕ). is_number it (length parts)) has ∙ eq-eqb (length parts) (length parts) refl in
    ap (known_faults collections allowed error name parts) found ∙ (λ i. fault_if (not (is.is_allowed i)) error name ++ fault_if (not (as_many i)) Arity name)

-- ---- expressions and keys

module _ (names : List Text) where
  variable_clear : (one two : Name) (slot : ℕ) → SameName one two → slot_of names one ≡ Some slot → variable_faults names two ≡ []
  variable_clear one two slot same found = ap (λ (place : Option ℕ). fault_if (is_none place) UnknownName two) (ap (place_of names) (sym same) ∙ found)

  expression_clear : (one two : NamedExpression) (e : Expression) → Alike one two → IsExpression names one e → expression_faults names two ≡ []
  expression_clear (Number m) (Number n) e alike is = refl
  expression_clear (Variable one) (Variable two) (tree.Variable slot) alike is = variable_clear one two slot alike is
  expression_clear (Negation one) (Negation two) (tree.Negation e) alike is = expression_clear one two e alike is
  expression_clear (Operation _ l1 r1) (Operation _ l2 r2) (tree.Operation _ e f) alike is = λ i. expression_clear l1 l2 e alike.1 is.1 i ++ expression_clear r1 r2 f alike.2 is.2 i
  expression_clear _ _ _ alike is = absurd (assumption)

  components_clear : (ones twos : List NamedExpression) (es : List Expression) → AreAll Alike ones twos → AreExpressions names ones es → (component_faults names twos ≡ []) × (length twos ≡ length es)
  components_clear [] [] [] alike are = (refl, refl)
  components_clear (one ∷ ones) (two ∷ twos) (e ∷ es) alike are =
      let first = expression_clear one two e alike.0 are.0 in
      let rest = components_clear ones twos es alike.1 are.1 in
      (λ i. first i ++ rest.0 i, ap suc rest.1)
  components_clear _ _ _ alike are = absurd (assumption)

  key_clear : (collections : List Collection) (allowed : List Bool) (error : CheckError) (one : Name) (ones : List NamedExpression) (two : Name) (twos : List NamedExpression) (number : ℕ) (es : List Expression)
      → AlikeKey one ones two twos → IsKey names collections one ones number es → IsAllowed collections allowed number (length es) → key_faults names collections allowed error two twos ≡ []
  key_clear collections allowed error one ones two twos number es alike is may =
      let found : number_of collections two ≡ Some number = ap (place_of (names_in collections)) (sym alike.0) ∙ is.0 in
      let components = components_clear ones twos es alike.1 is.1 in
      let known = known_clear collections allowed error two twos number (length es) found may components.1 in
      λ i. known i ++ components.0 i

  -- ---- blocks

  module _ (sheet : Nameable) where
    simple_clear : (one two : NamedSimple) (statement : NumberedSimple) → AlikeSimple one two → IsSimple names sheet one statement → AllowsAll sheet statement → simple_faults names sheet two ≡ []
    simple_clear one two statement alike is keeps = grind (arith, variable_clear, expression_clear, key_clear)

    pub block_clear : (one two : NamedBlock) (b : Block) → AlikeBlock one two → IsBlock names sheet one b → KeepsTo sheet b → block_faults names sheet two ≡ []
    block_clear End End b alike is keeps = refl
    block_clear (Do s1 one) (Do s2 two) (tree.Do statement rest) alike is keeps = λ i. simple_clear s1 s2 statement alike.0 is.0 keeps.0 i ++ block_clear one two rest alike.1 is.1 keeps.1 i
    block_clear (If e1 a1 b1 one) (If e2 a2 b2 two) (tree.If e a b rest) alike is keeps =
        λ i. expression_clear e1 e2 e alike.0 is.0 i ++ block_clear a1 a2 a alike.1 is.1 keeps.0 i ++ block_clear b1 b2 b alike.2 is.2 keeps.1 i ++ block_clear one two rest alike.3 is.3 keeps.2 i
    block_clear (For m e1 g1 a1 one) (For n e2 g2 a2 two) (tree.For slot e g a rest) alike is keeps =
        λ i. variable_clear m n slot alike.0 is.0 i ++ expression_clear e1 e2 e alike.1 is.1 i ++ expression_clear g1 g2 g alike.2 is.2 i ++ block_clear a1 a2 a alike.3 is.3 keeps.0 i ++ block_clear one two rest alike.4 is.4 keeps.1 i
    block_clear _ _ _ alike is _ = absurd (assumption)

-- ---- bodies

module _ (t u : Tree) (g : Graph) (same : SharesNames t u) where
  step_clear : (text : StepText) (one two : NamedStep) (step : Step) → IsStep text one → IsStep text two → IsStepOf t g one step → faults_of (sheet_in u two) two ≡ []
  step_clear text one two step a b is =
      let sheet : Nameable = sheet_in t one in
      let sheets : sheet ≡ sheet_in u two = sheet_same t u same one two (a.name.0 ∙ sym b.name.0) in
      let names : names_of one ≡ names_of two = names_are text one a ∙ sym (names_are text two b) in
      let read = block_clear (names_of one) sheet one.read two.read step.body.read (statements_alike IsGet get_alike text.read one.read two.read a.read b.read) is.read is.keeps.0 in
      let write = block_clear (names_of one) sheet one.write two.write step.body.write (statements_alike IsPut put_alike text.write one.write two.write a.write b.write) is.write is.keeps.1 in
      (λ i. block_faults (sym names i) (sym sheets i) two.read ++ block_faults (sym names i) (sym sheets i) two.write) ∙ (λ i. read i ++ write i)

  bodies_clear : (texts : List StepText) (ones twos : List NamedStep) (steps : List Step) → AreAll IsStep texts ones → AreAll IsStep texts twos → AreAll (IsStepOf t g) ones steps → body_faults u twos ≡ []
  bodies_clear [] [] [] steps a b are = refl
  bodies_clear (text ∷ texts) (one ∷ ones) (two ∷ twos) (step ∷ steps) a b are =
      let first = step_clear text one two step a.0 b.0 are.0 in
      let rest = bodies_clear texts ones twos steps a.1 b.1 are.1 in
      λ i. first i ++ rest i
  bodies_clear _ _ _ _ a b are = absurd (assumption)

-- ---- trees

tree_clear : (graph : GraphText) (t u : Tree) (g : Graph) (kind : GraphError) (position : ℕ) → IsTree graph t → IsTree graph u → IsGraphOf t g → tree_faults t ≡ [] → IsTreeFault u kind position → ⊥
tree_clear graph t u g kind position a b is none fault =
    let of_names : tree_faults u ≡ [] = sym (faults_same graph t u a b) ∙ none in
    let of_bodies : body_faults u u.steps.items ≡ [] = bodies_clear t u g (shared graph t u a b) graph.steps t.steps.items u.steps.items g.steps a.steps b.steps is.steps in
    let first : slice_get ([] ++ map body_fault []) 0 ≡ Some (kind, position) = (λ i. slice_get (sym of_names i ++ map body_fault (sym of_bodies i)) 0) ∙ fault in
    cc

-- ---- texts

module _ (once : TokensOnce) (derived : OneDerivation) (no_syntax : ReadWithoutFault) (one_graph : OneGraph) (text : List ℕ) (g : Graph) (reads : Reads text g) where
  abbrev read : IsRead text reads.tree
  read = reads.read

  no_cause : (kind : GraphError) (position : ℕ) → IsCause text kind position → ⊥
  no_cause error.NotAscii position cause = (let small : cause.byte < 128 = each_found (λ byte. byte < 128) text position cause.byte cause.there reads.ascii in let large = cause.large in omega (arith, small, large))
  no_cause error.Syntax position cause =
      let none : syntax_error.Syntax ≡ syntax_error.NoMemory = no_syntax text reads.tree (record { error = syntax_error.Syntax; place = position }) read cause.1 in
      cc
  no_cause error.TooLarge position (inl (at, inl long)) = let short = reads.short in omega (arith, long, short)
  no_cause error.TooLarge position (inl (at, inr cause)) =
      let long = cause.1.long in
      let short = reads.canonical in
      let same : length (canonical g) ≡ length (canonical cause.1.g) =
      ap (λ (h : Graph). length (canonical h)) (one_graph text reads.tree cause.1.tree g cause.1.g read cause.1.read reads.graph cause.1.graph) in
      omega (arith, long, short, same)
  no_cause error.TooLarge position (inr cause) =
      let none : syntax_error.TooLarge ≡ syntax_error.NoMemory = no_syntax text reads.tree (record { error = syntax_error.TooLarge; place = position }) read cause.1 in
      cc
  no_cause error.NoMemory position cause = cause
  no_cause kind position cause =
      let first = cause.1 in
      tree_clear read.graph reads.tree first.tree g kind position read.is (rw (one_reading once derived text reads.tree first.tree read first.read) at first.read.is) reads.graph reads.no_fault first.first

  pub no_fault : (fault : GraphFault) → HasCause text fault → fault ≡ no_memory
  no_fault fault (inl same) = same
  no_fault fault (inr cause) = absurd (no_cause fault.error cause.0 cause.2)
