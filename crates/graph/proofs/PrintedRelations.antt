-- The relations of a graph as they are printed, and their trees.
use Rattle.std.proofs.Common.{◌≡◌, ℕ, ◌+◌, Bool, false, List, [], ◌∷◌, ◌++◌, length, get_or, map, codes, refl, ap, ◌∙◌, append_assoc, zero, suc, ◌&&◌, Some, sym, subst, arith}
use Rattle.std.proofs.lemmas.List.Folds.{flat_map-map}
use Rattle.std.proofs.lemmas.Grind.{flat_map-append}
use Rattle.std.specs.List.{AllByRecursion, flat_map, list_any}
use Rattle.steptree.specs.Names.{Text, names_in, is_text}
use Rattle.syntax.specs.declared.token.Word.TheVariants as kept
use Rattle.syntax.specs.Grammar.{Relation, prescribes, reads, puts_item, puts_tag, environment_puts_item, environment_puts_tag, environment_gets}
use Rattle.syntax.specs.Spelled.{Piece, plain, at}
use Rattle.syntax.specs.GraphTexts.{relation_pieces, arrow as arrow_pieces, relation_limits, IsRelation}
use Rattle.syntax.specs.Limits.{name_limits}
use Rattle.graph.specs.Graph.{Graph, Step}
use Rattle.graph.specs.Textual.{IsGraphName}
use Rattle.graph.specs.Canonical.{in_brackets, in_angles, in_rounds, arrow, line, those, step_relations, environment_relations}
use Rattle.graph.proofs.PrintedTokens.{never, anything, Printed, behind, and, and_blanks, printed_name, name_fronts, no_name_limit, word_at, a_word_alone, semicolon, arrow_sign, colons, inside_rounds}
use Rattle.graph.proofs.PrintedTokens.{inside_brackets, inside_angles}
use Rattle.graph.proofs.PrintedExpressions.{OnePrinted, AllPrinted, all_printed}
use Rattle.graph.proofs.Lists.{no_both, any_agree, each_found, each_unmapped}
use Rattle.std.specs.Prelude.{slice_get}
use Rattle.syntax.specs.declared.tree.Relation.{Relation as Related}
use Rattle.syntax.specs.declared.tree.Relation.TheVariants as tree
use Rattle.syntax.specs.Tree.{AreAll}
use Rattle.graph.specs.Prescribed.{names_of_steps}
use Rattle.graph.proofs.PrintedApart.{any_mapped, Apart, flipped}
use Rattle.graph.proofs.PrintedValues.{name_of}
use Rattle.graph.proofs.Texts.{itself}

-- a relation by its names, without a position
pub data Shape : Type 0 where
  a_prescription : Text → Text → Shape
  a_read : Text → Text → Shape
  an_item_put : Text → Text → Shape
  a_tag_put : Text → Text → Shape
  an_environment_item : Text → Shape
  an_environment_tag : Text → Shape
  an_environment_get : Text → Shape

abbrev pub shape_of : Relation → Shape
shape_of (prescribes tag step) = a_prescription tag.0 step.0
shape_of (reads position item step) = a_read item.0 step.0
shape_of (puts_item position step item) = an_item_put step.0 item.0
shape_of (puts_tag position step tag) = a_tag_put step.0 tag.0
shape_of (environment_puts_item position item) = an_environment_item item.0
shape_of (environment_puts_tag position tag) = an_environment_tag tag.0
shape_of (environment_gets position item) = an_environment_get item.0

abbrev pub shape_line : Shape → Text
shape_line (a_prescription tag step) = line 0 (in_angles tag ++ codes " :: " ++ in_rounds step ++ codes ";")
shape_line (a_read item step) = arrow (in_brackets item) (in_rounds step)
shape_line (an_item_put step item) = arrow (in_rounds step) (in_brackets item)
shape_line (a_tag_put step tag) = arrow (in_rounds step) (in_angles tag)
shape_line (an_environment_item item) = arrow (codes "env") (in_brackets item)
shape_line (an_environment_tag tag) = arrow (codes "env") (in_angles tag)
shape_line (an_environment_get item) = arrow (in_brackets item) (codes "env")

-- the names of items, of tags and of steps in the relation are such
abbrev pub Names : (Text → Type 0) → (Text → Type 0) → (Text → Type 0) → Shape → Type 0
Names IsItem IsTag IsStep (a_prescription tag step) = IsTag tag × IsStep step
Names IsItem IsTag IsStep (a_read item step) = IsItem item × IsStep step
Names IsItem IsTag IsStep (an_item_put step item) = IsStep step × IsItem item
Names IsItem IsTag IsStep (a_tag_put step tag) = IsStep step × IsTag tag
Names IsItem IsTag IsStep (an_environment_item item) = IsItem item
Names IsItem IsTag IsStep (an_environment_tag tag) = IsTag tag
Names IsItem IsTag IsStep (an_environment_get item) = IsItem item

abbrev pub HasGoodNames : Shape → Type 0
HasGoodNames shape = Names IsGraphName IsGraphName IsGraphName shape

-- a derivation of this relation
pub record Shaped (shape : Shape) (relation : Relation) : Type 0 where
  pub is : shape_of relation ≡ shape
  pub limits : relation_limits relation ≡ []

-- ---- one relation

arrow_printed : {stop other : ℕ → Bool} {place : ℕ} {from to : Text} {p q : List Piece} → Printed stop place from p → Printed other (place + length (from ++ codes " -> ")) to q
    → stop 32 ≡ false → other 59 ≡ false → Printed never place (arrow from to) (arrow_pieces p q)
arrow_printed {stop} {other} {place} {from} {to} one two space_may end_may =
    let head = behind one (arrow_sign (place + length from)) (λ rest may. space_may) in
    and_blanks (behind (and head two) (semicolon (place + length (from ++ codes " -> " ++ to))) (λ rest may. end_may)) (codes "\n") (refl, tt) (λ rest may. refl)

both_names : (one two : Text) (place other : ℕ) → IsGraphName one → IsGraphName two → name_limits (one, place) ++ name_limits (two, other) ≡ []
both_names one two place other is is2 = no_both _ _ (no_name_limit one place is) (no_name_limit two other is2)

relation_printed : (shape : Shape) (place : ℕ) → HasGoodNames shape → OnePrinted never shape_line relation_pieces Shaped place shape
relation_printed (a_prescription tag step) place good =
    let there : ℕ = place + length (in_angles tag ++ codes " :: ") in
    let head = behind (inside_angles (name_fronts tag good.0) (printed_name (place + 1) tag good.0)) (colons (place + length (in_angles tag))) (λ rest may. refl) in
    let all = and (and head (inside_rounds (plain _) refl (printed_name (there + 1) step good.1))) (semicolon (place + length (in_angles tag ++ codes " :: " ++ in_rounds step))) in record {
      derived = prescribes (tag, place + 1) (step, there + 1);
      printed = and_blanks all (codes "\n") (refl, tt) (λ rest may. refl);
      related = record { is = refl; limits = both_names tag step (place + 1) (there + 1) good.0 good.1 };
    }
relation_printed (a_read item step) place good = let there : ℕ = place + length (in_brackets item ++ codes " -> ") in record {
  derived = reads place (item, place + 1) (step, there + 1);
  printed = arrow_printed (inside_brackets (at _ _) (refl, refl) (printed_name (place + 1) item good.0)) (inside_rounds (plain _) refl (printed_name (there + 1) step good.1)) refl refl;
  related = record { is = refl; limits = both_names item step (place + 1) (there + 1) good.0 good.1 };
}
relation_printed (an_item_put step item) place good = let there : ℕ = place + length (in_rounds step ++ codes " -> ") in record {
  derived = puts_item place (step, place + 1) (item, there + 1);
  printed = arrow_printed (inside_rounds (at _ _) (refl, refl) (printed_name (place + 1) step good.0)) (inside_brackets (plain _) refl (printed_name (there + 1) item good.1)) refl refl;
  related = record { is = refl; limits = both_names step item (place + 1) (there + 1) good.0 good.1 };
}
relation_printed (a_tag_put step tag) place good = let there : ℕ = place + length (in_rounds step ++ codes " -> ") in record {
  derived = puts_tag place (step, place + 1) (tag, there + 1);
  printed = arrow_printed (inside_rounds (at _ _) (refl, refl) (printed_name (place + 1) step good.0)) (inside_angles (name_fronts tag good.1) (printed_name (there + 1) tag good.1)) refl refl;
  related = record { is = refl; limits = both_names step tag (place + 1) (there + 1) good.0 good.1 };
}
relation_printed (an_environment_item item) place good = let there : ℕ = place + length (codes "env" ++ codes " -> ") in record {
  derived = environment_puts_item place (item, there + 1);
  printed = arrow_printed (word_at place kept.Env) (inside_brackets (plain _) refl (printed_name (there + 1) item good)) refl refl;
  related = record { is = refl; limits = no_name_limit item (there + 1) good };
}
relation_printed (an_environment_tag tag) place good = let there : ℕ = place + length (codes "env" ++ codes " -> ") in record {
  derived = environment_puts_tag place (tag, there + 1);
  printed = arrow_printed (word_at place kept.Env) (inside_angles (name_fronts tag good) (printed_name (there + 1) tag good)) refl refl;
  related = record { is = refl; limits = no_name_limit tag (there + 1) good };
}
relation_printed (an_environment_get item) place good = let there : ℕ = place + length (in_brackets item ++ codes " -> ") in record {
  derived = environment_gets place (item, place + 1);
  printed = arrow_printed (inside_brackets (at _ _) (refl, refl) (printed_name (place + 1) item good)) (a_word_alone there kept.Env) refl refl;
  related = record { is = refl; limits = no_name_limit item (place + 1) good };
}

pub relations_printed : (shapes : List Shape) (place : ℕ) → AllByRecursion HasGoodNames shapes → AllPrinted never shape_line relation_pieces Shaped place shapes
relations_printed shapes place good = all_printed never shape_line relation_pieces Shaped HasGoodNames (λ x rest is. anything (shape_line x ++ rest)) relation_printed shapes place good

-- ---- the relations of a graph

abbrev pub step_shapes : Graph → Step → List Shape
step_shapes g step =
    a_prescription (get_or (names_in g.tags) step.prescriber []) step.name
    ∷ (map (λ item. a_read item step.name) (those g.items step.reads) ++ map (λ item. an_item_put step.name item) (those g.items step.item_puts) ++ map (λ tag. a_tag_put step.name tag) (those g.tags step.tag_puts))

abbrev pub environment_shapes : Graph → List Shape
environment_shapes g =
    map (λ item. an_environment_item item) (those g.items g.environment_item_puts) ++ map (λ tag. an_environment_tag tag) (those g.tags g.environment_tag_puts)
    ++ map (λ item. an_environment_get item) (those g.items g.environment_gets)

abbrev pub shapes : Graph → List Shape
shapes g = flat_map (step_shapes g) g.steps ++ environment_shapes g

flat_of_flat : {X Y Z : Type 0} (f : Y → List Z) (h : X → List Y) (k : X → List Z) → ((x : X) → flat_map f (h x) ≡ k x) → (xs : List X) → flat_map f (flat_map h xs) ≡ flat_map k xs
flat_of_flat f h k same [] = refl
flat_of_flat f h k same (x ∷ xs) = flat_map-append f (h x) (flat_map h xs) ∙ (λ i. same x i ++ flat_of_flat f h k same xs i)

regrouped : (a b c d : Text) → a ++ (b ++ c ++ d) ≡ a ++ b ++ c ++ d
regrouped a b c d = simp append_assoc

step_lines : (g : Graph) (step : Step) → flat_map shape_line (step_shapes g step) ≡ step_relations g step
step_lines g step = simp (flat_map-append, flat_map-map) (regrouped (shape_line (a_prescription (get_or (names_in g.tags) step.prescriber []) step.name)) _ _ _)

pub relation_lines : (g : Graph) → flat_map shape_line (shapes g) ≡ flat_map (step_relations g) g.steps ++ environment_relations g
relation_lines g =
    flat_map-append shape_line (flat_map (step_shapes g) g.steps) (environment_shapes g)
    ∙ (λ i. flat_of_flat shape_line (step_shapes g) (step_relations g) (step_lines g) g.steps i ++ environment_lines i)
  where
    environment_lines : flat_map shape_line (environment_shapes g) ≡ environment_relations g
    environment_lines = simp (flat_map-append, flat_map-map)

-- ---- trees of relations

abbrev pub tree_relation : Relation → Related
tree_relation (prescribes tag step) = tree.Prescribes (name_of tag) (name_of step)
tree_relation (reads position item step) = tree.Reads position (name_of item) (name_of step)
tree_relation (puts_item position step item) = tree.PutsItem position (name_of step) (name_of item)
tree_relation (puts_tag position step tag) = tree.PutsTag position (name_of step) (name_of tag)
tree_relation (environment_puts_item position item) = tree.EnvironmentPutsItem position (name_of item)
tree_relation (environment_puts_tag position tag) = tree.EnvironmentPutsTag position (name_of tag)
tree_relation (environment_gets position item) = tree.EnvironmentGets position (name_of item)

pub are_relations : (relations : List Relation) → AreAll IsRelation relations (map tree_relation relations)
are_relations [] = tt
are_relations (prescribes tag step ∷ more) = (search, are_relations more)
are_relations (_ ∷ more) = (search, are_relations more)

-- a tree of this relation, without positions
abbrev pub bare : Shape → Related
bare (a_prescription tag step) = tree.Prescribes (name_of (tag, 0)) (name_of (step, 0))
bare (a_read item step) = tree.Reads 0 (name_of (item, 0)) (name_of (step, 0))
bare (an_item_put step item) = tree.PutsItem 0 (name_of (step, 0)) (name_of (item, 0))
bare (a_tag_put step tag) = tree.PutsTag 0 (name_of (step, 0)) (name_of (tag, 0))
bare (an_environment_item item) = tree.EnvironmentPutsItem 0 (name_of (item, 0))
bare (an_environment_tag tag) = tree.EnvironmentPutsTag 0 (name_of (tag, 0))
bare (an_environment_get item) = tree.EnvironmentGets 0 (name_of (item, 0))

pub shapes_back : (those : List Shape) (relations : List Relation) → AreAll Shaped those relations → map shape_of relations ≡ those
shapes_back [] [] all = refl
shapes_back (shape ∷ those) (relation ∷ relations) all = let heads : shape_of relation ≡ shape = all.0.is in let tails = shapes_back those relations all.1 in cc
shapes_back _ _ all = absurd (assumption)

-- whether the list has this relation depends on names alone
pub told : (test : Related → Bool) → ((relation : Relation) → test (tree_relation relation) ≡ test (bare (shape_of relation))) → (those : List Shape) (relations : List Relation) → AreAll Shaped those relations
    → list_any test (map tree_relation relations) ≡ list_any (λ shape. test (bare shape)) those
told test same those relations all =
    any_mapped test tree_relation relations ∙ any_agree (λ relation. test (tree_relation relation)) (λ relation. test (bare (shape_of relation))) relations same
    ∙ sym (any_mapped (λ (shape : Shape). test (bare shape)) shape_of relations) ∙ ap (λ (l : List Shape). list_any (λ shape. test (bare shape)) l) (shapes_back those relations all)

-- ---- one of the steps

pub other_name : (name : Text) (steps : List Step) (index : ℕ) (step : Step) → slice_get steps index ≡ Some step → AllByRecursion (λ text. is_text text name ≡ false) (names_of_steps steps)
    → is_text step.name name ≡ false
other_name name steps index step there all =
    each_found (λ (it : Step). is_text it.name name ≡ false) steps index step there (each_unmapped (λ text. is_text text name ≡ false) (λ (it : Step). it.name) steps all)

pub only_one : (F : Step → Bool) (steps : List Step) (index : ℕ) (step : Step) → slice_get steps index ≡ Some step → Apart is_text (names_of_steps steps)
    → list_any (λ other. F other && is_text other.name step.name) steps ≡ F step
only_one F [] index step there apart = absurd (cc)
only_one F (first ∷ steps) zero step there apart =
    let same : first ≡ step = cc in
    subst (λ (it : Step). list_any (λ other. F other && is_text other.name it.name) (first ∷ steps) ≡ F it) same
    (grind (arith, itself first.name, others steps apart.0))
  where
    others : (steps : List Step) → AllByRecursion (λ text. is_text text first.name ≡ false) (names_of_steps steps) → list_any (λ other. F other && is_text other.name first.name) steps ≡ false
    others [] all = refl
    others (other ∷ steps) all = grind (arith, all.0, others steps all.1)
only_one F (first ∷ steps) (suc index) step there apart = grind (arith, flipped step.name first.name (other_name first.name steps index step there apart.0), only_one F steps index step there apart.1)

-- a test that nothing passes
pub any_false : {X : Type 0} (xs : List X) → list_any (λ (x : X). false) xs ≡ false
any_false [] = refl
any_false (x ∷ xs) = any_false xs
