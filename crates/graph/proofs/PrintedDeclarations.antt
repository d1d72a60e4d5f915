-- Lists of names and declarations as they are printed: items first, then tags, within the limits and without a fault.
use Rattle.std.proofs.Common.{◌≡◌, ◌≢◌, ℕ, ◌+◌, ◌≤◌, true, List, [], ◌∷◌, ◌++◌, length, map, codes, Option, Some, None, refl, sym, ap, subst, arith, length-take-le, Bool, ◌∙◌, suc, false}
use Rattle.std.specs.List.{AllByRecursion, flat_map}
use Rattle.std.proofs.lemmas.List.{drop_all, map-id}
use Rattle.terms.specs.declared.key.TheConstants.{MAX_COMPONENTS}
use Rattle.steptree.specs.Names.{Text, is_text, names_in}
use Rattle.syntax.specs.declared.token.Word.{Word}
use Rattle.syntax.specs.declared.token.Word.TheVariants as kept
use Rattle.syntax.specs.Tokens.{is_letter, word_text}
use Rattle.syntax.specs.Grammar.{Named, Names, Position, Declaration, item_declared, tag_declared}
use Rattle.syntax.specs.Spelled.{named, Piece, plain}
use Rattle.syntax.specs.GraphTexts.{names_pieces, after_colon, parameters_pieces, variables_pieces, declaration_pieces, all_names, declared_limits, declarations_limits, IsDeclaration}
use Rattle.syntax.specs.Limits.{name_limits, names_behind}
use Rattle.syntax.specs.Tree.{IsName, AreAll}
use Rattle.graph.specs.Textual.{IsGraphName}
use Rattle.graph.specs.Canonical.{joined, with_colon, letters, component_names, variables_line, in_brackets, in_angles, line}
use Rattle.graph.proofs.PrintedTokens.{after_word, never, anything, Printed, behind, and, narrowed, nothing, printed_name, no_name_limit, inside, lined, word_first, semicolon, and_blanks}
use Rattle.graph.proofs.PrintedTokens.{no_more_limit, inside_brackets, inside_angles}
use Rattle.graph.proofs.PrintedExpressions.{OnePrinted, joined_printed, no_all, colon, AllPrinted, all_printed, key_fronts}
use Rattle.graph.proofs.PrintedValues.{name_of}
use Rattle.graph.proofs.PrintedApart.{take_each, Apart, Clear, clear_of_both, nowhere}
use Rattle.steptree.specs.Nameable.{Collection}
use Rattle.graph.proofs.Lists.{as_many, no_both, each_weaker, in_common}
use Rattle.std.specs.Prelude.{is_some}
use Rattle.steptree.specs.declared.sheet.TheConstants.{MOST_COLLECTIONS}
use Rattle.syntax.specs.declared.tree.Declaration.{Declaration as Declared}
use Rattle.syntax.specs.declared.tree.Declaration.TheVariants as tree
use Rattle.graph.specs.declared.fault.GraphError.TheVariants.{Redeclared}
use Rattle.graph.specs.Tree.{items_of, tags_of}
use Rattle.graph.specs.Faults.{fault_if, has, declaration_faults}

-- a name of a derivation that has this text, where the text is a good name
pub record Bears (text : Text) (it : Named) : Type 0 where
  pub same : it.0 ≡ text
  pub good : IsGraphName text

pub no_limits_of : (texts : List Text) (those : List Named) → AreAll Bears texts those → flat_map name_limits those ≡ []
no_limits_of texts those all = no_all Bears name_limits (λ text it bears. no_name_limit it.0 it.1 (subst IsGraphName (sym bears.same) bears.good)) texts those all

pub none_behind : (most : ℕ) (those : List Named) → length those ≤ most → names_behind most those ≡ []
none_behind most those few = ap (λ (l : List Named). map (λ it. it.1) l) (drop_all most those few)

pub texts_of : (texts : List Text) (those : List Named) → AreAll Bears texts those → map (λ (it : Named). it.0) those ≡ texts
texts_of texts those all = sym (in_common Bears (λ (text : Text). text) (λ (it : Named). it.0) (λ text it bears. sym bears.same) texts those all) ∙ map-id texts

pub names_of_all : (those : List Named) → AreAll IsName those (map name_of those)
names_of_all [] = tt
names_of_all (it ∷ those) = ((refl, refl), names_of_all those)

-- ---- names with commas between them

pub record NamesPrinted (place : ℕ) (first : Text) (more : List Text) : Type 0 where
  pub names : Names
  pub printed : Printed after_word place (joined (first ∷ more)) (names_pieces names)
  pub related : AreAll Bears (first ∷ more) (names.first ∷ names.more)

a_name : (text : Text) (place : ℕ) → IsGraphName text → OnePrinted after_word (λ (t : Text). t) (λ (it : Named). named it ∷ []) Bears place text
a_name text place is = record { derived = (text, place); printed = printed_name place text is; related = record { same = refl; good = is } }

pub names_printed : (first : Text) (more : List Text) (place : ℕ) → AllByRecursion IsGraphName (first ∷ more) → NamesPrinted place first more
names_printed first more place good =
    let it = joined_printed (λ (t : Text). t) (λ (n : Named). named n ∷ []) Bears IsGraphName a_name first more place good in record {
      names = record { first = it.first; more = it.more };
      printed = subst (λ (l : List Text). Printed after_word place (joined (first ∷ l)) (names_pieces (record { first = it.first; more = it.more }))) (map-id more) it.printed;
      related = it.related;
    }

-- ---- after a colon, in round brackets and on a line

-- a list of names, and what stands around it
pub record ListPrinted (stop : ℕ → Bool) (place : ℕ) (text : Text) (pieces : Option Names → List Piece) (texts : List Text) : Type 0 where
  pub names : Option Names
  pub printed : Printed stop place text (pieces names)
  pub related : AreAll Bears texts (all_names names)

abbrev pub HeadPrinted : ℕ → Text → List Text → Type 0
HeadPrinted place collection texts = ListPrinted after_word place (with_colon collection texts) (λ names. named (collection, place) ∷ after_colon names) texts

pub head_printed : (collection : Text) (texts : List Text) (place : ℕ) → IsGraphName collection → AllByRecursion IsGraphName texts → HeadPrinted place collection texts
head_printed collection [] place is good = record { names = None; printed = printed_name place collection is; related = tt }
head_printed collection (first ∷ more) place is good =
    let it = names_printed first more (place + length (collection ++ codes ": ")) good in record {
      names = Some it.names;
      printed = and (behind (printed_name place collection is) (colon _) (λ rest may. refl)) it.printed;
      related = it.related;
    }

pub parameters_printed : (texts : List Text) (place : ℕ) → AllByRecursion IsGraphName texts → ListPrinted after_word place (joined texts) parameters_pieces texts
parameters_printed [] place good = record { names = None; printed = narrowed (λ rest may. anything rest) (nothing place); related = tt }
parameters_printed (first ∷ more) place good = let it = names_printed first more place good in record { names = Some it.names; printed = it.printed; related = it.related }

pub variables_printed : (texts : List Text) (place : ℕ) → AllByRecursion IsGraphName texts → ListPrinted never place (variables_line texts) variables_pieces texts
variables_printed [] place good = record { names = None; printed = nothing place; related = tt }
variables_printed (first ∷ more) place good =
    let it = names_printed first more (inside 1 place + 4) good in record {
      names = Some it.names;
      printed = lined 1 place (behind (and (word_first _ kept.Var) it.printed) (semicolon _) (λ rest may. refl));
      related = it.related;
    }

-- ---- the names of components

is_a_name : (letter : ℕ) (it : Word) → letter ∷ [] ≢ word_text it
is_a_name letter kept.Env e = omega (arith, ap length e)
is_a_name letter _ e = omega (arith, ap length e)

good_letter : (letter : ℕ) → is_letter letter ≡ true → IsGraphName (letter ∷ [])
good_letter letter is = record { word = (is, tt); not_reserved = is_a_name letter; short = omega arith }

good_letters : AllByRecursion IsGraphName letters
good_letters = search good_letter depth 20

pub good_components : (components : ℕ) → AllByRecursion IsGraphName (component_names components)
good_components components = take_each IsGraphName components letters good_letters

pub many_components : (components : ℕ) → components ≤ MAX_COMPONENTS → length (component_names components) ≡ components
many_components components few = length-take-le components letters (omega (arith, few))

-- ---- one declaration

-- a collection that can be declared
pub record Declarable (collection : Collection) : Type 0 where
  pub name : IsGraphName collection.name
  pub few : collection.components ≤ MAX_COMPONENTS

-- a declaration of this collection
pub record Declares (make : Named → Option Names → Declaration) (collection : Collection) (declaration : Declaration) : Type 0 where
  pub position : Position
  pub components : Option Names
  pub is : declaration ≡ make (collection.name, position) components
  pub many : length (all_names components) ≡ collection.components
  pub limits : declared_limits (collection.name, position) components ≡ []

declares : (make : Named → Option Names → Declaration) (collection : Collection) (place : ℕ) (it : HeadPrinted place collection.name (component_names collection.components)) → Declarable collection
    → Declares make collection (make (collection.name, place) it.names)
declares make collection place it good =
    let many : length (all_names it.names) ≡ collection.components = (as_many Bears (component_names collection.components) (all_names it.names) it.related) ∙ many_components collection.components good.few in record {
      position = place;
      components = it.names;
      is = refl;
      many = many;
      limits = no_both _ _ (no_both _ _ (no_name_limit collection.name place good.name) (no_limits_of (component_names collection.components) (all_names it.names) it.related))
          (none_behind MAX_COMPONENTS (all_names it.names) (omega (arith, many, good.few)));
    }

abbrev pub declaration_line : (Text → Text) → Collection → Text
declaration_line brackets collection = line 0 (brackets (with_colon collection.name (component_names collection.components)) ++ codes ";")

item_line_printed : (collection : Collection) (place : ℕ) → Declarable collection → OnePrinted never (declaration_line in_brackets) declaration_pieces (Declares item_declared) place collection
item_line_printed collection place good =
    let it = head_printed collection.name (component_names collection.components) (place + 1) good.name (good_components collection.components) in
    let end = semicolon (place + length (in_brackets (with_colon collection.name (component_names collection.components)))) in record {
      derived = item_declared (collection.name, place + 1) it.names;
      printed = and_blanks (and (inside_brackets (plain _) refl it.printed) end) (codes "\n") (refl, tt) (λ rest may. refl);
      related = declares item_declared collection (place + 1) it good;
    }

tag_line_printed : (collection : Collection) (place : ℕ) → Declarable collection → OnePrinted never (declaration_line in_angles) declaration_pieces (Declares tag_declared) place collection
tag_line_printed collection place good =
    let it = head_printed collection.name (component_names collection.components) (place + 1) good.name (good_components collection.components) in
    let end = semicolon (place + length (in_angles (with_colon collection.name (component_names collection.components)))) in
    let head = inside_angles (key_fronts collection.name (component_names collection.components) good.name) it.printed in record {
      derived = tag_declared (collection.name, place + 1) it.names;
      printed = and_blanks (behind head end (λ rest may. refl)) (codes "\n") (refl, tt) (λ rest may. refl);
      related = declares tag_declared collection (place + 1) it good;
    }

pub item_lines_printed : (collections : List Collection) (place : ℕ) → AllByRecursion Declarable collections
    → AllPrinted never (declaration_line in_brackets) declaration_pieces (Declares item_declared) place collections
item_lines_printed collections place good =
    all_printed never (declaration_line in_brackets) declaration_pieces (Declares item_declared) Declarable (λ x rest is. anything (declaration_line in_brackets x ++ rest)) item_line_printed collections place good

pub tag_lines_printed : (collections : List Collection) (place : ℕ) → AllByRecursion Declarable collections
    → AllPrinted never (declaration_line in_angles) declaration_pieces (Declares tag_declared) place collections
tag_lines_printed collections place good =
    all_printed never (declaration_line in_angles) declaration_pieces (Declares tag_declared) Declarable (λ x rest is. anything (declaration_line in_angles x ++ rest)) tag_line_printed collections place good

-- the tree of a declaration
abbrev pub tree_declaration : Declaration → Declared
tree_declaration (item_declared it components) = tree.Item (name_of it) (length (all_names components))
tree_declaration (tag_declared it components) = tree.Tag (name_of it) (length (all_names components))

pub are_declarations : (declarations : List Declaration) → AreAll IsDeclaration declarations (map tree_declaration declarations)
are_declarations [] = tt
are_declarations (item_declared it components ∷ more) = (((refl, refl), refl), are_declarations more)
are_declarations (tag_declared it components ∷ more) = (((refl, refl), refl), are_declarations more)

abbrev AreItems : List Collection → List Declaration → Type 0
AreItems collections declarations = AreAll (Declares item_declared) collections declarations

abbrev AreTags : List Collection → List Declaration → Type 0
AreTags collections declarations = AreAll (Declares tag_declared) collections declarations

-- ---- which collections they are

only_tags : (collections : List Collection) (declarations : List Declaration) → AreTags collections declarations
    → (items_of (map tree_declaration declarations) ≡ []) × (tags_of (map tree_declaration declarations) ≡ collections)
only_tags [] [] all = (refl, refl)
only_tags (c ∷ cs) (d ∷ ds) all = let rest = only_tags cs ds all.1 in (simp (all.0.is, rest.0), simp (all.0.is, all.0.many, rest.1))
only_tags _ _ all = absurd (assumption)

pub declared_back : (items tags : List Collection) (one two : List Declaration) → AreItems items one → AreTags tags two
    → (items_of (map tree_declaration (one ++ two)) ≡ items) × (tags_of (map tree_declaration (one ++ two)) ≡ tags)
declared_back [] tags [] two all all2 = only_tags tags two all2
declared_back (c ∷ cs) tags (d ∷ ds) two all all2 = let rest = declared_back cs tags ds two all.1 all2 in (simp (all.0.is, all.0.many, rest.0), simp (all.0.is, rest.1))
declared_back _ _ _ _ all _ = absurd (assumption)

-- ---- limits

tags_within : (items before : ℕ) (collections : List Collection) (declarations : List Declaration) → before + length collections ≤ MOST_COLLECTIONS → AreTags collections declarations
    → declarations_limits items before declarations ≡ []
tags_within items before [] [] few all = refl
tags_within items before (c ∷ cs) (d ∷ ds) few all =
    ap (λ (it : Declaration). declarations_limits items before (it ∷ ds)) all.0.is
    ∙ no_both _ _ (no_both _ _ (no_more_limit MOST_COLLECTIONS before all.0.position (omega arith)) all.0.limits) (tags_within items (suc before) cs ds (omega arith) all.1)
tags_within _ _ _ _ _ all = absurd (assumption)

pub declarations_within : (before : ℕ) (items tags : List Collection) (one two : List Declaration) → before + length items ≤ MOST_COLLECTIONS → length tags ≤ MOST_COLLECTIONS
    → AreItems items one → AreTags tags two → declarations_limits before 0 (one ++ two) ≡ []
declarations_within before [] tags [] two few few2 all all2 = tags_within before 0 tags two (omega arith) all2
declarations_within before (c ∷ cs) tags (d ∷ ds) two few few2 all all2 =
    ap (λ (it : Declaration). declarations_limits before 0 (it ∷ (ds ++ two))) all.0.is
    ∙ no_both _ _ (no_both _ _ (no_more_limit MOST_COLLECTIONS before all.0.position (omega arith)) all.0.limits) (declarations_within (suc before) cs tags ds two (omega arith) few2 all.1 all2)
declarations_within _ _ _ _ _ _ _ all _ = absurd (assumption)

-- ---- faults

pub not_there : (before : List Text) (text : Text) (place : ℕ) → AllByRecursion (λ other. is_text text other ≡ false) before → fault_if (has before (name_of (text, place))) Redeclared place ≡ []
not_there before text place all = ap (λ (o : Option ℕ). fault_if (is_some o) Redeclared place) (nowhere before text all)

-- one more name in front of names that differ
pub one_before : (before : List Text) (first : Text) (names : List Text) → Clear is_text before names → AllByRecursion (λ text. is_text text first ≡ false) names → Clear is_text (before ++ first ∷ []) names
one_before before first names clear all =
    clear_of_both is_text before (first ∷ []) names clear (each_weaker (λ text. is_text text first ≡ false) (λ text. AllByRecursion (λ other. is_text text other ≡ false) (first ∷ [])) (λ text h. (h, tt)) names all)

pub tags_without_fault : (items before : List Text) (collections : List Collection) (declarations : List Declaration) → AreTags collections declarations → Apart is_text (names_in collections)
    → Clear is_text before (names_in collections) → declaration_faults items before (map tree_declaration declarations) ≡ []
tags_without_fault items before [] [] all apart clear = refl
tags_without_fault items before (c ∷ cs) (d ∷ ds) all apart clear =
    ap (λ (it : Declaration). declaration_faults items before (tree_declaration it ∷ map tree_declaration ds)) all.0.is
    ∙ no_both _ _ (not_there before c.name all.0.position clear.0) (tags_without_fault items (before ++ c.name ∷ []) cs ds all.1 apart.1 (one_before before c.name (names_in cs) clear.1 apart.0))
tags_without_fault _ _ _ _ all _ _ = absurd (assumption)

pub without_fault : (before : List Text) (items tags : List Collection) (one two : List Declaration) → AreItems items one → AreTags tags two → Apart is_text (names_in items) → Apart is_text (names_in tags)
    → Clear is_text before (names_in items) → Clear is_text [] (names_in tags) → declaration_faults before [] (map tree_declaration (one ++ two)) ≡ []
without_fault before [] tags [] two all all2 apart apart2 clear clear2 = tags_without_fault before [] tags two all2 apart2 clear2
without_fault before (c ∷ cs) tags (d ∷ ds) two all all2 apart apart2 clear clear2 =
    ap (λ (it : Declaration). declaration_faults before [] (tree_declaration it ∷ map tree_declaration (ds ++ two))) all.0.is
    ∙ no_both _ _ (not_there before c.name all.0.position clear.0)
    (without_fault (before ++ c.name ∷ []) cs tags ds two all.1 all2 apart.1 apart2 (one_before before c.name (names_in cs) clear.1 apart.0) clear2)
without_fault _ _ _ _ _ all _ _ _ _ _ = absurd (assumption)
