-- The parts of a tree, one after another.
use Rattle.std.proofs.Common.{◌≡◌, ◌<◌, ℕ, List, [], ◌∷◌, ◌++◌, length, drop, get_or, sym, ap, subst, ◌∙◌, ◌+◌, append_assoc, arith}
use Rattle.std.proofs.lemmas.List.{map-append, append-nil, length-map, drop_more, drop_all}
use Rattle.steptree.specs.declared.step.Name.{Name}
use Rattle.steptree.specs.Names.{Text, names_in}
use Rattle.steptree.specs.Nameable.{Collection}
use Rattle.syntax.specs.declared.tree.Declaration.{Declaration}
use Rattle.syntax.specs.declared.tree.Declaration.TheVariants as declared
use Rattle.graph.specs.declared.declarations.Collections.{Collections}
use Rattle.graph.specs.declared.fault.PlacedFault.{PlacedFault}
use Rattle.graph.specs.Collected.{AreCollected, again, of_name, collections_of}
use Rattle.graph.specs.Faults.{At, declaration_faults, relation_faults, step_faults, tree_faults}
use Rattle.graph.specs.Numbered.{names_numbered, found}
use Rattle.graph.specs.Placed.{IsFirst}
use Rattle.graph.specs.Tree.{items_of, tags_of, text_of, step_names}
use Rattle.graph.proofs.Faultless.{in_front, empty_in_front, behind_none}
use Rattle.graph.proofs.Seen.{items_named}
use Rattle.steptree.specs.declared.step.Step.{Step as NamedStep}
use Rattle.syntax.specs.declared.tree.Relation.{Relation}
use Rattle.syntax.specs.declared.tree.Tree.{Tree}
use Rattle.graph.specs.declared.relations.Numbers.{Numbers}
use Rattle.graph.specs.declared.relations.Relations.{Relations}
use Rattle.graph.specs.Relations.{AreNumbers, AreRelations}
use Rattle.graph.specs.Steps.{ArePlaces}
use Rattle.graph.proofs.Lists.{no_both}

-- the names of the collections are those of their numbers
pub their_names : (collections : List Collection) (them : Collections) → AreCollected collections them → names_numbered them.numbered ≡ names_in collections
their_names collections them are = items_named them.numbered ∙ ap names_in are.numbered

-- the collections so far, with those that are left, are all
pub record AreLeft (left all : List Collection) (them : Collections) : Type 0 where
  pub declared : them.declared.items ++ left ≡ all
  pub numbered : collections_of them ++ left ≡ all

one_less : (left all : List Collection) (them new : Collections) (it : Collection) → AreLeft (it ∷ left) all them → new.declared.items ≡ them.declared.items ++ it ∷ []
    → collections_of new ≡ collections_of them ++ it ∷ [] → AreLeft left all new
one_less left all them new it so one two = record {
  declared = ap (λ (l : List Collection). l ++ left) one ∙ append_assoc them.declared.items (it ∷ []) left ∙ so.declared;
  numbered = ap (λ (l : List Collection). l ++ left) two ∙ append_assoc (collections_of them) (it ∷ []) left ∙ so.numbered;
}

one_name : (them new : Collections) (name : Name) (components : ℕ) → collections_of new ≡ collections_of them ++ of_name name components ∷ []
    → names_numbered new.numbered ≡ names_numbered them.numbered ++ text_of name ∷ []
one_name them new name components more =
    items_named new.numbered ∙ ap names_in more ∙ map-append (λ (it : Collection). it.name) (collections_of them) (of_name name components ∷ [])
    ∙ ap (λ (l : List Text). l ++ text_of name ∷ []) (sym (items_named them.numbered))

module _ (ds : List Declaration) where
  pub record SoFar (index : ℕ) (items tags : Collections) : Type 0 where
    pub items_left : AreLeft (items_of (drop index ds)) (items_of ds) items
    pub tags_left : AreLeft (tags_of (drop index ds)) (tags_of ds) tags
    pub left : declaration_faults [] [] ds ≡ declaration_faults (names_numbered items.numbered) (names_numbered tags.numbered) (drop index ds)

  module _ (index : ℕ) (items tags : Collections) (default : Declaration) (within : index < length ds) (so : SoFar index items tags) where
    next : (this : Declaration) → get_or ds index default ≡ this → drop index ds ≡ this ∷ drop (index + 1) ds
    next this is = drop_more ds index default within ∙ ap (λ (d : Declaration). d ∷ drop (index + 1) ds) is

    here : (this : Declaration) → get_or ds index default ≡ this → declaration_faults [] [] ds ≡ declaration_faults (names_numbered items.numbered) (names_numbered tags.numbered) (this ∷ drop (index + 1) ds)
    here this is = so.left ∙ ap (declaration_faults (names_numbered items.numbered) (names_numbered tags.numbered)) (next this is)

    module _ (name : Name) (components : ℕ) where
      pub item_declared : (new : Collections) → get_or ds index default ≡ declared.Item name components → again (names_numbered items.numbered) name ≡ []
          → new.declared.items ≡ items.declared.items ++ of_name name components ∷ [] → collections_of new ≡ collections_of items ++ of_name name components ∷ [] → SoFar (index + 1) new tags
      item_declared new is none one two = record {
        items_left = one_less _ _ items new _ (subst (λ (l : List Declaration). AreLeft (items_of l) (items_of ds) items) (next _ is) so.items_left) one two;
        tags_left = subst (λ (l : List Declaration). AreLeft (tags_of l) (tags_of ds) tags) (next _ is) so.tags_left;
        left = here _ is ∙ empty_in_front (again (names_numbered items.numbered) name) _ none
            ∙ ap (λ (l : List Text). declaration_faults l (names_numbered tags.numbered) (drop (index + 1) ds)) (sym (one_name items new name components two));
      }

      pub tag_declared : (new : Collections) → get_or ds index default ≡ declared.Tag name components → again (names_numbered tags.numbered) name ≡ []
          → new.declared.items ≡ tags.declared.items ++ of_name name components ∷ [] → collections_of new ≡ collections_of tags ++ of_name name components ∷ [] → SoFar (index + 1) items new
      tag_declared new is none one two = record {
        items_left = subst (λ (l : List Declaration). AreLeft (items_of l) (items_of ds) items) (next _ is) so.items_left;
        tags_left = one_less _ _ tags new _ (subst (λ (l : List Declaration). AreLeft (tags_of l) (tags_of ds) tags) (next _ is) so.tags_left) one two;
        left = here _ is ∙ empty_in_front (again (names_numbered tags.numbered) name) _ none
            ∙ ap (λ (l : List Text). declaration_faults (names_numbered items.numbered) l (drop (index + 1) ds)) (sym (one_name tags new name components two));
      }

      pub item_fault : (fault : PlacedFault) → get_or ds index default ≡ declared.Item name components → IsFirst (again (names_numbered items.numbered) name) fault → IsFirst (declaration_faults [] [] ds) fault
      item_fault fault is first = subst (λ (l : List At). IsFirst l fault) (sym (here _ is)) (in_front (again (names_numbered items.numbered) name) _ fault first)

      pub tag_fault : (fault : PlacedFault) → get_or ds index default ≡ declared.Tag name components → IsFirst (again (names_numbered tags.numbered) name) fault → IsFirst (declaration_faults [] [] ds) fault
      tag_fault fault is first = subst (λ (l : List At). IsFirst l fault) (sym (here _ is)) (in_front (again (names_numbered tags.numbered) name) _ fault first)

  -- nothing is left at the end
  pub all_collected : (of : List Declaration → List Collection) (index : ℕ) (them : Collections) → of [] ≡ [] → index ≡ length ds → AreLeft (of (drop index ds)) (of ds) them → AreCollected (of ds) them
  all_collected of index them none end so =
      let nothing : of (drop index ds) ≡ [] = ap of (drop_all index ds (omega (arith, end))) ∙ none in record {
        declared = sym (ap (λ (l : List Collection). them.declared.items ++ l) nothing ∙ append-nil them.declared.items) ∙ so.declared;
        numbered = sym (ap (λ (l : List Collection). collections_of them ++ l) nothing ∙ append-nil (collections_of them)) ∙ so.numbered;
      }

module _ (tree : Tree) where
  abbrev pub item_names : List Text
  item_names = names_in (items_of tree.declarations.items)

  abbrev pub tag_names : List Text
  tag_names = names_in (tags_of tree.declarations.items)

  abbrev pub its_steps : List Text
  its_steps = step_names tree.steps.items

  module _ (items tags : Collections) (numbered : List (Text × ℕ)) (numbers : Numbers) (many : ℕ) (none : declaration_faults [] [] tree.declarations.items ≡ [])
      (i : AreCollected (items_of tree.declarations.items) items) (t : AreCollected (tags_of tree.declarations.items) tags) (places : ArePlaces numbered its_steps)
      (same_items : numbers.items.now ≡ items.numbered) (same_tags : numbers.tags.now ≡ tags.numbered) (same_steps : numbers.steps.now ≡ numbered) (count : many ≡ length tree.steps.items) where
    numbers_are : AreNumbers item_names tag_names its_steps numbers
    numbers_are = record {
      items_are = ap names_numbered same_items ∙ their_names _ items i;
      tags_are = ap names_numbered same_tags ∙ their_names _ tags t;
      steps_are = λ text. ap (λ (l : List (Text × ℕ)). found l text) same_steps ∙ places text;
    }

    its_length : length its_steps ≡ many
    its_length = length-map tree.steps.items (λ (step : NamedStep). text_of step.name) ∙ sym count

    -- the first fault of the relations
    pub relation_first : (fault : PlacedFault) → ((a b c : List Text) → AreNumbers a b c numbers → length c ≡ many → IsFirst (relation_faults a b c [] tree.relations.items) fault)
        → IsFirst (tree_faults tree) fault
    relation_first fault first =
        in_front (declaration_faults [] [] tree.declarations.items ++ relation_faults item_names tag_names its_steps [] tree.relations.items) _ fault
        (behind_none (declaration_faults [] [] tree.declarations.items) _ fault none (first item_names tag_names its_steps numbers_are its_length))

    module _ (them : Relations) (done : (a b c : List Text) → AreNumbers a b c numbers → length c ≡ many → (relation_faults a b c [] tree.relations.items ≡ []) × AreRelations a b c tree.relations.items them) where
      pub related : AreRelations item_names tag_names its_steps tree.relations.items them
      related = (done item_names tag_names its_steps numbers_are its_length).1

      so_far : declaration_faults [] [] tree.declarations.items ++ relation_faults item_names tag_names its_steps [] tree.relations.items ≡ []
      so_far = no_both _ _ none (done item_names tag_names its_steps numbers_are its_length).0

      pub prescribers_long : length them.prescribers.items ≡ length tree.steps.items
      prescribers_long = related.prescribers.long ∙ its_length ∙ count

      -- the first fault of the steps
      pub step_first : (fault : PlacedFault)
          → ((a : List Text) (all : List Relation) → AreRelations a tag_names its_steps all them → ArePlaces numbered its_steps → IsFirst (step_faults (tags_of tree.declarations.items) all [] tree.steps.items) fault)
          → IsFirst (tree_faults tree) fault
      step_first fault first =
          behind_none (declaration_faults [] [] tree.declarations.items ++ relation_faults item_names tag_names its_steps [] tree.relations.items) _ fault so_far (first item_names tree.relations.items related places)

      pub no_fault : ((a : List Text) (all : List Relation) → AreRelations a tag_names its_steps all them → ArePlaces numbered its_steps → step_faults (tags_of tree.declarations.items) all [] tree.steps.items ≡ [])
          → tree_faults tree ≡ []
      no_fault no_step = no_both _ _ so_far (no_step item_names tree.relations.items related places)
