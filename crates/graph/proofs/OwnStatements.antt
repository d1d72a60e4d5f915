-- The statements that only one part of a step has, reads of items and puts: two of one derivation are alike, what is read can be
-- written, and what is printed reads back.
use Rattle.std.proofs.Common.{◌≡◌, List, [], ◌∙◌, ℕ, refl, ap, ◌++◌, map, Bool, length, get_or, ◌+◌, codes, ◌-◌}
use Rattle.steptree.specs.Simple.{NumberedSimple, NamedSimple, Block, NamedBlock, AllUses}
use Rattle.syntax.specs.Grammar.{sum_alone, prod_alone, unary_alone, variable, own, Statements, Get, Put, put_item, put_tag}
use Rattle.syntax.specs.Tree.{AreStatements}
use Rattle.syntax.specs.OwnStatements.{IsGet, IsPut, get_pieces, put_pieces, get_limits, put_limits}
use Rattle.steptree.specs.Names.{Text, place_of, names_in}
use Rattle.steptree.specs.Resolved.{IsSimple, IsBlock}
use Rattle.steptree.specs.Nameable.{Nameable}
use Rattle.graph.specs.Graph.{Step, Graph, sheet_of}
use Rattle.graph.proofs.Lists.{each_at, no_both}
use Rattle.steptree.specs.Sheet.{IsAllowed, AllowsAll, KeepsTo}
use Rattle.graph.specs.Textual.{IsGraphName, AreNames, IsReadUse, IsWriteUse, IsReadBlock, IsWriteBlock}
use Rattle.graph.proofs.PrintedTokens.{found_at, behind, and, printed_name, no_name_limit, inside, lined, word_first, semicolon, equals, inside_brackets, inside_angles}
use Rattle.syntax.specs.declared.token.Word.TheVariants as kept
use Rattle.syntax.specs.declared.token.Symbol.TheVariants as sign
use Rattle.syntax.specs.Spelled.{statements_pieces, expr_pieces, a_sign, plain, sums_pieces}
use Rattle.syntax.specs.Limits.{statements_limits}
use Rattle.graph.specs.Canonical.{expression_text, item_text}
use Rattle.graph.proofs.PrintedExpressions.{expression_printed, no_limits, key_printed, key_fronts}
use Rattle.graph.proofs.PrintedValues.{name_of}
use Rattle.steptree.specs.declared.simple.Simple.TheVariants as simple
use Rattle.graph.proofs.Faultless.{first_empty, second_empty}
use Rattle.graph.proofs.AlikeTrees.{AlikeSimple, same_name, expr_alike, key_alike}
use Rattle.graph.proofs.ReadBlocks.{AreSound, front, rear, slot_within, expression_read, key_read, statements_read}
use Rattle.graph.proofs.PrintedBlocks.{Known, SimplePrinted, BlockPrinted, assign_printed, block_printed}

-- ---- two of one derivation

pub get_alike : (get : Get) (one two : NamedSimple) → IsGet get one → IsGet get two → AlikeSimple one two
get_alike get (simple.Get n collection key) (simple.Get m another other) a b = (refl, (same_name get.variable n m a.0 b.0, (key_alike get.item collection key.items another other.items a.1 b.1, tt)))
get_alike _ _ _ a b = absurd (assumption)

pub put_alike : (put : Put) (one two : NamedSimple) → IsPut put one → IsPut put two → AlikeSimple one two
put_alike (put_item item expr) (simple.PutItem collection key e) (simple.PutItem another other f) a b = (refl, (key_alike item collection key.items another other.items a.0 b.0, (expr_alike expr e f a.1 b.1, tt)))
put_alike (put_tag tag) (simple.PutTag collection key) (simple.PutTag another other) a b = (refl, (key_alike tag collection key.items another other.items a b, tt))
put_alike _ _ _ a b = absurd (assumption)

-- ---- what is read

module _ (names : List Text) (sheet : Nameable) where
  get_read : (get : Get) (statement : NamedSimple) (b : NumberedSimple) → AreSound (get_pieces get) → get_limits get ≡ [] → IsGet get statement → IsSimple names sheet statement b → AllUses (IsReadUse (length names)) b
  get_read get (simple.Get called named key) (simple.Get slot collection es) sound none is means =
      let parts : AreSound (sums_pieces get.item.components ++ a_sign sign.CloseBracket ++ a_sign sign.Semicolon) = sound.1.1.1.1.1 in
      (slot_within names called slot means.0, (key_read names sheet sheet.items get.item named key.items collection.0 es (search (front, parts)) (search second_empty) is.1 means.1, tt))
  get_read _ _ _ _ _ is means = absurd (assumption)

  put_read : (put : Put) (statement : NamedSimple) (b : NumberedSimple) → AreSound (put_pieces put) → put_limits put ≡ [] → IsPut put statement → IsSimple names sheet statement b → AllUses (IsWriteUse (length names)) b
  put_read (put_item item value) (simple.PutItem named key it) (simple.PutItem collection es e) sound none is means =
      let parts : AreSound (sums_pieces item.components ++ a_sign sign.CloseBracket ++ a_sign sign.Assign ++ expr_pieces value ++ a_sign sign.Semicolon) = sound.1.1.1 in (
        key_read names sheet sheet.items item named key.items collection.0 es (search (front, parts)) (search first_empty) is.0 means.0,
        (expression_read names value it e (search (front, rear, parts)) (search second_empty) is.1 means.1, tt),
      )
  put_read (put_tag tag) (simple.PutTag named key) (simple.PutTag collection es) sound none is means =
      let parts : AreSound (sums_pieces tag.components ++ a_sign sign.Greater ++ a_sign sign.Semicolon) = sound.1.1.1 in
      (key_read names sheet sheet.tags tag named key.items collection.0 es (search (front, parts)) none is means, tt)
  put_read _ _ _ _ _ is means = absurd (assumption)

  pub read_block_read : (them : Statements Get) (block : NamedBlock) (b : Block) → AreSound (statements_pieces get_pieces them) → statements_limits get_limits 0 them ≡ []
      → AreStatements IsGet them block → IsBlock names sheet block b → IsReadBlock (length names) 0 b
  read_block_read = statements_read names sheet (IsReadUse (length names)) (λ slot within. within) (λ value is. is) IsGet get_pieces get_limits get_read 0

  pub write_block_read : (them : Statements Put) (block : NamedBlock) (b : Block) → AreSound (statements_pieces put_pieces them) → statements_limits put_limits 0 them ≡ []
      → AreStatements IsPut them block → IsBlock names sheet block b → IsWriteBlock (length names) 0 b
  write_block_read = statements_read names sheet (IsWriteUse (length names)) (λ slot within. within) (λ value is. is) IsPut put_pieces put_limits put_read 0

-- ---- what is printed

module _ (g : Graph) (step : Step) (names : List Text) (are : AreNames names)
    (items_known : (allowed : List Bool) (index components : ℕ) → IsAllowed g.items allowed index components → Known g.items index components)
    (tags_known : (allowed : List Bool) (index components : ℕ) → IsAllowed g.tags allowed index components → Known g.tags index components) where
  abbrev sheet : Nameable
  sheet = sheet_of g step

  -- a statement of a read block
  get_printed : (statement : NumberedSimple) (level around place : ℕ) → AllUses (IsReadUse (length names)) statement → AllowsAll sheet statement
      → SimplePrinted get_pieces get_limits IsGet g names sheet level around place statement
  get_printed (simple.Assign slot value) level around place is keeps = assign_printed get_pieces get_limits IsGet g names sheet are level around place slot value is.0 is.1.0
  get_printed (simple.Get slot collection components) level around place is keeps =
      let start : ℕ = inside level place in
      let variable : Text = get_or names slot [] in
      let good : IsGraphName variable = each_at IsGraphName names slot [] is.0 are.each in
      let has = items_known sheet.reads collection.0 (length components) keeps.1.0 in
      let it = key_printed g names are (get_or (names_in g.items) collection.0 []) has.name components (start + length (codes "get " ++ variable ++ codes " = ") + 1) has.few is.1.0 in
      let head = behind (and (word_first start kept.Get) (printed_name _ variable good)) (equals _) (λ more may. refl) in record {
        one = own (record { variable = (variable, start + 4); item = it.key });
        printed = lined level place (and (and head (inside_brackets (plain _) refl it.printed)) (semicolon _));
        limits = no_both _ _ (no_name_limit variable (start + 4) good) it.limits;
        value = simple.Get (name_of (variable, start + 4)) it.name it.parts;
        is = ((refl, refl), it.is);
        resolves = (found_at names slot are.distinct is.0, (ap (λ (t : Text). place_of (names_in g.items) t) it.is_of ∙ has.found, it.resolve));
      }
  get_printed (simple.PutItem collection components value) level around place is keeps = absurd is.0
  get_printed (simple.PutTag collection components) level around place is keeps = absurd is.0

  -- a statement of a write block
  put_printed : (statement : NumberedSimple) (level around place : ℕ) → AllUses (IsWriteUse (length names)) statement → AllowsAll sheet statement
      → SimplePrinted put_pieces put_limits IsPut g names sheet level around place statement
  put_printed (simple.Assign slot value) level around place is keeps = assign_printed put_pieces put_limits IsPut g names sheet are level around place slot value is.0 is.1.0
  put_printed (simple.Get slot collection components) level around place is keeps = absurd is.1.0
  put_printed (simple.PutItem collection components value) level around place is keeps =
      let start : ℕ = inside level place in
      let has = items_known sheet.item_puts collection.0 (length components) keeps.0 in
      let it = key_printed g names are (get_or (names_in g.items) collection.0 []) has.name components (start + 4 + 1) has.few is.0 in
      let it2 = expression_printed g names are value (start + length (codes "put " ++ item_text g names collection.0 components ++ codes " = ")) is.1.0.0 in
      let head = and (and (word_first start kept.Put) (inside_brackets (plain _) refl it.printed)) (equals _) in record {
        one = own (put_item it.key (sum_alone (prod_alone (unary_alone it2.unary))));
        printed = lined level place (behind (and head it2.printed) (semicolon _) (λ more may. refl));
        limits = no_both _ _ it.limits (no_limits it2 is.1.0.1);
        value = simple.PutItem it.name it.parts it2.value;
        is = (it.is, it2.is);
        resolves = ((ap (λ (t : Text). place_of (names_in g.items) t) it.is_of ∙ has.found, it.resolve), it2.resolves);
      }
  put_printed (simple.PutTag collection components) level around place is keeps =
      let tag : Text = get_or (names_in g.tags) collection.0 [] in
      let has = tags_known sheet.tag_puts collection.0 (length components) keeps.0 in
      let it = key_printed g names are tag has.name components (inside level place + 4 + 1) has.few is.0 in
      let tag_printed = inside_angles (key_fronts tag (map (expression_text g names) components) has.name) it.printed in record {
        one = own (put_tag it.key);
        printed = lined level place (behind (and (word_first _ kept.Put) tag_printed) (semicolon _) (λ more may. refl));
        limits = it.limits;
        value = simple.PutTag it.name it.parts;
        is = it.is;
        resolves = (ap (λ (t : Text). place_of (names_in g.tags) t) it.is_of ∙ has.found, it.resolve);
      }

  pub read_printed : (block : Block) (level around place : ℕ) → IsReadBlock (length names) around block → KeepsTo sheet block → BlockPrinted get_pieces get_limits IsGet g names sheet level around place block
  read_printed = block_printed get_pieces get_limits IsGet g names sheet are (IsReadUse (length names)) get_printed

  pub write_printed : (block : Block) (level around place : ℕ) → IsWriteBlock (length names) around block → KeepsTo sheet block → BlockPrinted put_pieces put_limits IsPut g names sheet level around place block
  write_printed = block_printed put_pieces put_limits IsPut g names sheet are (IsWriteUse (length names)) put_printed
