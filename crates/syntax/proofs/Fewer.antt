-- What is read leaves fewer tokens.
use Rattle.std.proofs.Common.{◌≢◌, ◌<◌, ◌≤◌, ℕ, List, [], ◌∷◌, length, drop, refl, sym, subst, arith}
use Rattle.steptree.specs.SeenBlocks.{NamedStatement}
use Rattle.steptree.specs.declared.step.Step.{Step}
use Rattle.syntax.specs.declared.declarations.Front.{Front}
use Rattle.syntax.specs.declared.declarations.Front.TheVariants as begins
use Rattle.syntax.specs.declared.tree.Declaration.{Declaration as Declared}
use Rattle.syntax.specs.declared.tree.Relation.{Relation as Related}
use Rattle.syntax.specs.Tokens.{Spot}
use Rattle.syntax.specs.Grammar.{Position, Statement, own, assigned, if_alone, if_else, for, Declaration, item_declared, tag_declared}
use Rattle.syntax.specs.Grammar.{Relation, prescribes, reads, puts_item, puts_tag, environment_puts_item, environment_puts_tag, environment_gets}
use Rattle.syntax.specs.GraphTexts.{declaration_pieces, relation_pieces, step_pieces}
use Rattle.syntax.specs.Spelled.{Piece, statement_pieces}
use Rattle.syntax.specs.Expected.{Part, reading, writing, Expected}
use Rattle.syntax.specs.Front.{behind_front}
use Rattle.syntax.specs.Parsed.{Reads, Spells}
use Rattle.syntax.specs.Statements.{Own, own_pieces, IsStatementRead}
use Rattle.syntax.specs.Relations.{IsRelationRest}
use Rattle.syntax.specs.Declarations.{IsDeclarationRest, IsFront}
use Rattle.syntax.specs.Steps.{IsStepRead}

no_more : (pieces : List Piece) (before after : List Spot) → Spells pieces before after → length after ≤ length before
no_more [] before after same = grind arith
no_more (piece ∷ pieces) [] after none = absurd none
no_more (piece ∷ pieces) (spot ∷ spots) after both = let more = no_more pieces spots after both.1 in omega (arith, more)

fewer : (pieces : List Piece) (before after : List Spot) → pieces ≢ [] → Spells pieces before after → length after < length before
fewer [] before after some spells = absurd (some refl)
fewer (piece ∷ pieces) [] after some none = absurd none
fewer (piece ∷ pieces) (spot ∷ spots) after some both = let more = no_more pieces spots after both.1 in omega (arith, more)

pub read_fewer : {expected more : List Expected} {pieces : List Piece} {before after : List Spot} → Reads expected more pieces before after → pieces ≢ [] → length after < length before
read_fewer {expected} {more} {pieces} {before} {after} read some = fewer pieces before after some read.spells

pub behind_no_more : (before : List Spot) → length (behind_front before) ≤ length before
behind_no_more [] = grind arith
behind_no_more (spot ∷ spots) = grind arith

-- ---- each of these has a token

some_statement : (part : Part) (statement : Statement (Own part)) → statement_pieces (own_pieces part) statement ≢ []
some_statement reading (own it) = λ e. cc
some_statement writing (own it) = λ e. cc
some_statement part (assigned it expr) = λ e. cc
some_statement part (if_alone condition brace first) = λ e. cc
some_statement part (if_else condition brace first other second) = λ e. cc
some_statement part (for it from to brace block) = λ e. cc

some_declaration : (declaration : Declaration) → declaration_pieces declaration ≢ []
some_declaration (item_declared it components) = λ e. cc
some_declaration (tag_declared it components) = λ e. cc

some_relation : (relation : Relation) → relation_pieces relation ≢ []
some_relation (prescribes tag step) = λ e. cc
some_relation (reads position item step) = λ e. cc
some_relation (puts_item position step item) = λ e. cc
some_relation (puts_tag position step tag) = λ e. cc
some_relation (environment_puts_item position item) = λ e. cc
some_relation (environment_puts_tag position tag) = λ e. cc
some_relation (environment_gets position item) = λ e. cc

-- ---- what is read

pub statement_fewer : {part : Part} {around : ℕ} {expected more : List Expected} {tree : NamedStatement} {before after : List Spot} → IsStatementRead part around expected more tree before after
    → length after < length before
statement_fewer {part} {around} {expected} {more} {tree} {before} {after} read =
    fewer (statement_pieces (own_pieces part) read.statement) before after (some_statement part read.statement) read.reads.spells

pub relation_fewer : {expected more : List Expected} {limits : List Position} {tree : Related} {before after : List Spot} → IsRelationRest expected more [] limits tree before after → length after < length before
relation_fewer {expected} {more} {limits} {tree} {before} {after} read =
    fewer (relation_pieces read.relation) before after (some_relation read.relation) (subst (λ pieces. Spells pieces before after) (sym read.spelled) read.reads.spells)

declaration_fewer : {expected : List Expected} {items tags more_items more_tags : ℕ} {tree : Declared} {before after : List Spot} → IsDeclarationRest expected [] items tags more_items more_tags tree before after
    → length after < length before
declaration_fewer {expected} {items} {tags} {more_items} {more_tags} {tree} {before} {after} read =
    fewer (declaration_pieces read.declaration) before after (some_declaration read.declaration) (subst (λ pieces. Spells pieces before after) (sym read.spelled) read.reads.spells)

pub front_fewer : (expected : List Expected) (items tags : ℕ) (front : Front) (before after : List Spot) → IsFront expected [] [] items tags front before after → length after < length before
front_fewer expected items tags (begins.Item name count) before after read = declaration_fewer read
front_fewer expected items tags (begins.Tag name count) before after read = declaration_fewer read
front_fewer expected items tags (begins.Relation tree) before after read = relation_fewer read

pub step_fewer : {count : ℕ} {step : Step} {before after : List Spot} → IsStepRead count step before after → length after < length before
step_fewer {count} {step} {before} {after} read = fewer (drop 1 (step_pieces read.text)) before after (λ e. cc) read.reads.spells
