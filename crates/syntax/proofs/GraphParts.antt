-- A whole text from its parts: declarations, the relations after them, and steps.
use Rattle.std.proofs.Common.{◌≡◌, ◌≢◌, ℕ, None, List, [], ◌∷◌, ◌++◌, refl, sym, ap, subst, ◌∙◌, append_assoc, arith, ◌<◌, suc, zero, length, map, drop, get_or}
use Rattle.std.specs.List.{flat_map}
use Rattle.std.proofs.lemmas.List.{append-nil}
use Rattle.steptree.specs.declared.step.Name.{Name}
use Rattle.steptree.specs.declared.sheet.TheConstants.{MOST_COLLECTIONS}
use Rattle.steptree.specs.declared.step.Step.{Step}
use Rattle.syntax.specs.declared.declarations.Front.{Front}
use Rattle.syntax.specs.declared.stop.Stop.{Stop}
use Rattle.syntax.specs.declared.tree.Relation.{Relation as Related}
use Rattle.syntax.specs.declared.tree.Declaration.{Declaration as Declared}
use Rattle.syntax.specs.declared.tree.Tree.{Tree}
use Rattle.syntax.specs.declared.token.Symbol.{Symbol}
use Rattle.syntax.specs.declared.token.Symbol.TheVariants as sign
use Rattle.syntax.specs.declared.tree.Declaration.TheVariants as declares
use Rattle.syntax.specs.Tokens.{symbol, Spot}
use Rattle.syntax.specs.Grammar.{Position}
use Rattle.syntax.specs.Spelled.{Piece, named, a_sign, ArePieces}
use Rattle.syntax.specs.GraphTexts.{declaration_pieces, relation_pieces, step_pieces, declarations_limits, relation_limits, steps_limits, IsDeclaration, IsRelation}
use Rattle.syntax.specs.Expected.{Kind, item, tag, Expected, exactly, a_name, front, front_named, front_closed, relations, closing, run, declarations, syntax, steps, graph_expected}
use Rattle.syntax.specs.Front.{front_of}
use Rattle.syntax.specs.Parsed.{Reads, Stops, named_of, Spells}
use Rattle.syntax.specs.Relations.{IsRelationRest}
use Rattle.syntax.specs.Declarations.{relation_rest, IsBehindName, IsFront, IsDeclarationRest, AreDeclared, ArePreamble}
use Rattle.syntax.specs.Limits.{one_more}
use Rattle.syntax.specs.Steps.{AreStepsRead}
use Rattle.syntax.specs.Graphs.{IsGraphRead}
use Rattle.syntax.specs.Reading.{position_behind}
use Rattle.syntax.proofs.Moves.{spelled_on}
use Rattle.syntax.proofs.KeyParts.{flat_more, flat_none, all_more}

pub bracket_due : (kind : Kind) (items tags : ℕ) (at : Position) (behind : List Expected) (spots : List Spot) → (front_of spots).0 ≢ symbol sign.Colon
    → run (front_named kind items tags at ∷ behind) spots ≡ run (exactly (closing kind) ∷ front_closed kind items tags at ∷ behind) spots
bracket_due kind items tags at behind spots no_colon = grind arith

-- ---- which kind of collections a bracket closes

pub closes_item : (kind : Kind) (close : Symbol) → close ≡ closing kind → close ≡ sign.CloseBracket → kind ≡ item
closes_item item close closes is = refl
closes_item tag close closes is = absurd (cc)

pub closes_tag : (kind : Kind) (close : Symbol) → close ≡ closing kind → close ≢ sign.CloseBracket → kind ≡ tag
closes_tag item close closes is = absurd (is closes)
closes_tag tag close closes is = refl

-- ---- the name

-- a collection's name is a name, and then what follows it
pub name_due : (kind : Kind) (items tags : ℕ) (behind : List Expected) (spots : List Spot)
    → run (front kind items tags ∷ behind) spots ≡ run (a_name ∷ front_named kind items tags (front_of spots).1 ∷ behind) spots
name_due kind items tags behind spots = grind arith

pub front_name : (kind : Kind) (items tags : ℕ) (name : Name) (before after : List Spot) → Reads (a_name ∷ []) [] (named (named_of name) ∷ []) before after
    → Reads (front kind items tags ∷ []) (front_named kind items tags name.place ∷ []) (named (named_of name) ∷ []) before after
front_name kind items tags name before after read = grind (arith, name_due)

pub front_stops : (kind : Kind) (items tags : ℕ) (before after : List Spot) (cause : Stop) → Stops (a_name ∷ []) before after cause → Stops (front kind items tags ∷ []) before after cause
front_stops kind items tags before after cause stops = grind (arith, name_due)

-- ---- parts one after another

-- what is left, where `others` may come after it
pub behind_it : {expected : List Expected} {pieces : List Piece} {before after : List Spot} (others : List Expected) → Reads expected [] pieces before after → Reads (expected ++ others) others pieces before after
behind_it {expected} {pieces} {before} {after} others read = record { spells = read.spells; goes = λ behind. ap (λ stack. run stack before) (append_assoc expected others behind) ∙ read.goes (others ++ behind) }

-- a relation, whose pieces begin with `begun`, after the name of its collection and the closing bracket
pub front_related : (kind : Kind) (items tags : ℕ) (name : Name) (begun : List Piece) (limits : List Position) (tree : Related) (before middle late after : List Spot)
    → Reads (a_name ∷ []) [] (named (named_of name) ∷ []) before middle → IsBehindName kind items tags name.place None middle late
    → IsRelationRest (relation_rest kind) [] (begun ++ named (named_of name) ∷ a_sign (closing kind)) limits tree late after → limits ≡ []
    → IsRelationRest (front kind items tags ∷ []) (relations ∷ []) begun [] tree before after
front_related kind items tags name begun limits tree before middle late after begins closed rest none =
    let first = front_name kind items tags name before middle begins in
    let last = behind_it (relations ∷ []) rest.reads in
    record {
      relation = rest.relation;
      rest = _;
      spelled = rest.spelled ∙ append_assoc begun (named (named_of name) ∷ a_sign (closing kind)) rest.rest;
      reads = record {
        spells = spelled_on (named (named_of name) ∷ []) (a_sign (closing kind) ++ rest.rest) before middle after first.spells (spelled_on (a_sign (closing kind)) rest.rest middle late after closed.spells last.spells);
        goes = λ behind. first.goes behind ∙ closed.goes behind ∙ last.goes behind;
      };
      is = rest.is;
      within = rest.within ∙ none;
    }

-- a declaration or a relation after its first token, which is a piece of either
pub front_begun : (it : Front) {first : Expected} {expected : List Expected} {one two : Piece} (items tags : ℕ) {before middle : List Spot} (after : List Spot)
    → Reads (first ∷ []) expected (one ∷ []) before middle → Reads (first ∷ []) expected (two ∷ []) before middle → IsFront expected (one ∷ []) (two ∷ []) items tags it middle after
    → IsFront (first ∷ []) [] [] items tags it before after
front_begun it items tags after plain_one placed read = grind arith

-- ---- declarations one after another, and relations after them

-- one more after those
spelled_more : {X : Type 0} (pieces : X → List Piece) (read : List X) (one : X) (rest : List Piece) (start now after : List Spot) → pieces one ≡ rest
    → Spells (flat_map pieces read) start now → Spells rest now after → Spells (flat_map pieces (read ++ one ∷ [])) start after
spelled_more pieces read one rest start now after same first second = grind (arith, flat_more, spelled_on)

pub one_declared : {items tags : ℕ} {trees : List Declared} {start now : List Spot} (more_items more_tags : ℕ) (tree : Declared) (after : List Spot) → AreDeclared items tags trees start now
    → IsDeclarationRest (declarations items tags ∷ []) [] items tags more_items more_tags tree now after → AreDeclared more_items more_tags (trees ++ tree ∷ []) start after
one_declared {items} {tags} {trees} {start} {now} more_items more_tags tree after so_far one = record {
  read = so_far.read ++ one.declaration ∷ [];
  reads = record {
    spells = spelled_more declaration_pieces so_far.read one.declaration one.rest start now after one.spelled so_far.reads.spells one.reads.spells;
    goes = λ behind. so_far.reads.goes behind ∙ one.reads.goes behind;
  };
  are = all_more IsDeclaration so_far.read trees one.declaration tree so_far.are one.is;
  within = λ more. ap (declarations_limits 0 0) (append_assoc so_far.read (one.declaration ∷ []) more) ∙ so_far.within (one.declaration ∷ more) ∙ one.within more;
}

pub declared_alone : {items tags : ℕ} {trees : List Declared} {start now : List Spot} → AreDeclared items tags trees start now → ArePreamble (declarations items tags ∷ []) trees [] start now
declared_alone {items} {tags} {trees} {start} {now} so_far = record {
  declared = so_far.read;
  related = [];
  reads = subst (λ pieces. Reads (declarations 0 0 ∷ []) (declarations items tags ∷ []) pieces start now) (sym (append-nil (flat_map declaration_pieces so_far.read))) so_far.reads;
  declarations = so_far.are;
  relations = tt;
  declarations_within = ap (declarations_limits 0 0) (sym (append-nil so_far.read)) ∙ so_far.within [];
  relations_within = refl;
}

-- where `others` may come in place of `more`
pub preamble_on : {more others : List Expected} {declared : List Declared} {related : List Related} {start now : List Spot} (after : List Spot) → ArePreamble more declared related start now
    → Reads more others [] now after → ArePreamble others declared related start after
preamble_on after so_far next = grind arith

pub one_related : {more others : List Expected} {declared : List Declared} {related : List Related} {start now : List Spot} (tree : Related) (after : List Spot) → ArePreamble more declared related start now
    → IsRelationRest more others [] [] tree now after → ArePreamble others declared (related ++ tree ∷ []) start after
one_related {more} {others} {declared} {related} {start} {now} tree after so_far one =
    let pieces = flat_map declaration_pieces so_far.declared in record {
      declared = so_far.declared;
      related = so_far.related ++ one.relation ∷ [];
      reads = record {
        spells = subst (λ all. Spells all start after) (append_assoc pieces (flat_map relation_pieces so_far.related) (relation_pieces one.relation) ∙ ap (λ rest. pieces ++ rest) (sym (flat_more relation_pieces so_far.related one.relation)))
            (spelled_on (pieces ++ flat_map relation_pieces so_far.related) (relation_pieces one.relation) start now after so_far.reads.spells
            (subst (λ all. Spells all now after) (sym one.spelled) one.reads.spells));
        goes = λ behind. so_far.reads.goes behind ∙ one.reads.goes behind;
      };
      declarations = so_far.declarations;
      relations = all_more IsRelation so_far.related related one.relation tree so_far.relations one.is;
      declarations_within = so_far.declarations_within;
      relations_within = flat_none relation_limits so_far.related one.relation so_far.relations_within one.within;
    }

-- ---- how many are declared

none_over : (most before : ℕ) (place : Position) (others more : List Position) → (one_more most before place ++ others) ++ more ≡ [] → before < most
none_over most before place others more none = grind arith

pub item_room : {expected : List Expected} {pieces : List Piece} {items tags : ℕ} {before after : List Spot} (name : Name) (count : ℕ)
    → IsDeclarationRest expected pieces items tags (suc items) tags (declares.Item name count) before after → items < MOST_COLLECTIONS
item_room name count one = grind (arith, one.is, one.within [], none_over)

pub tag_room : {expected : List Expected} {pieces : List Piece} {items tags : ℕ} {before after : List Spot} (name : Name) (count : ℕ)
    → IsDeclarationRest expected pieces items tags items (suc tags) (declares.Tag name count) before after → tags < MOST_COLLECTIONS
tag_room name count one = grind (arith, one.is, one.within [], none_over)

-- ---- the whole text

all_pieces : (pieces : List Piece) (spots : List Spot) → Spells pieces spots [] → ArePieces pieces spots
all_pieces [] spots spells = grind arith
all_pieces (piece ∷ pieces) spots spells = grind (arith, all_pieces pieces)

none_left : (spots : List Spot) → length spots ≡ 0 → spots ≡ []
none_left [] e = refl
none_left (spot ∷ spots) e = absurd (omega (arith, e))

some_left : (spots : List Spot) → length spots ≢ 0 → run [] spots ≡ syntax spots
some_left [] e = absurd (e refl)
some_left (spot ∷ spots) e = refl

module _ {before now after : List Spot} (tree : Tree) (preamble : ArePreamble (steps 0 ∷ []) tree.declarations.items tree.relations.items before now) (read : AreStepsRead tree.steps.items now after) where
  -- no token is left
  pub graph_read : length after ≡ 0 → IsGraphRead tree before
  graph_read e =
      let first = flat_map declaration_pieces preamble.declared ++ flat_map relation_pieces preamble.related in
      let last = flat_map step_pieces read.texts in
      record {
        graph = record { declarations = preamble.declared; relations = preamble.related; steps = read.texts };
        derives = all_pieces (first ++ last) before (subst (Spells (first ++ last) before) (none_left after e) (spelled_on first last before now after preamble.reads.spells read.reads.spells));
        within = ap (λ limits. limits ++ flat_map relation_limits preamble.related ++ steps_limits 0 read.texts) preamble.declarations_within
            ∙ ap (λ limits. limits ++ steps_limits 0 read.texts) preamble.relations_within ∙ read.within;
        is = record { declarations = preamble.declarations; relations = preamble.relations; steps = read.are };
      }

-- some tokens are left
pub graph_stops : {declared : List Declared} {related : List Related} {them : List Step} {before now after : List Spot} → ArePreamble (steps 0 ∷ []) declared related before now → AreStepsRead them now after
    → length after ≢ 0 → run graph_expected before ≡ syntax after
graph_stops {declared} {related} {them} {before} {now} {after} preamble read e = preamble.reads.goes [] ∙ read.reads.goes [] ∙ some_left after e

-- ---- the place of a fault

dropped : (places : List ℕ) (count end : ℕ) → get_or (drop count places) 0 end ≡ get_or places count end
dropped [] zero end = refl
dropped [] (suc count) end = refl
dropped (place ∷ places) zero end = refl
dropped (place ∷ places) (suc count) end = dropped places count end

places_left : (spots : List Spot) (count : ℕ) → map (λ spot. spot.1) (drop count spots) ≡ drop count (map (λ (spot : Spot). spot.1) spots)
places_left [] zero = refl
places_left [] (suc count) = refl
places_left (spot ∷ spots) zero = refl
places_left (spot ∷ spots) (suc count) = places_left spots count

pub place_there : (text : List ℕ) (spots rest : List Spot) (count end : ℕ) → end ≡ length text → rest ≡ drop count spots → get_or (map (λ spot. spot.1) rest) 0 end ≡ position_behind text spots count
place_there text spots rest count end is there = grind (arith, dropped, places_left)
