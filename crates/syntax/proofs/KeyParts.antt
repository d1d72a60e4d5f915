-- Things that are read one after another, with commas between them, and the components of a key.
use Rattle.std.proofs.Common.{◌≡◌, List, [], ◌∷◌, ◌++◌, append_assoc, arith, true, false, refl, sym, subst, ◌∙◌}
use Rattle.std.specs.List.{flat_map}
use Rattle.std.proofs.lemmas.List.{append-nil}
use Rattle.steptree.specs.Tree.{NamedExpression}
use Rattle.syntax.specs.declared.token.Symbol.TheVariants as sign
use Rattle.syntax.specs.Tokens.{Spot}
use Rattle.syntax.specs.Grammar.{Position, Sum, no_sums, sums}
use Rattle.syntax.specs.Spelled.{Piece, a_sign, sum_pieces, sums_pieces}
use Rattle.syntax.specs.Tree.{AreAll, IsSum}
use Rattle.syntax.specs.Expected.{Expected, never, whole, components, more_components}
use Rattle.syntax.specs.Parsed.{Spells, Reads, TakenIf}
use Rattle.syntax.specs.Limits.{sum_limits}
use Rattle.syntax.specs.Whole.{IsExpression}
use Rattle.syntax.specs.Keys.{AreComponents, ComponentsSoFar, sums_of}
use Rattle.syntax.proofs.Moves.{spelled_on}

pub flat_more : {X Y : Type 0} (f : X → List Y) (xs : List X) (y : X) → flat_map f (xs ++ y ∷ []) ≡ flat_map f xs ++ f y
flat_more f [] y = append-nil (f y)
flat_more f (x ∷ xs) y = grind (arith, append_assoc, flat_more f xs y)

pub flat_none : {X Y : Type 0} (f : X → List Y) (xs : List X) (y : X) → flat_map f xs ≡ [] → f y ≡ [] → flat_map f (xs ++ y ∷ []) ≡ []
flat_none f xs y none last = rw (flat_more, none) last

pub all_more : {X Y : Type 0} (Is : X → Y → Type 0) (xs : List X) (ys : List Y) (x : X) (y : Y) → AreAll Is xs ys → Is x y → AreAll Is (xs ++ x ∷ []) (ys ++ y ∷ [])
all_more Is [] ys x y are is = grind arith
all_more Is (first ∷ xs) ys x y are is = grind (arith, all_more Is xs)

-- at least one thing was read, within its limits, and this is known of all
pub record Listed {X : Type 0} (pieces : List X → List Piece) (limits : X → List Position) (Known : List X → Type 0) (from to : Expected) (start now : List Spot) : Type 0 where
  pub first : X
  pub more : List X
  pub reads : Reads (from ∷ []) (to ∷ []) (pieces (first ∷ more)) start now
  pub known : Known (first ∷ more)
  pub within : flat_map limits (first ∷ more) ≡ []

-- one more thing was read
pub one_listed : {X : Type 0} {from to : Expected} {start now : List Spot} (pieces : List X → List Piece) (limits : X → List Position) (Known : List X → Type 0) (read : List X) (one : X)
    → Reads (from ∷ []) (to ∷ []) (pieces (read ++ one ∷ [])) start now → Known (read ++ one ∷ []) → flat_map limits read ≡ [] → limits one ≡ [] → Listed pieces limits Known from to start now
one_listed pieces limits Known [] one reads known none within = record { first = one; more = []; reads = reads; known = known; within = flat_none limits [] one none within }
one_listed pieces limits Known (first ∷ read) one reads known none within =
    record { first = first; more = read ++ one ∷ []; reads = reads; known = known; within = flat_none limits (first ∷ read) one none within }

-- a comma comes next, and one more thing
pub next_spelled : {X : Type 0} {pieces : List X → List Piece} {limits : X → List Position} {Known : List X → Type 0} {from to : Expected} {start now : List Spot}
    → (after : List Spot) (comma : List Piece) (spelled : X → List Piece)
    → ((first : X) (more : List X) (next : X) → pieces (first ∷ (more ++ next ∷ [])) ≡ pieces (first ∷ more) ++ (comma ++ spelled next)) → (it : Listed pieces limits Known from to start now)
    → Spells comma now after → (next : X) (end : List Spot) → Spells (spelled next) after end → Spells (pieces (it.first ∷ (it.more ++ next ∷ []))) start end
next_spelled after comma spelled same it taken next end spells = grind (arith, spelled_on)

-- ---- the components of a key

pub no_components : (before after : List Spot) → TakenIf sign.Colon false before after → AreComponents [] before after
no_components before after taken = record {
  sums = no_sums;
  reads = record { spells = sym taken.0; goes = taken.1 components (whole never ∷ more_components ∷ []) (λ lexeme place. refl) };
  are = refl;
  within = refl;
}

pub first_component : (before after : List Spot) → TakenIf sign.Colon true before after → ComponentsSoFar before after []
first_component before after taken =
    let colon = taken components (whole never ∷ more_components ∷ []) (λ lexeme place. refl) in
    record {
      read = [];
      goes = colon.goes;
      spells = λ next behind spells. spelled_on (a_sign sign.Colon) (sum_pieces next ++ []) before after behind colon.spells (subst (λ pieces. Spells pieces after behind) (sym (append-nil (sum_pieces next))) spells);
      are = tt;
      within = refl;
    }

-- ---- one more component

sums_more : (first : Sum) (more : List Sum) (next : Sum) → sums_pieces (sums_of (first ∷ (more ++ next ∷ []))) ≡ sums_pieces (sums_of (first ∷ more)) ++ (a_sign sign.Comma ++ sum_pieces next)
sums_more first more next = simp (flat_more, append_assoc)

-- an expression without a comparison is a sum
pub record IsComponent (tree : NamedExpression) (before after : List Spot) : Type 0 where
  pub sum : Sum
  pub reads : Reads (whole never ∷ []) [] (sum_pieces sum) before after
  pub is : IsSum sum tree
  pub within : sum_limits sum ≡ []

pub is_component : (tree : NamedExpression) (before after : List Spot) → IsExpression never tree before after → IsComponent tree before after
is_component tree before after read = grind arith

-- at least one component was read, and these are the trees
abbrev pub SumsRead : List NamedExpression → List Spot → List Spot → Type 0
SumsRead trees start now = Listed (λ all. sums_pieces (sums_of all)) sum_limits (λ all. AreAll IsSum all trees) components more_components start now

pub one_component : {start now middle : List Spot} (trees : List NamedExpression) (tree : NamedExpression) → ComponentsSoFar start now trees → IsExpression never tree now middle
    → SumsRead (trees ++ tree ∷ []) start middle
one_component {start} {now} {middle} trees tree so_far read =
    let one = is_component tree now middle read in
    one_listed _ sum_limits _ so_far.read one.sum (record { spells = so_far.spells one.sum middle one.reads.spells; goes = λ rest. so_far.goes rest ∙ one.reads.goes (more_components ∷ rest) })
    (all_more IsSum so_far.read trees one.sum tree so_far.are one.is) so_far.within one.within

pub last_component : {start now after : List Spot} (trees : List NamedExpression) → SumsRead trees start now → TakenIf sign.Comma false now after → AreComponents trees start after
last_component {start} {now} {after} trees it taken = record {
  sums = sums it.first it.more;
  reads = record {
    spells = subst (Spells (sums_pieces (sums it.first it.more)) start) (sym taken.0) it.reads.spells;
    goes = λ rest. it.reads.goes rest ∙ taken.1 more_components (whole never ∷ more_components ∷ []) (λ lexeme place. refl) rest;
  };
  are = it.known;
  within = it.within;
}

pub next_component : {start now after : List Spot} (trees : List NamedExpression) → SumsRead trees start now → TakenIf sign.Comma true now after → ComponentsSoFar start after trees
next_component trees it taken =
    let comma = taken more_components (whole never ∷ more_components ∷ []) (λ lexeme place. refl) in
    record {
      read = it.first ∷ it.more;
      goes = λ rest. it.reads.goes rest ∙ comma.goes rest;
      spells = next_spelled _ (a_sign sign.Comma) sum_pieces sums_more it comma.spells;
      are = it.known;
      within = it.within;
    }
