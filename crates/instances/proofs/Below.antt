-- Lists in the order of their keys: each key is below those after it.
use Rattle.std.proofs.Common.{◌≡◌, ◌∙◌, ap, refl, T, Bool, true, false, cond, ◌&&◌, List, [], ◌∷◌, Some, None}
use Rattle.std.specs.declared.cmp.Ordering.{Ordering}
use Rattle.std.specs.declared.cmp.Ordering.TheVariants.{Less, Equal, Greater}
use Rattle.std.specs.Ordering.{is_lt, is_eq}
use Rattle.std.specs.Cmp.{IsTotalOrder}
use Rattle.std.specs.FinMap.{find}
use Rattle.std.specs.FinMap.Entries.{below_all}

pub first : (a b : Bool) → T (a && b) → T a
first true b both = tt
first false b both = both

pub second : (a b : Bool) → T (a && b) → T b
second true b both = both
second false b both = absurd both

pub both : (a b : Bool) → T a → T b → T (a && b)
both true b one two = two
both false b one two = one

pub less : (r : Ordering) → T (is_lt r) → r ≡ Less
less Less is = refl
less Equal is = absurd is
less Greater is = absurd is

-- a key below all others is not found
pub none_below : {K V : Type 0} (R : K → K → Ordering) (k : K) (es : List (K × V)) → T (below_all R k es) → find R k es ≡ None
none_below R k [] below = refl
none_below R k (e ∷ es) below =
    ap (λ r. cond (is_eq r) (Some e.1) (find R k es)) (less (R k e.0) (first (is_lt (R k e.0)) (below_all R k es) below))
    ∙ none_below R k es (second (is_lt (R k e.0)) (below_all R k es) below)

-- and one that comes before such a key is not found either
pub none_before : {K V : Type 0} {R : K → K → Ordering} → IsTotalOrder R → (k x : K) (es : List (K × V)) → R k x ≡ Less → T (below_all R x es) → find R k es ≡ None
none_before total k x [] lower below = refl
none_before {K} {V} {R} total k x (e ∷ es) lower below =
    ap (λ r. cond (is_eq r) (Some e.1) (find R k es)) (total.trans k x e.0 lower (less _ (first _ _ below)))
    ∙ none_before total k x es lower (second (is_lt (R x e.0)) _ below)
