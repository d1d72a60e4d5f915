-- What the machine says of tokens that the grammar derives: it goes on, or a limit is passed at one of their places.
use Rattle.std.proofs.Common.{◌≡◌, ◌⊎◌, inl, inr, List, [], ◌∷◌, ◌++◌, refl, sym, ap, subst, ◌∙◌, arith}
use Rattle.std.proofs.lemmas.List.{append_assoc}
use Rattle.syntax.specs.Tokens.{Spot}
use Rattle.syntax.specs.Grammar.{Position}
use Rattle.syntax.specs.Expected.{Expected, taken, within, met, followed, Verdict, too_large}
use Rattle.syntax.proofs.Tellings.{Telling, next_so, run_so}

-- one of these places
abbrev pub In : Position → List Position → Type 0
In place [] = ⊥
In place (first ∷ more) = (place ≡ first) ⊎ In place more

pub in_front : (place : Position) (a b : List Position) → In place a → In place (a ++ b)
in_front place [] b there = absurd there
in_front place (first ∷ a) b there = grind (arith, in_front place a b)

pub in_back : (place : Position) (a b : List Position) → In place b → In place (a ++ b)
in_back place [] b there = there
in_back place (first ∷ a) b there = inr (in_back place a b there)

-- the verdict is `other` if no limit is passed; otherwise it reports one of the limits
pub data Judged (limits : List Position) (verdict other : Verdict) : Type 0 where
  goes : limits ≡ [] → verdict ≡ other → Judged limits verdict other
  breaks : (place : Position) → In place limits → verdict ≡ too_large place → Judged limits verdict other

pub judged_same : {verdict other : Verdict} → verdict ≡ other → Judged [] verdict other
judged_same same = goes refl same

pub judged_on : {a b : List Position} {first second third : Verdict} → Judged a first second → Judged b second third → Judged (a ++ b) first third
judged_on {a} {b} {first} {second} {third} (goes none same) (goes nothing also) = goes (ap (λ (list : List Position). list ++ b) none ∙ nothing) (same ∙ also)
judged_on {a} {b} {first} {second} {third} (goes none same) (breaks place there is) = breaks place (in_back place a b there) (same ∙ is)
judged_on {a} {b} {first} {second} {third} (breaks place there is) two = breaks place (in_front place a b there) is

pub judged_behind : {limits : List Position} {first second third : Verdict} → first ≡ second → Judged limits second third → Judged limits first third
judged_behind {limits} {first} {second} {third} same judged = subst (λ (verdict : Verdict). Judged limits verdict third) (sym same) judged

pub judged_among : {a b : List Position} {first second : Verdict} → (a ≡ [] → b ≡ []) → ((place : Position) → In place a → In place b) → Judged a first second → Judged b first second
judged_among {a} {b} {first} {second} nothing some (goes none same) = goes (nothing none) same
judged_among {a} {b} {first} {second} nothing some (breaks place there is) = breaks place (some place there) is

pub judged_none : {limits : List Position} {first second : Verdict} → limits ≡ [] → Judged limits first second → first ≡ second
judged_none none given = grind arith

-- ---- one token

pub taken_within : (telling : Telling) (limits : List Position) (more behind : List Expected) (spot : Spot) (rest : List Spot)
    → Judged limits (followed (met (within limits (taken more)) behind (next_so telling behind spot)) (spot ∷ rest) (λ after. run_so telling after rest)) (run_so telling (more ++ behind) rest)
taken_within telling [] more behind spot rest = goes refl refl
taken_within telling (place ∷ limits) more behind spot rest = breaks place (inl refl) refl

-- ---- the places in another order

pub both_none : {X : Type 0} (a b : List X) → a ++ b ≡ [] → (a ≡ []) × (b ≡ [])
both_none [] b none = (refl, none)
both_none (x ∷ a) b none = absurd (cc)

pub in_either : (place : Position) (a b : List Position) → In place (a ++ b) → In place a ⊎ In place b
in_either place [] b there = inr there
in_either place (first ∷ a) b there = grind (arith, in_either place a b)

-- if `a` is empty then `b` is empty, and all places of `a` are in `b`
pub record Covers (a b : List Position) : Type 0 where
  pub none : a ≡ [] → b ≡ []
  pub some : (place : Position) → In place a → In place b

pub covers_same : {a b : List Position} → a ≡ b → Covers a b
covers_same {a} {b} same = record { none = λ empty. sym same ∙ empty; some = λ place there. subst (In place) same there }

pub covers_then : {a b c : List Position} → Covers a b → Covers b c → Covers a c
covers_then {a} {b} {c} one two = grind arith

pub covers_on : {a b c d : List Position} → Covers a b → Covers c d → Covers (a ++ c) (b ++ d)
covers_on {a} {b} {c} {d} one two = record {
  none = λ empty. grind (arith, both_none a c, one.none, two.none);
  some = λ place there. grind (arith, in_either place a c, in_front place b d, in_back place b d, one.some place, two.some place);
}

pub covers_swap : (a b : List Position) → Covers (a ++ b) (b ++ a)
covers_swap a b = record { none = λ empty. grind (arith, both_none a b); some = λ place there. grind (arith, in_either place a b, in_front place b a, in_back place b a) }

pub covers_middle : (a b c d : List Position) → Covers ((a ++ b) ++ (c ++ d)) ((a ++ c) ++ (b ++ d))
covers_middle a b c d =
    covers_then (covers_same (append_assoc a b (c ++ d) ∙ ap (λ (list : List Position). a ++ list) (sym (append_assoc b c d))))
    (covers_then (covers_on (covers_same refl) (covers_on (covers_swap b c) (covers_same refl)))
    (covers_same (ap (λ (list : List Position). a ++ list) (append_assoc c b d) ∙ sym (append_assoc a c (b ++ d)))))
