-- Facts can be distinguished.
use Rattle.std.proofs.Common.{◌≡◌, ℕ, Bool, true, false, ◌&&◌, ◌||◌, ◌==◌, [], ◌∷◌, refl, ap}
use Rattle.std.specs.declared.cmp.Ordering.{Ordering}
use Rattle.std.specs.Ordering.{is_eq, int_eq}
use Rattle.std.specs.Cmp.{IsTotalOrder, Equal-is, int_cmp_total}
use Rattle.std.specs.FinMap.{IsAntisymmetric, int_cmp-IsAntisymmetric}
use Rattle.std.proofs.lemmas.Cmp.{tied_itself}
use Rattle.std.proofs.lemmas.Bool.{eqb-true, eq-eqb, false≢true}
use Rattle.terms.specs.declared.fault.FaultKind.{FaultKind}
use Rattle.terms.specs.declared.fault.FaultKind.TheVariants as kind
use Rattle.terms.specs.Fault.{fault_number}
use Rattle.terms.specs.Facts.{Fact, tag, item, done, bad}
use Rattle.terms.specs.Name.{inst_cmp}
use Rattle.terms.specs.Put.{producer_cmp}
use Rattle.terms.specs.Same.{is_same, same_itself, same_address}
use Rattle.terms.specs.Sets.{is_fact, among, OneFact, AmongBoth}
use Rattle.terms.proofs.Numbered.{tags_total, tags_tie, instances_total, instances_tie}
use Rattle.terms.proofs.TwoKinds.{producers_total, producers_tie}

both : (a b : Bool) → (a && b) ≡ true → (a ≡ true) × (b ≡ true)
both true b holds = (refl, holds)
both false b holds = absurd (false≢true holds)

and : (a b : Bool) → a ≡ true → b ≡ true → (a && b) ≡ true
and a b one two = cc

-- by an order that ties only at equal values
itself : {K : Type 0} {R : K → K → Ordering} → IsTotalOrder R → (x : K) → is_eq (R x x) ≡ true
itself order x = ap is_eq (tied_itself order x)

told : {K : Type 0} {R : K → K → Ordering} → IsAntisymmetric R → (x y : K) → is_eq (R x y) ≡ true → x ≡ y
told {K} {R} tie x y holds = tie x y ((Equal-is (R x y)).0 holds)

same_kind : (one two : FaultKind) → fault_number one ≡ fault_number two → one ≡ two
same_kind kind.Overflow kind.Overflow same = refl
same_kind kind.DivisionByZero kind.DivisionByZero same = refl
same_kind kind.Budget kind.Budget same = refl
same_kind kind.DoublePut kind.DoublePut same = refl
same_kind kind.TooManyPuts kind.TooManyPuts same = refl
same_kind one two same = absurd (cc)

number_itself : (n : ℕ) → (n == n) ≡ true
number_itself n = eq-eqb n n refl

fact_itself : (fact : Fact) → is_fact fact fact ≡ true
fact_itself (tag a) = itself tags_total a
fact_itself (item a v p) =
    let one : is_same a a ≡ true = same_itself a in
    let two : int_eq v v ≡ true = itself int_cmp_total v in
    let three : is_eq (producer_cmp p p) ≡ true = itself producers_total p in
    and (is_same a a) (int_eq v v && is_eq (producer_cmp p p)) one (and (int_eq v v) (is_eq (producer_cmp p p)) two three)
fact_itself (done i) = itself instances_total i
fact_itself (bad i k) = and (is_eq (inst_cmp i i)) (fault_number k == fault_number k) (itself instances_total i) (number_itself (fault_number k))

same_fact : (one two : Fact) → is_fact one two ≡ true → one ≡ two
same_fact (tag a) (tag b) holds = ap tag (told tags_tie a b holds)
same_fact (item a v p) (item b w q) holds =
    let h = both (is_same a b) (int_eq v w && is_eq (producer_cmp p q)) holds in
    let k = both (int_eq v w) (is_eq (producer_cmp p q)) h.1 in
    let one = same_address a b h.0 in
    let two = told int_cmp-IsAntisymmetric v w k.0 in
    let three = told producers_tie p q k.1 in
    λ i. item (one i) (two i) (three i)
same_fact (done i) (done j) holds = ap done (told instances_tie i j holds)
same_fact (bad i k) (bad j l) holds =
    let h = both (is_eq (inst_cmp i j)) (fault_number k == fault_number l) holds in
    let one = told instances_tie i j h.0 in
    let two = same_kind k l (eqb-true (fault_number k) (fault_number l) h.1) in
    λ x. bad (one x) (two x)
same_fact one two holds = absurd (false≢true holds)

pub one_fact : OneFact
one_fact one two = (fact_itself one, same_fact one two)

either : (a b c d : Bool) → d ≡ (b || c) → (a || d) ≡ ((a || b) || c)
either true b c d same = refl
either false b c d same = same

pub among_both : AmongBoth
among_both [] two fact = refl
among_both (first ∷ rest) two fact = either (is_fact first fact) (among rest fact) (among two fact) _ (among_both rest two fact)
