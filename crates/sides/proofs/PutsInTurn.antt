-- Puts that fit one after another are of the graph, and their items new.
use Rattle.std.proofs.Common.{◌≡◌, ◌⊎◌, ◌↔◌, ℕ, ℤ, suc, true, ◌||◌, List, [], ◌∷◌, ◌++◌, inl, inr, refl, sym, ap, subst, ◌∙◌}
use Rattle.std.specs.Bool.{⊤}
use Rattle.std.specs.List.{AllByRecursion}
use Rattle.std.proofs.lemmas.Bool.{false_from_ne_true, false≢true, or_parts, or_from}
use Rattle.terms.specs.declared.name.Addr.{Addr}
use Rattle.terms.specs.declared.name.Inst.{Inst}
use Rattle.terms.specs.declared.producer.Producer.{Producer}
use Rattle.terms.specs.declared.producer.Producer.TheVariants.{By}
use Rattle.terms.specs.declared.put.Put.{Put}
use Rattle.terms.specs.declared.put.Put.TheVariants as put
use Rattle.terms.specs.Facts.{Fact, tag, item, put_fact}
use Rattle.terms.specs.Sets.{Facts, is_fact, OneFact}
use Rattle.graph.specs.Graph.{Graph}
use Rattle.graph.specs.Fits.{IsAbsent, IsIn, IsTwiceIn, AreNew, PutIsOf, addresses}
use Rattle.sides.specs.Growth.{PutFits}

-- a set with one fact more
abbrev pub with_fact : Facts → Fact → Facts
with_fact X more fact = is_fact more fact || X fact

-- each put, the first of them with this number, fits when those before it have been taken
abbrev pub FitInTurn : Graph → Inst → ℕ → List Put → Facts → Type 0
FitInTurn g instance number [] X = ⊤
FitInTurn g instance number (first ∷ puts) X = PutFits g X first × FitInTurn g instance (suc number) puts (with_fact X (put_fact instance number first))

-- ---- an address among others

in_none : (address : Addr) (front back : List Addr) → [] ≡ front ++ address ∷ back → ⊥
in_none address [] back is = cc
in_none address (first ∷ front) back is = cc

twice_in_none : (address : Addr) (front between back : List Addr) → [] ≡ front ++ address ∷ between ++ address ∷ back → ⊥
twice_in_none address [] between back is = cc
twice_in_none address (first ∷ front) between back is = cc

in_more : (address first : Addr) (list front back : List Addr) → first ∷ list ≡ front ++ address ∷ back → (first ≡ address) ⊎ IsIn address list
in_more address first list [] back is = inl (cc)
in_more address first list (other ∷ front) back is = inr (front, back, cc)

twice_in_more : (address first : Addr) (list front between back : List Addr) → first ∷ list ≡ front ++ address ∷ between ++ address ∷ back
    → ((first ≡ address) × IsIn address list) ⊎ IsTwiceIn address list
twice_in_more address first list [] between back is = inl (cc, (between, back, cc))
twice_in_more address first list (other ∷ front) between back is = inr (front, between, back, cc)

-- ---- new items

none_new : (X : Facts) → AreNew X []
none_new X = record {
  absent = λ address (front, back, is). absurd (in_none address front back is);
  distinct = λ address (front, between, back, is). twice_in_none address front between back is;
}

module _ (one_fact : OneFact) (X : Facts) (first : Addr) (value : ℤ) (by : Producer) (puts : List Put) where
  same_address : (address : Addr) (w : ℤ) (q : Producer) → is_fact (item first value by) (item address w q) ≡ true → first ≡ address
  same_address address w q same = let whole = (one_fact (item first value by) (item address w q)).1 same in cc

  rest_new : AreNew X (put.Item first value ∷ puts) → AreNew (with_fact X (item first value by)) puts
  rest_new new = record {
    absent = λ address there w q.
        or_from (is_fact (item first value by) (item address w q)) (X (item address w q))
        (false_from_ne_true (is_fact (item first value by) (item address w q)) (λ same.
        new.distinct address ([], there.0, there.1, λ i. same_address address w q same i ∷ there.2 i)))
        (new.absent address (first ∷ there.0, there.1, ap (λ (list : List Addr). first ∷ list) there.2) w q);
    distinct = λ address twice. new.distinct address (first ∷ twice.0, twice.1, twice.2, ap (λ (list : List Addr). first ∷ list) twice.3);
  }

  whole_new : IsAbsent X first → AreNew (with_fact X (item first value by)) puts → AreNew X (put.Item first value ∷ puts)
  whole_new absent new = record {
    absent = λ address there. elim (in_more address first (addresses puts) there.0 there.1 there.2) [
      | inl same ↦ subst (IsAbsent X) same absent
      | inr later ↦ λ w q. (or_parts (is_fact (item first value by) (item address w q)) (X (item address w q)) (new.absent address later w q)).1
    ];
    distinct = λ address twice. elim (twice_in_more address first (addresses puts) twice.0 twice.1 twice.2 twice.3) [
      | inl both ↦ false≢true
          (sym (or_parts (is_fact (item first value by) (item address value by)) (X (item address value by)) (new.absent address both.1 value by)).0
          ∙ subst (λ (a : Addr). is_fact (item first value by) (item a value by) ≡ true) both.0 (one_fact (item first value by) (item first value by)).0)
      | inr later ↦ new.distinct address later
    ];
  }

-- ---- in turn

module _ (one_fact : OneFact) (g : Graph) (instance : Inst) where
  then_new : (number : ℕ) (puts : List Put) (X : Facts) → FitInTurn g instance number puts X → AllByRecursion (PutIsOf g) puts × AreNew X puts
  then_new number [] X fit = (tt, none_new X)
  then_new number (put.Item address value ∷ puts) X fit =
      let rest = then_new (suc number) puts (with_fact X (item address value (By instance number))) fit.1 in
      ((fit.0.0, rest.0), whole_new one_fact X address value (By instance number) puts fit.0.1 rest.1)
  then_new number (put.Tag name ∷ puts) X fit =
      let rest = then_new (suc number) puts (with_fact X (tag name)) fit.1 in
      ((fit.0.0, rest.0), record { absent = rest.1.absent; distinct = rest.1.distinct })

  new_then : (number : ℕ) (puts : List Put) (X : Facts) → AllByRecursion (PutIsOf g) puts → AreNew X puts → FitInTurn g instance number puts X
  new_then number [] X all new = tt
  new_then number (put.Item address value ∷ puts) X all new = (
    (all.0, new.absent address ([], addresses puts, refl)),
    new_then (suc number) puts (with_fact X (item address value (By instance number))) all.1 (rest_new one_fact X address value (By instance number) puts new),
  )
  new_then number (put.Tag name ∷ puts) X all new =
      ((all.0, tt), new_then (suc number) puts (with_fact X (tag name)) all.1 (record { absent = new.absent; distinct = new.distinct }))

  pub in_turn : (puts : List Put) (X : Facts) → FitInTurn g instance 0 puts X ↔ (AllByRecursion (PutIsOf g) puts × AreNew X puts)
  in_turn puts X = (then_new 0 puts X, λ (all, new). new_then 0 puts X all new)
