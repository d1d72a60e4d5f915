-- Puts taken one after another: what has been taken and what is still to come are all of them.
use Rattle.std.proofs.Common.{◌≡◌, ◌↔◌, ◌≤◌, ◌<◌, ◌+◌, ℕ, suc, Bool, true, false, ◌||◌, List, [], ◌∷◌, ◌++◌, length, drop, get_or, refl, sym, ap, subst, ◌∙◌, add-one, drop-cons, arith}
use Rattle.std.specs.List.{AllByRecursion}
use Rattle.std.proofs.lemmas.List.{append_assoc, append-nil}
use Rattle.std.proofs.Math.ListN.{drop_of_length-le}
use Rattle.terms.specs.declared.name.Inst.{Inst}
use Rattle.terms.specs.declared.put.TheConstants.{MOST_PUTS}
use Rattle.terms.specs.declared.put.Put.{Put}
use Rattle.terms.specs.Facts.{Fact, put_fact, put_facts}
use Rattle.terms.specs.Sets.{is_fact, among, OneFact, AmongBoth}
use Rattle.holdings.specs.Holdings.{Holdings, image_of}
use Rattle.codec.specs.Spelling.{HasPutNumber}
use Rattle.codec.specs.Image.{image_facts, image_environment, facts_in}
use Rattle.graph.specs.Graph.{Graph}
use Rattle.graph.specs.Fits.{AreNew, PutIsOf}
use Rattle.sides.specs.Growth.{AlsoHas, Grows, PutFits}
use Rattle.sides.proofs.Grown.{joined, unchanged}
use Rattle.sides.proofs.PutsInTurn.{with_fact, FitInTurn, in_turn}

-- the first `number` puts have been taken in between
pub record TakenSoFar (g : Graph) (instance : Inst) (puts : List Put) (number : ℕ) (old now : Holdings) : Type 0 where
  pub fits : FitInTurn g instance 0 puts (facts_in (image_of old)) ↔ FitInTurn g instance number (drop number puts) (facts_in (image_of now))
  pub facts : (fact : Fact) → among (image_facts (image_of old) ++ put_facts instance 0 puts) fact ≡ among (image_facts (image_of now) ++ put_facts instance number (drop number puts)) fact
  pub environment : AlsoHas [] (image_environment (image_of old)) (image_environment (image_of now))
  pub counts : now.counts ≡ old.counts
  pub numbered : AllByRecursion HasPutNumber (image_of old).items → length puts ≤ MOST_PUTS → AllByRecursion HasPutNumber (image_of now).items

module _ (g : Graph) (instance : Inst) (puts : List Put) (old : Holdings) where
  -- none of them yet
  pub none_taken : TakenSoFar g instance puts 0 old old
  none_taken = record { fits = (λ fit. fit, λ fit. fit); facts = λ fact. refl; environment = unchanged (image_environment (image_of old)); counts = refl; numbered = λ all few. all }

  comes : (number : ℕ) (one : Put) → one ≡ get_or puts number one → number < length puts → drop number puts ≡ one ∷ drop (suc number) puts
  comes number one is within = drop-cons puts number one within ∙ ap (λ (first : Put). first ∷ drop (suc number) puts) (sym is)

  -- if one does not fit, not all do
  pub stops : OneFact → {number : ℕ} {now : Holdings} → TakenSoFar g instance puts number old now → (one : Put) → one ≡ get_or puts number one → number < length puts
      → (PutFits g (facts_in (image_of now)) one → ⊥) → AllByRecursion (PutIsOf g) puts × AreNew (facts_in (image_of old)) puts → ⊥
  stops one_fact {number} {now} taken one is within misfit all =
      let fit = taken.fits.0 ((in_turn one_fact g instance puts (facts_in (image_of old))).1 all) in
      misfit (subst (λ (list : List Put). FitInTurn g instance number list (facts_in (image_of now))) (comes number one is within) fit).0

  -- all of them
  pub ends : OneFact → {number : ℕ} {now : Holdings} → TakenSoFar g instance puts number old now → length puts ≤ number
      → (AllByRecursion (PutIsOf g) puts × AreNew (facts_in (image_of old)) puts) × Grows [] (put_facts instance 0 puts) old now
  ends one_fact {number} {now} taken past = let none : drop number puts ≡ [] = drop_of_length-le puts past in (
    (in_turn one_fact g instance puts (facts_in (image_of old))).0 (taken.fits.1 (subst (λ (list : List Put). FitInTurn g instance number list (facts_in (image_of now))) (sym none) tt)),
    record {
      facts = record {
        same = λ fact.
            ap (λ (facts : List Fact). among facts fact) (sym (append-nil (image_facts (image_of now))))
            ∙ ap (λ (list : List Put). among (image_facts (image_of now) ++ put_facts instance number list) fact) (sym none) ∙ sym (taken.facts fact);
      };
      environment = taken.environment;
      counts = taken.counts;
    },
  )

  module _ (both : AmongBoth) where
    or_back : (a b : Bool) → (a || (b || false)) ≡ (b || a)
    or_back true true = refl
    or_back true false = refl
    or_back false true = refl
    or_back false false = refl

    -- one fact more, as a set
    one_more : {now next : Holdings} {more : Fact} → Grows [] (more ∷ []) now next → facts_in (image_of next) ≡ with_fact (facts_in (image_of now)) more
    one_more {now} {next} {more} grows =
        λ i fact. (grows.facts.same fact ∙ both (image_facts (image_of now)) (more ∷ []) fact ∙ or_back (facts_in (image_of now) fact) (is_fact more fact)) i

    -- one more of them
    taken_on : {number : ℕ} {now next : Holdings} → TakenSoFar g instance puts number old now → (one : Put) → drop number puts ≡ one ∷ drop (suc number) puts → number < length puts
        → PutFits g (facts_in (image_of now)) one → Grows [] (put_fact instance number one ∷ []) now next
        → (AllByRecursion HasPutNumber (image_of now).items → number < MOST_PUTS → AllByRecursion HasPutNumber (image_of next).items)
        → TakenSoFar g instance puts (suc number) old next
    taken_on {number} {now} {next} taken one is within fit grows numbered = record {
      fits = (
        λ all.
            subst (FitInTurn g instance (suc number) (drop (suc number) puts)) (sym (one_more grows))
            (subst (λ (list : List Put). FitInTurn g instance number list (facts_in (image_of now))) is (taken.fits.0 all)).1,
        λ rest.
            taken.fits.1 (subst (λ (list : List Put). FitInTurn g instance number list (facts_in (image_of now))) (sym is)
            (fit, subst (FitInTurn g instance (suc number) (drop (suc number) puts)) (one_more grows) rest)),
      );
      facts = λ fact.
          taken.facts fact ∙ ap (λ (list : List Put). among (image_facts (image_of now) ++ put_facts instance number list) fact) is
          ∙ ap (λ (facts : List Fact). among facts fact) (sym (append_assoc (image_facts (image_of now)) (put_fact instance number one ∷ []) (put_facts instance (suc number) (drop (suc number) puts))))
          ∙ both (image_facts (image_of now) ++ put_fact instance number one ∷ []) (put_facts instance (suc number) (drop (suc number) puts)) fact
          ∙ ap (λ (b : Bool). b || among (put_facts instance (suc number) (drop (suc number) puts)) fact) (sym (grows.facts.same fact))
          ∙ sym (both (image_facts (image_of next)) (put_facts instance (suc number) (drop (suc number) puts)) fact);
      environment = joined both taken.environment grows.environment;
      counts = grows.counts ∙ taken.counts;
      numbered = λ all few. numbered (taken.numbered all few) (omega (arith, few, within));
    }

    pub goes_on : {number told : ℕ} {now next : Holdings} → TakenSoFar g instance puts number old now → (one : Put) → one ≡ get_or puts number one → number < length puts → told ≡ number
        → PutFits g (facts_in (image_of now)) one → Grows [] (put_fact instance told one ∷ []) now next
        → (AllByRecursion HasPutNumber (image_of now).items → told < MOST_PUTS → AllByRecursion HasPutNumber (image_of next).items)
        → TakenSoFar g instance puts (number + 1) old next
    goes_on {number} {told} {now} {next} taken one is within same fit grows numbered =
        subst (λ (n : ℕ). TakenSoFar g instance puts n old next) (sym (add-one number))
        (taken_on taken one (comes number one is within) within fit
        (subst (λ (n : ℕ). Grows [] (put_fact instance n one ∷ []) now next) same grows)
        (subst (λ (n : ℕ). AllByRecursion HasPutNumber (image_of now).items → n < MOST_PUTS → AllByRecursion HasPutNumber (image_of next).items) same numbered))
