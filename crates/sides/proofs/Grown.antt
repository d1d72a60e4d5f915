-- Lists of facts that grow, as sets.
use Rattle.std.proofs.Common.{◌≡◌, Bool, true, false, ◌||◌, List, [], ◌∷◌, ◌++◌, refl, sym, ap, subst, ◌∙◌}
use Rattle.std.proofs.lemmas.Bool.{false≢true}
use Rattle.std.proofs.lemmas.List.{append_assoc, append-nil}
use Rattle.terms.specs.declared.name.Inst.{Inst}
use Rattle.terms.specs.Facts.{Fact, done}
use Rattle.terms.specs.Sets.{is_fact, among, OneFact, AmongBoth}
use Rattle.codec.specs.Image.{image_facts}
use Rattle.holdings.specs.Holdings.{Holdings, image_of}
use Rattle.sides.specs.Growth.{AlsoHas, Grows}

or_assoc : (a b c : Bool) → ((a || b) || c) ≡ (a || (b || c))
or_assoc true b c = refl
or_assoc false b c = refl

or_turned : (a b : Bool) → (a || b) ≡ (b || a)
or_turned true true = refl
or_turned true false = refl
or_turned false true = refl
or_turned false false = refl

-- adding a truth that implies the other changes nothing
or_held : (a b : Bool) → (b ≡ true → a ≡ true) → a ≡ (a || (b || false))
or_held true b holds = refl
or_held false true holds = absurd (false≢true (holds refl))
or_held false false holds = refl

-- a list to which nothing is added
pub unchanged : (list : List Fact) → AlsoHas [] list list
unchanged list = record { same = λ fact. ap (λ (facts : List Fact). among facts fact) (sym (append-nil list)) }

module _ (both : AmongBoth) where
  -- facts in the middle of a list may as well stand at its end
  from_between : (front here back : List Fact) (fact : Fact) → among (front ++ (here ++ back)) fact ≡ among ((front ++ back) ++ here) fact
  from_between front here back fact =
      both front (here ++ back) fact ∙ ap (λ (b : Bool). among front fact || b) (both here back fact ∙ or_turned (among here fact) (among back fact))
      ∙ sym (or_assoc (among front fact) (among back fact) (among here fact))
      ∙ sym (ap (λ (b : Bool). b || among here fact) (both front back fact)) ∙ sym (both (front ++ back) here fact)

  pub joined : {first second a b c : List Fact} → AlsoHas first a b → AlsoHas second b c → AlsoHas (first ++ second) a c
  joined {first} {second} {a} {b} {c} one two = record {
    same = λ fact.
        two.same fact ∙ both b second fact ∙ ap (λ (x : Bool). x || among second fact) (one.same fact) ∙ sym (both (a ++ first) second fact)
        ∙ ap (λ (facts : List Fact). among facts fact) (append_assoc a first second);
  }

  -- one growth after another
  pub grows_on : {first second one two : List Fact} {a b c : Holdings} → Grows first one a b → Grows second two b c → Grows (first ++ second) (one ++ two) a c
  grows_on start more = record { facts = joined start.facts more.facts; environment = joined start.environment more.environment; counts = more.counts ∙ start.counts }

  module _ (one_fact : OneFact) where
    -- adding a fact that is there already
    pub held_already : (list : List Fact) (held : Fact) → among list held ≡ true → AlsoHas (held ∷ []) list list
    held_already list held there = record {
      same = λ fact.
          or_held (among list fact) (is_fact held fact) (λ same. subst (λ (x : Fact). among list x ≡ true) ((one_fact held fact).1 same) there)
          ∙ sym (both list (held ∷ []) fact);
    }

-- the end of the instance is stated before its puts, and made after them
pub done_behind : AmongBoth → (instance : Inst) {puts : List Fact} {first middle last : Holdings} → Grows [] puts first middle → Grows [] (done instance ∷ []) middle last → Grows [] (done instance ∷ puts) first last
done_behind both instance {puts} {first} {middle} {last} taken ended =
    let grown = grows_on both taken ended in
    record {
      facts = record {
        same = λ fact.
            grown.facts.same fact ∙ ap (λ (facts : List Fact). among facts fact) (sym (append_assoc (image_facts (image_of first)) puts (done instance ∷ [])))
            ∙ sym (from_between both (image_facts (image_of first)) (done instance ∷ []) puts fact);
      };
      environment = grown.environment;
      counts = grown.counts;
    }
