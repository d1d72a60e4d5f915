-- Events taken one after another: what has been taken and what is still to come are all of them.
use Rattle.std.proofs.Common.{◌≡◌, ◌↔◌, ◌≤◌, ◌<◌, ◌+◌, ℕ, suc, List, [], ◌∷◌, ◌++◌, length, take, drop, get_or, refl, sym, ap, subst, ◌∙◌, add-one, drop-cons}
use Rattle.std.specs.List.{AllByRecursion}
use Rattle.std.proofs.lemmas.List.{append-nil, take_all, take_more}
use Rattle.std.proofs.Math.ListN.{drop_of_length-le}
use Rattle.terms.specs.declared.event.Event.{Event}
use Rattle.terms.specs.Facts.{Fact, facts, environment, event_facts, environment_facts, FactsGoOn, EnvironmentGoesOn}
use Rattle.terms.specs.Sets.{AmongBoth}
use Rattle.holdings.specs.Holdings.{Holdings, image_of}
use Rattle.codec.specs.Spelling.{HasPutNumber}
use Rattle.codec.specs.Image.{image_facts, image_environment, facts_in}
use Rattle.graph.specs.Graph.{Graph}
use Rattle.graph.specs.Fits.{Fits, AllFit}
use Rattle.graph.specs.FitLaws.{EventsAsSet}
use Rattle.sides.specs.Growth.{Grows, IsGrownBy}
use Rattle.sides.proofs.Grown.{grows_on, unchanged}

-- the first `number` events have been taken in between
pub record EventsTaken (g : Graph) (events : List Event) (number : ℕ) (old now : Holdings) : Type 0 where
  pub fits : AllFit g (image_facts (image_of old)) events ↔ AllFit g (image_facts (image_of now)) (drop number events)
  pub grown : Grows (environment (take number events)) (facts (take number events)) old now
  pub numbered : AllByRecursion HasPutNumber (image_of old).items → AllByRecursion HasPutNumber (image_of now).items

module _ (g : Graph) (events : List Event) (old : Holdings) where
  -- none of them yet
  pub none_taken : EventsTaken g events 0 old old
  none_taken = record {
    fits = (λ fit. fit, λ fit. fit);
    grown = record { facts = unchanged (image_facts (image_of old)); environment = unchanged (image_environment (image_of old)); counts = refl };
    numbered = λ all. all;
  }

  comes : (number : ℕ) (one : Event) → one ≡ get_or events number one → number < length events → drop number events ≡ one ∷ drop (suc number) events
  comes number one is within = drop-cons events number one within ∙ ap (λ (first : Event). first ∷ drop (suc number) events) (sym is)

  -- if one does not fit, not all do
  pub stops : {number : ℕ} {now : Holdings} → EventsTaken g events number old now → (one : Event) → one ≡ get_or events number one → number < length events
      → (Fits g (facts_in (image_of now)) one → ⊥) → AllFit g (image_facts (image_of old)) events → ⊥
  stops {number} {now} taken one is within misfit all =
      misfit (subst (AllFit g (image_facts (image_of now))) (comes number one is within) (taken.fits.0 all)).0

  -- all of them
  pub ends : {number : ℕ} {now : Holdings} → EventsTaken g events number old now → length events ≤ number
      → AllFit g (image_facts (image_of old)) events × Grows (environment events) (facts events) old now
  ends {number} {now} taken past = (
    taken.fits.1 (subst (AllFit g (image_facts (image_of now))) (sym (drop_of_length-le events past)) tt),
    subst (λ (list : List Event). Grows (environment list) (facts list) old now) (take_all number events past) taken.grown,
  )

  -- one more of them
  module _ (both : AmongBoth) (facts_on : FactsGoOn) (given_on : EnvironmentGoesOn) (as_set : EventsAsSet) where
    pub goes_on : {number : ℕ} {now next : Holdings} → EventsTaken g events number old now → (one : Event) → one ≡ get_or events number one → number < length events
        → Fits g (facts_in (image_of now)) one → IsGrownBy one now next → (AllByRecursion HasPutNumber (image_of now).items → AllByRecursion HasPutNumber (image_of next).items)
        → EventsTaken g events (number + 1) old next
    goes_on {number} {now} {next} taken one is within fit grows numbered = record {
      fits = (
        λ all. subst (λ (n : ℕ). AllFit g (image_facts (image_of next)) (drop n events)) (sym (add-one number))
            (as_set g (image_facts (image_of now) ++ event_facts one) (image_facts (image_of next)) rest (λ fact. sym (grows.facts.same fact)) (subst (AllFit g (image_facts (image_of now))) there (taken.fits.0 all)).1),
        λ left. taken.fits.1 (subst (AllFit g (image_facts (image_of now))) (sym there)
            (fit, as_set g (image_facts (image_of next)) (image_facts (image_of now) ++ event_facts one) rest grows.facts.same (subst (λ (n : ℕ). AllFit g (image_facts (image_of next)) (drop n events)) (add-one number) left))),
      );
      grown = subst (λ (list : List Event). Grows (environment list) (facts list) old next) (sym (take_more events number one within ∙ ap (λ (last : Event). take number events ++ last ∷ []) (sym is)))
          (subst (λ (given : List Fact). Grows given (facts (take number events ++ one ∷ [])) old next) (sym given)
          (subst (λ (stated : List Fact). Grows (environment (take number events) ++ environment_facts one) stated old next) (sym stated)
          (grows_on both taken.grown grows)));
      numbered = λ all. numbered (taken.numbered all);
    }
      where
        rest : List Event
        rest = drop (suc number) events

        there : drop number events ≡ one ∷ rest
        there = comes number one is within

        given : environment (take number events ++ one ∷ []) ≡ environment (take number events) ++ environment_facts one
        given = given_on (take number events) (one ∷ []) ∙ ap (λ (list : List Fact). environment (take number events) ++ list) (append-nil (environment_facts one))

        stated : facts (take number events ++ one ∷ []) ≡ facts (take number events) ++ event_facts one
        stated = facts_on (take number events) (one ∷ []) ∙ ap (λ (list : List Fact). facts (take number events) ++ list) (append-nil (event_facts one))
