-- Lists of facts as sets.
use Rattle.std.proofs.Common.{◌≡◌, ◌⊎◌, Bool, true, false, ◌||◌, List, [], ◌∷◌, ◌++◌, inl, inr, refl, sym, ◌∙◌}
use Rattle.std.proofs.lemmas.Bool.{false≢true}
use Rattle.terms.specs.declared.event.Event.{Event}
use Rattle.terms.specs.declared.event.Event.TheVariants.{EnvItem, EnvTag, Done, Stopped}
use Rattle.terms.specs.Facts.{Fact, facts, environment, event_facts, environment_facts}
use Rattle.terms.specs.Sets.{Facts, is_fact, among, OneFact, AmongBoth}

pub either : (a b : Bool) → (a || b) ≡ true → (a ≡ true) ⊎ (b ≡ true)
either true b holds = inl refl
either false b holds = inr holds

pub or_left : (a b : Bool) → a ≡ true → (a || b) ≡ true
or_left a b holds = cc

pub or_right : (a b : Bool) → b ≡ true → (a || b) ≡ true
or_right true b holds = refl
or_right false b holds = holds

pub not_both : {A : Type 0} (a : Bool) → a ≡ true → a ≡ false → A
not_both a yes_ no_ = absurd (false≢true (sym no_ ∙ yes_))

-- two truth values that imply each other are equal
pub same_truth : (a b : Bool) → (a ≡ true → b ≡ true) → (b ≡ true → a ≡ true) → a ≡ b
same_truth true b there back = sym (there refl)
same_truth false true there back = back refl
same_truth false false there back = refl

-- each fact of the first set is in the second
abbrev pub Within : Facts → Facts → Type 0
Within X Y = (fact : Fact) → X fact ≡ true → Y fact ≡ true

module _ (told : OneFact) where
  -- a fact of a list is the first, or one of the rest
  pub of_list : (first : Fact) (rest : List Fact) (fact : Fact) → among (first ∷ rest) fact ≡ true → (first ≡ fact) ⊎ (among rest fact ≡ true)
  of_list first rest fact holds = elim (either (is_fact first fact) (among rest fact) holds) [ inl one ↦ inl ((told first fact).1 one) | inr other ↦ inr other ]

  pub the_first : (first : Fact) (rest : List Fact) → among (first ∷ rest) first ≡ true
  the_first first rest = or_left (is_fact first first) (among rest first) (told first first).0

  pub behind_first : (first : Fact) (rest : List Fact) (fact : Fact) → among rest fact ≡ true → among (first ∷ rest) fact ≡ true
  behind_first first rest fact holds = or_right (is_fact first fact) (among rest fact) holds

module _ (both : AmongBoth) where
  pub of_both : (one two : List Fact) (fact : Fact) → among (one ++ two) fact ≡ true → (among one fact ≡ true) ⊎ (among two fact ≡ true)
  of_both one two fact holds = either (among one fact) (among two fact) (sym (both one two fact) ∙ holds)

  pub in_one : (one two : List Fact) → Within (among one) (among (one ++ two))
  in_one one two fact holds = both one two fact ∙ or_left (among one fact) (among two fact) holds

  pub in_two : (one two : List Fact) → Within (among two) (among (one ++ two))
  in_two one two fact holds = both one two fact ∙ or_right (among one fact) (among two fact) holds

  -- what the environment put is stated
  pub given_in_event : (event : Event) → Within (among (environment_facts event)) (among (event_facts event))
  given_in_event (EnvItem address value) fact holds = holds
  given_in_event (EnvTag name) fact holds = holds
  given_in_event (Done instance puts) fact holds = absurd (false≢true holds)
  given_in_event (Stopped instance kind) fact holds = absurd (false≢true holds)

  pub given_is_stated : (events : List Event) → Within (among (environment events)) (among (facts events))
  given_is_stated [] fact holds = holds
  given_is_stated (event ∷ events) fact holds =
      elim (of_both (environment_facts event) (environment events) fact holds) [
        | inl here ↦ in_one (event_facts event) (facts events) fact (given_in_event event fact here)
        | inr later ↦ in_two (event_facts event) (facts events) fact (given_is_stated events fact later)
      ]
