-- Which items of a list of puts are there.
use Rattle.std.proofs.Common.{◌≡◌, ◌⊎◌, ◌∙◌, ap, sym, refl, inl, inr, ℤ, Bool, true, false, List, [], ◌∷◌, ◌++◌, Option, Some, None, is_some, not, MatchBool}
use Rattle.std.proofs.lemmas.Bool.{false≢true}
use Rattle.terms.specs.declared.name.Addr.{Addr}
use Rattle.terms.specs.declared.producer.Producer.{Producer}
use Rattle.terms.specs.declared.name.Tag.{Tag}
use Rattle.terms.specs.declared.put.Put.{Put}
use Rattle.terms.specs.declared.put.Put.TheVariants as put
use Rattle.terms.specs.Sets.{OneFact}
use Rattle.graph.specs.Fits.{addresses, IsIn, IsTwiceIn, AreNew}
use Rattle.items.specs.Held.{Held, item_at}
use Rattle.machine.specs.declared.memory.Memory.{Memory}
use Rattle.holdings.specs.ImageLaws.{is_item}
use Rattle.machine.specs.Memory.{facts_of}
use Rattle.machine.specs.Legal.{Conflicts}
use Rattle.machine.specs.Absence.{AreAllAbsent, IsOneThere}
use Rattle.machine.proofs.Coming.{is_itself}
use Rattle.machine.proofs.Ending.{the_only}

pub nowhere : (a : Addr) (before behind : List Addr) → [] ≡ before ++ a ∷ behind → ⊥
nowhere a [] behind none = cc
nowhere a (x ∷ before) behind none = cc

pub in_either : (a : Addr) (first : Put) (others : List Put) → IsIn a (addresses (first ∷ others)) → IsIn a (addresses (first ∷ [])) ⊎ IsIn a (addresses others)
in_either a (put.Tag name) others is = inr is
in_either a (put.Item b value) others ([], behind, is) = inl ([], [], ap (λ (x : Addr). x ∷ []) (head is))
  where
    head : b ∷ addresses others ≡ a ∷ behind → b ≡ a
    head is = cc
in_either a (put.Item b value) others (x ∷ before, behind, is) = inr (before, behind, tail is)
  where
    tail : b ∷ addresses others ≡ x ∷ (before ++ a ∷ behind) → addresses others ≡ before ++ a ∷ behind
    tail is = cc

pub in_front : (a : Addr) (first : Put) (others : List Put) → IsIn a (addresses (first ∷ [])) → IsIn a (addresses (first ∷ others))
in_front a (put.Item b value) others is = ([], addresses others, ap (λ (x : Addr). x ∷ addresses others) (sym (the_only a b is)))
in_front a (put.Tag name) others is = absurd (nowhere a is.0 is.1 is.2)

pub one_absent : (held : Held) (a : Addr) (value : ℤ) → item_at held a ≡ None → AreAllAbsent held (put.Item a value ∷ [])
one_absent held a value none b is = ap (item_at held) (the_only b a is) ∙ none

pub none_absent : (held : Held) (name : Tag) → AreAllAbsent held (put.Tag name ∷ [])
none_absent held name b is = absurd (nowhere b is.0 is.1 is.2)

pub one_there : (held : Held) (a : Addr) (value : ℤ) (o : Option (ℤ × Producer)) → o ≡ item_at held a → is_some o ≡ true → IsOneThere held (put.Item a value ∷ [])
one_there held a value None is some = absurd (false≢true some)
one_there held a value (Some it) is some = (a, (([], [], refl), (it, sym is)))

pub told_one : (held : Held) (a : Addr) (value : ℤ) (o : Option (ℤ × Producer)) (b : Bool) → o ≡ item_at held a → is_some o ≡ not b → MatchBool b (AreAllAbsent held (put.Item a value ∷ [])) (IsOneThere held (put.Item a value ∷ []))
told_one held a value None true is some = one_absent held a value (sym is)
told_one held a value (Some it) true is some = absurd (false≢true (sym some))
told_one held a value o false is some = one_there held a value o is some

-- ---- facts

module _ (told : OneFact) (m : Memory) (puts : List Put) where
  pub conflict_there : IsOneThere m.items puts → Conflicts (facts_of m) puts
  conflict_there there = (there.0, inr (there.1.0, (there.1.1.0.0, there.1.1.0.1, ap (λ o. is_item o there.1.1.0.0 there.1.1.0.1) there.1.1.1 ∙ is_itself told there.0 there.1.1.0.0 there.1.1.0.1)))

  pub conflict_twice : ((address : Addr) × IsTwiceIn address (addresses puts)) → Conflicts (facts_of m) puts
  conflict_twice twice = (twice.0, inl twice.1)

  pub are_new : AreAllAbsent m.items puts → ((address : Addr) → IsTwiceIn address (addresses puts) → ⊥) → AreNew (facts_of m) puts
  are_new absent distinct = record { absent = λ a is value by. ap (λ o. is_item o value by) (absent a is); distinct = distinct }
