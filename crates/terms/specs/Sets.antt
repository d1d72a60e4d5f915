-- Lists of facts as sets: whether a fact is among them.
use Rattle.std.specs.Prelude.{◌≡◌, Bool, true, false, ◌&&◌, ◌||◌, ◌==◌, List, [], ◌∷◌, ◌++◌}
use Rattle.std.specs.Ordering.{is_eq, int_eq}
use Rattle.terms.specs.Fault.{fault_number}
use Rattle.terms.specs.Name.{tag_cmp, inst_cmp}
use Rattle.terms.specs.Put.{producer_cmp}
use Rattle.terms.specs.Same.{is_same}
use Rattle.terms.specs.declared.event.Event.{Event}
use Rattle.terms.specs.Facts.{Fact, tag, item, done, bad, facts, environment}

-- whether two facts are the same
abbrev pub is_fact : Fact → Fact → Bool
is_fact (tag a) (tag b) = is_eq (tag_cmp a b)
is_fact (item a v p) (item b w q) = is_same a b && (int_eq v w && is_eq (producer_cmp p q))
is_fact (done a) (done b) = is_eq (inst_cmp a b)
is_fact (bad a k) (bad b l) = is_eq (inst_cmp a b) && (fault_number k == fault_number l)
is_fact one two = false

-- a set of facts, as a function that says which facts are in it
abbrev pub Facts : Type 0
Facts = Fact → Bool

-- the set of the facts in a list; their order and repetitions do not matter
abbrev pub among : List Fact → Facts
among [] fact = false
among (first ∷ rest) fact = is_fact first fact || among rest fact

-- the set with these facts added
abbrev pub with_facts : Facts → List Fact → Facts
with_facts X more fact = X fact || among more fact

-- the set of the facts that the events of a list state, and the part of it that the environment put
abbrev pub stated : List Event → Facts
stated events = among (facts events)

abbrev pub put_by_environment : List Event → Facts
put_by_environment events = among (environment events)

-- `is_fact` is true exactly when the two facts are the same
abbrev pub OneFact : Type 0
OneFact = (one two : Fact) → (is_fact one one ≡ true) × (is_fact one two ≡ true → one ≡ two)

-- a fact is in two joined lists exactly when it is in one of them
abbrev pub AmongBoth : Type 0
AmongBoth = (one two : List Fact) (fact : Fact) → among (one ++ two) fact ≡ (among one fact || among two fact)
