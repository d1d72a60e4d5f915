-- Worked examples of what graphs mean: a graph of Fibonacci numbers, and a step that puts one item twice.
use Rattle.std.specs.Prelude.{◌≡◌, ℕ, ℤ, pos, true, false, List, [], ◌∷◌, ◌++◌, codes}
use Rattle.terms.specs.declared.name.Addr.{Addr}
use Rattle.terms.specs.declared.name.Tag.{Tag}
use Rattle.terms.specs.declared.name.Inst.{Inst}
use Rattle.terms.specs.declared.fault.FaultKind.TheVariants.{DoublePut}
use Rattle.terms.specs.declared.producer.Producer.TheVariants.{Env, By}
use Rattle.terms.specs.declared.put.Put.{Put}
use Rattle.terms.specs.declared.put.Put.TheVariants as put
use Rattle.terms.specs.declared.event.Event.{Event}
use Rattle.terms.specs.declared.event.Event.TheVariants.{EnvItem, EnvTag, Done, Stopped}
use Rattle.terms.specs.Facts.{Fact, item}
use Rattle.terms.specs.Sets.{among, stated, put_by_environment}
use Rattle.steptree.specs.Tree.{Number, Variable, End, Do}
use Rattle.steptree.specs.Simple.{Block}
use Rattle.steptree.specs.declared.simple.Simple.TheVariants.{PutItem}
use Rattle.steptree.specs.Bodies.{Asks}
use Rattle.graph.specs.Graph.{Graph, BodyMeans}
use Rattle.graph.specs.Examples.{fibonacci}
use Rattle.machine.specs.Meaning.{items, IsClosed, Meaning}
use Rattle.machine.specs.Legal.{IsLegal, AreLegal, IsQuiet}
use Rattle.machine.specs.Laws.{IsThere}

abbrev pub fib : ℕ → Addr
fib number = record { collection = record { 0 = 0 }; key = pos number ∷ [] }

abbrev pub n : ℕ → Tag
n number = record { collection = record { 0 = 0 }; key = pos number ∷ [] }

abbrev pub add : ℕ → Inst
add number = record { collection = record { 0 = 0 }; key = pos number ∷ [] }

abbrev pub put_fib : ℕ → ℕ → Event
put_fib number value = EnvItem (fib number) (pos value)

-- the instance is done, and put its number
abbrev pub added : ℕ → ℕ → Event
added number value = Done (add number) (put.Item (fib number) (pos value) ∷ [])

-- first what the environment puts, and then the steps; or each step as soon as its tag is there
abbrev pub in_two_parts : List Event
in_two_parts = EnvTag (n 2) ∷ EnvTag (n 3) ∷ EnvTag (n 4) ∷ EnvTag (n 5) ∷ put_fib 0 0 ∷ put_fib 1 1 ∷ added 2 1 ∷ added 3 2 ∷ added 4 3 ∷ added 5 5 ∷ []

abbrev pub one_by_one : List Event
one_by_one = put_fib 1 1 ∷ put_fib 0 0 ∷ EnvTag (n 2) ∷ added 2 1 ∷ EnvTag (n 3) ∷ added 3 2 ∷ EnvTag (n 4) ∷ added 4 3 ∷ EnvTag (n 5) ∷ added 5 5 ∷ []

-- both are legal and quiet, and have the same facts, the six items among them
pub record FiveNumbers : Type 0 where
  pub first_legal : AreLegal fibonacci [] in_two_parts
  pub first_quiet : IsQuiet fibonacci (stated in_two_parts)
  pub second_legal : AreLegal fibonacci [] one_by_one
  pub second_quiet : IsQuiet fibonacci (stated one_by_one)
  pub same : (fact : Fact) → stated in_two_parts fact ≡ stated one_by_one fact
  pub fifth : Meaning fibonacci (put_by_environment one_by_one) (item (fib 5) (pos 5) (By (add 5) 0))

-- with one number alone, the step needs the other
abbrev pub one_number : List Event
one_number = put_fib 0 0 ∷ EnvTag (n 2) ∷ []

pub record OneNumber : Type 0 where
  pub legal : AreLegal fibonacci [] one_number
  pub quiet : IsQuiet fibonacci (stated one_number)
  pub needs : BodyMeans fibonacci (add 2) (items (stated one_number)) (Asks (fib 1))

-- if the number is already there, the step is at fault, and no order of that environment is quiet
abbrev pub conflict : List Event
conflict = put_fib 0 0 ∷ put_fib 1 1 ∷ put_fib 2 7 ∷ EnvTag (n 2) ∷ []

pub record Conflict : Type 0 where
  pub legal : AreLegal fibonacci [] (conflict ++ Stopped (add 2) DoublePut ∷ [])
  pub never_quiet : (other : List Event) → AreLegal fibonacci [] other → IsThere conflict other → IsQuiet fibonacci (stated other) → ⊥

-- ---- one item twice

-- [out: i]; <t: i>; <t> :: (two); (two) -> [out]; env -> <t>; [out] -> env;
-- step two(k) { read { } write { put [out: k] = 1; put [out: k] = 1; } }
abbrev pub put_out : Block → Block
put_out rest = Do (PutItem (record { 0 = 0 }) (Variable 0 ∷ []) (Number (pos 1))) rest

abbrev pub twice : Graph
twice = record {
  items = record { name = codes "out"; components = 1 } ∷ [];
  tags = record { name = codes "t"; components = 1 } ∷ [];
  steps = record {
    name = codes "two";
    prescriber = 0;
    names = codes "k" ∷ [];
    parameters = 1;
    reads = false ∷ [];
    item_puts = true ∷ [];
    tag_puts = false ∷ [];
    body = record { read = End; write = put_out (put_out End) };
  } ∷ [];
  environment_item_puts = false ∷ [];
  environment_tag_puts = true ∷ [];
  environment_gets = true ∷ [];
}

-- its instance can end only by a double put
pub record PutTwice : Type 0 where
  pub legal : AreLegal twice [] (EnvTag (n 1) ∷ Stopped (add 1) DoublePut ∷ [])
  pub not_done : (puts : List Put) → IsLegal twice (stated (EnvTag (n 1) ∷ [])) (Done (add 1) puts) → ⊥

-- ---- what the definitions reject

abbrev pub enabled : List Event
enabled = put_fib 0 0 ∷ put_fib 1 1 ∷ EnvTag (n 2) ∷ []

pub record Refused : Type 0 where
  -- an instance that has all its items, and is not done: not quiet, and not closed
  pub not_quiet : IsQuiet fibonacci (stated enabled) → ⊥
  pub not_closed : IsClosed fibonacci (put_by_environment enabled) (stated enabled) → ⊥
  -- a fact in one closed set and not in another is not meant
  pub all_closed : IsClosed fibonacci (among []) (λ fact. true)
  pub none_closed : IsClosed fibonacci (among []) (among [])
  pub not_meant : Meaning fibonacci (among []) (item (fib 0) (pos 0) Env) → ⊥
  -- a second put at an address, even of the same value; a tag again; an instance done again
  pub not_twice : (v w : ℤ) → AreLegal fibonacci [] (EnvItem (fib 0) v ∷ EnvItem (fib 0) w ∷ []) → ⊥
  pub no_repeat : AreLegal fibonacci [] (EnvTag (n 2) ∷ EnvTag (n 2) ∷ []) → ⊥
  pub not_again : AreLegal fibonacci [] (enabled ++ added 2 1 ∷ added 2 1 ∷ []) → ⊥
  -- another number than the body gives
  pub not_another : AreLegal fibonacci [] (enabled ++ added 2 2 ∷ []) → ⊥
  -- anything after a fault
  pub nothing_behind : AreLegal fibonacci [] (conflict ++ Stopped (add 2) DoublePut ∷ EnvTag (n 3) ∷ []) → ⊥
