-- Puts of the environment, one after another: which is legal after others, and how they are taken.
use Rattle.std.proofs.Common.{◌≡◌, ◌∙◌, ap, sym, refl, subst, inl, inr, ℕ, zero, suc, ℤ, Bool, true, false, ◌||◌, List, [], ◌∷◌, ◌++◌, take, drop, MatchBool}
use Rattle.std.proofs.lemmas.Bool.{false≢true}
use Rattle.std.specs.List.{AllByRecursion}
use Rattle.terms.specs.declared.name.Addr.{Addr}
use Rattle.terms.specs.declared.name.Tag.{Tag}
use Rattle.terms.specs.declared.name.Inst.{Inst}
use Rattle.terms.specs.declared.fault.FaultKind.{FaultKind}
use Rattle.terms.specs.declared.producer.Producer.{Producer}
use Rattle.terms.specs.declared.producer.Producer.TheVariants.{Env}
use Rattle.terms.specs.declared.event.Event.{Event}
use Rattle.terms.specs.declared.event.Event.TheVariants.{EnvItem, EnvTag, Done, Stopped}
use Rattle.terms.specs.Facts.{Fact, tag, item, bad, event_facts}
use Rattle.terms.specs.Facts as stated
use Rattle.terms.specs.Sets.{AmongBoth, Facts, OneFact, among, is_fact, with_facts}
use Rattle.graph.specs.Graph.{Graph}
use Rattle.machine.specs.Group.{TakesInTurn, puts_of_all}
use Rattle.machine.specs.GroupLaws.{RoomInTurn}
use Rattle.machine.specs.Legal.{IsLegal}
use Rattle.machine.specs.Machine.{HasRoom, IsPut, Machine, Takes, facts}
use Rattle.machine.specs.Puts.{IsRepeated}
use Rattle.machine.specs.State.{AreLegalFrom}
use Rattle.machine.proofs.InTurn.{both_added, legal_in_turn}

-- ---- truth values

neither : (a b : Bool) → a ≡ false → b ≡ false → (a || b) ≡ false
neither true b one two = absurd (false≢true (sym one))
neither false b one two = two

first_false : (a b : Bool) → (a || b) ≡ false → a ≡ false
first_false true b is = absurd (false≢true (sym is))
first_false false b is = refl

second_false : (a b : Bool) → (a || b) ≡ false → b ≡ false
second_false true b is = absurd (false≢true (sym is))
second_false false b is = is

in_first : (a b : Bool) → a ≡ true → (a || b) ≡ true
in_first true b is = refl
in_first false b is = absurd (false≢true is)

in_second : (a b : Bool) → b ≡ true → (a || b) ≡ true
in_second true b is = refl
in_second false b is = is

either : {A : Type 0} (a b : Bool) → (a || b) ≡ true → (a ≡ true → A) → (b ≡ true → A) → A
either true b is one two = one refl
either false b is one two = two is

where_never : (a : Bool) → (a ≡ true → ⊥) → a ≡ false
where_never true never = absurd (never refl)
where_never false never = refl

-- ---- what puts state

-- no fault
no_fault : (puts : List Event) → AllByRecursion IsPut puts → (instance : Inst) (kind : FaultKind) → among (stated.facts puts) (bad instance kind) ≡ false
no_fault [] all instance kind = refl
no_fault (EnvItem a v ∷ puts) all instance kind = no_fault puts all.1 instance kind
no_fault (EnvTag name ∷ puts) all instance kind = no_fault puts all.1 instance kind
no_fault (Done ended list ∷ puts) all instance kind = absurd all.0
no_fault (Stopped ended other ∷ puts) all instance kind = absurd all.0

same_address : (a b : Addr) (v w : ℤ) (p q : Producer) → item a v p ≡ item b w q → a ≡ b
same_address a b v w p q is = cc

same_tag : (a b : Tag) → tag a ≡ tag b → a ≡ b
same_tag a b is = cc

module _ (told : OneFact) where
  -- an item that they state is put by one of them
  of_item : (puts : List Event) → AllByRecursion IsPut puts → (address : Addr) (value put : ℤ) (by : Producer) → among (stated.facts puts) (item address value by) ≡ true → IsRepeated puts (EnvItem address put)
  of_item [] all address value put by there = absurd (false≢true there)
  of_item (EnvItem a v ∷ puts) all address value put by there =
      either (is_fact (item a v Env) (item address value by)) (among (stated.facts puts) (item address value by)) there
      (λ is. inl (same_address a address v value Env by ((told (item a v Env) (item address value by)).1 is)))
      (λ later. inr (of_item puts all.1 address value put by later))
  of_item (EnvTag name ∷ puts) all address value put by there = inr (of_item puts all.1 address value put by there)
  of_item (Done ended list ∷ puts) all address value put by there = absurd all.0
  of_item (Stopped ended kind ∷ puts) all address value put by there = absurd all.0

  -- and so is a tag
  of_tag : (puts : List Event) → AllByRecursion IsPut puts → (name : Tag) → among (stated.facts puts) (tag name) ≡ true → IsRepeated puts (EnvTag name)
  of_tag [] all name there = absurd (false≢true there)
  of_tag (EnvItem a v ∷ puts) all name there = inr (of_tag puts all.1 name there)
  of_tag (EnvTag other ∷ puts) all name there =
      either (is_fact (tag other) (tag name)) (among (stated.facts puts) (tag name)) there
      (λ is. inl (same_tag other name ((told (tag other) (tag name)).1 is)))
      (λ later. inr (of_tag puts all.1 name later))
  of_tag (Done ended list ∷ puts) all name there = absurd all.0
  of_tag (Stopped ended kind ∷ puts) all name there = absurd all.0

  -- an item that one of them puts is stated, with some value
  item_stated : (puts : List Event) → AllByRecursion IsPut puts → (address : Addr) (put : ℤ) → IsRepeated puts (EnvItem address put) → (value : ℤ) × (among (stated.facts puts) (item address value Env) ≡ true)
  item_stated [] all address put is = absurd is
  item_stated (EnvItem a v ∷ puts) all address put (inl is) = (
    v,
    in_first (is_fact (item a v Env) (item address v Env)) (among (stated.facts puts) (item address v Env)) (subst (λ (b : Addr). is_fact (item a v Env) (item b v Env) ≡ true) is ((told (item a v Env) (item a v Env)).0)),
  )
  item_stated (EnvItem a v ∷ puts) all address put (inr later) =
      let it = item_stated puts all.1 address put later in (it.0, in_second (is_fact (item a v Env) (item address it.0 Env)) (among (stated.facts puts) (item address it.0 Env)) it.1)
  item_stated (EnvTag name ∷ puts) all address put (inl is) = absurd is
  item_stated (EnvTag name ∷ puts) all address put (inr later) = item_stated puts all.1 address put later
  item_stated (Done ended list ∷ puts) all address put is = absurd all.0
  item_stated (Stopped ended kind ∷ puts) all address put is = absurd all.0

  tag_stated : (puts : List Event) → AllByRecursion IsPut puts → (name : Tag) → IsRepeated puts (EnvTag name) → among (stated.facts puts) (tag name) ≡ true
  tag_stated [] all name is = absurd is
  tag_stated (EnvItem a v ∷ puts) all name (inl is) = absurd is
  tag_stated (EnvItem a v ∷ puts) all name (inr later) = tag_stated puts all.1 name later
  tag_stated (EnvTag other ∷ puts) all name (inl is) =
      in_first (is_fact (tag other) (tag name)) (among (stated.facts puts) (tag name)) (subst (λ (t : Tag). is_fact (tag other) (tag t) ≡ true) is ((told (tag other) (tag other)).0))
  tag_stated (EnvTag other ∷ puts) all name (inr later) = in_second (is_fact (tag other) (tag name)) (among (stated.facts puts) (tag name)) (tag_stated puts all.1 name later)
  tag_stated (Done ended list ∷ puts) all name is = absurd all.0
  tag_stated (Stopped ended kind ∷ puts) all name is = absurd all.0

  -- ---- a put after others

  module _ (g : Graph) (X : Facts) (before : List Event) (all : AllByRecursion IsPut before) where
    abbrev behind : Facts
    behind = with_facts X (stated.facts before)

    -- one that is legal without them, and is none of them again, is legal after them
    pub follows : (put : Event) → IsPut put → (IsRepeated before put → ⊥) → IsLegal g X put → IsLegal g behind put
    follows (EnvItem address value) is fresh legal = record {
      working = λ i k. neither (X (bad i k)) (among (stated.facts before) (bad i k)) (legal.working i k) (no_fault before all i k);
      event_is_legal = (
        legal.event_is_legal.0,
        λ v by. neither (X (item address v by)) (among (stated.facts before) (item address v by)) (legal.event_is_legal.1 v by)
            (where_never (among (stated.facts before) (item address v by)) (λ there. fresh (of_item before all address v value by there))),
      );
    }
    follows (EnvTag name) is fresh legal = record {
      working = λ i k. neither (X (bad i k)) (among (stated.facts before) (bad i k)) (legal.working i k) (no_fault before all i k);
      event_is_legal = (
        legal.event_is_legal.0,
        neither (X (tag name)) (among (stated.facts before) (tag name)) legal.event_is_legal.1 (where_never (among (stated.facts before) (tag name)) (λ there. fresh (of_tag before all name there))),
      );
    }
    follows (Done ended list) is fresh legal = absurd is
    follows (Stopped ended kind) is fresh legal = absurd is

    -- one that is legal after them is legal without them
    pub legal_alone : (put : Event) → IsPut put → IsLegal g behind put → IsLegal g X put
    legal_alone (EnvItem address value) is legal = record {
      working = λ i k. first_false (X (bad i k)) (among (stated.facts before) (bad i k)) (legal.working i k);
      event_is_legal = (legal.event_is_legal.0, λ v by. first_false (X (item address v by)) (among (stated.facts before) (item address v by)) (legal.event_is_legal.1 v by));
    }
    legal_alone (EnvTag name) is legal = record {
      working = λ i k. first_false (X (bad i k)) (among (stated.facts before) (bad i k)) (legal.working i k);
      event_is_legal = (legal.event_is_legal.0, first_false (X (tag name)) (among (stated.facts before) (tag name)) legal.event_is_legal.1);
    }
    legal_alone (Done ended list) is legal = absurd is
    legal_alone (Stopped ended kind) is legal = absurd is

    -- and is none of them again
    pub is_fresh : (put : Event) → IsPut put → IsLegal g behind put → IsRepeated before put → ⊥
    is_fresh (EnvItem address value) is legal again =
        let there = item_stated before all address value again in
        false≢true (sym (second_false (X (item address there.0 Env)) (among (stated.facts before) (item address there.0 Env)) (legal.event_is_legal.1 there.0 Env)) ∙ there.1)
    is_fresh (EnvTag name) is legal again =
        false≢true (sym (second_false (X (tag name)) (among (stated.facts before) (tag name)) legal.event_is_legal.1) ∙ tag_stated before all name again)
    is_fresh (Done ended list) is legal again = is
    is_fresh (Stopped ended kind) is legal again = is

    -- so both tests together say whether it is legal after them
    pub may_follow : (put : Event) → IsPut put → (IsRepeated before put → ⊥) → (answer : Bool) → MatchBool answer (IsLegal g X put) (IsLegal g X put → ⊥) → MatchBool answer (IsLegal g behind put) (IsLegal g behind put → ⊥)
    may_follow put is fresh true legal = follows put is fresh legal
    may_follow put is fresh false never = λ legal. never (legal_alone put is legal)

-- ---- lists of puts

-- one more that is legal after those before it
pub one_more : AmongBoth → (g : Graph) (X : Facts) (before : List Event) (put : Event) → AreLegalFrom g X before → IsLegal g (with_facts X (stated.facts before)) put → AreLegalFrom g X (before ++ put ∷ [])
one_more both g X [] put legal is = (subst (λ (Y : Facts). IsLegal g Y put) (λ i fact. nothing_more (X fact) i) is, tt)
  where
    nothing_more : (b : Bool) → (b || false) ≡ b
    nothing_more true = refl
    nothing_more false = refl
one_more both g X (event ∷ before) put legal is = (
  legal.0,
  one_more both g (with_facts X (event_facts event)) before put legal.1 (subst (λ (Y : Facts). IsLegal g Y put) (sym (both_added both X (event_facts event) (stated.facts before))) is),
)

-- the last of some legal puts is legal after those before it
pub last_is : AmongBoth → (g : Graph) (X : Facts) (before : List Event) (put : Event) → AreLegalFrom g X (before ++ put ∷ []) → IsLegal g (with_facts X (stated.facts before)) put
last_is both g X before put legal = (legal_in_turn both g X before (put ∷ []) legal).1.0

-- one more of a list
pub up_to : (n : ℕ) (list : List Event) (one : Event) (rest : List Event) → drop n list ≡ one ∷ rest → take (suc n) list ≡ take n list ++ one ∷ []
up_to n [] one rest is = absurd (none n is)
  where
    none : (m : ℕ) → drop m [] ≡ one ∷ rest → ⊥
    none zero same = cc
    none (suc m) same = cc
up_to zero (first ∷ list) one rest is = ap (λ (e : Event). e ∷ []) (same is)
  where
    same : first ∷ list ≡ one ∷ rest → first ≡ one
    same equal = cc
up_to (suc n) (first ∷ list) one rest is = ap (λ (more : List Event). first ∷ more) (up_to n list one rest is)

pub all_before : (n : ℕ) (list : List Event) → AllByRecursion IsPut list → AllByRecursion IsPut (take n list)
all_before zero list all = tt
all_before (suc n) [] all = tt
all_before (suc n) (first ∷ list) all = (all.0, all_before n list all.1)

pub all_behind : (n : ℕ) (list : List Event) → AllByRecursion IsPut list → AllByRecursion IsPut (drop n list)
all_behind zero list all = all
all_behind (suc n) [] all = tt
all_behind (suc n) (first ∷ list) all = all_behind n list all.1

-- ---- how they are taken

-- of the puts, those in `rest` are still to be taken, from this machine
pub record PutsLeft (old : Machine) (puts : List Event) (now : Machine) (rest : List Event) : Type 0 where
  pub goes_on : (new : Machine) → TakesInTurn now rest new → TakesInTurn old puts new
  pub all : AllByRecursion IsPut rest
  pub legal : AreLegalFrom now.graph (facts now) rest
  pub room : HasRoom now (puts_of_all rest)

pub put_taken : RoomInTurn → (old : Machine) (puts : List Event) (now : Machine) (put : Event) (rest : List Event) (next : Machine) → PutsLeft old puts now (put ∷ rest) → Takes now next put → PutsLeft old puts next rest
put_taken in_turn old puts now put rest next left takes = record {
  goes_on = λ new others. left.goes_on new (next, takes, others);
  all = left.all.1;
  legal =
      subst (λ (g : Graph). AreLegalFrom g (facts next) rest) (sym takes.graph)
      (subst (λ (X : Facts). AreLegalFrom now.graph X rest) (λ i fact. sym (takes.facts fact) i) left.legal.1);
  room = (in_turn now put rest left.room).1 next takes;
}

pub all_taken : (old : Machine) (puts : List Event) (now : Machine) (rest : List Event) → rest ≡ [] → PutsLeft old puts now rest → TakesInTurn old puts now
all_taken old puts now rest none left = left.goes_on now (subst (λ (list : List Event). TakesInTurn now list now) (sym none) refl)
