-- Instances are given back one after another.
use Rattle.std.proofs.Common.{◌≡◌, ◌∙◌, ◌+◌, ◌⊎◌, ◌≤◌, sym, refl, subst, inl, inr, ℕ, suc, false, List, [], ◌∷◌, length, arith}
use Rattle.std.proofs.lemmas.Bool.{or_parts}
use Rattle.std.proofs.lemmas.List.Elements.{Contains-append_cases, Contains-append_left, Contains-append_right, Contains-push, Contains-push_cases}
use Rattle.std.specs.Cmp.{IsTotalOrder}
use Rattle.std.specs.FinMap.{IsAntisymmetric}
use Rattle.std.specs.List.{Contains}
use Rattle.std.specs.Ordering.{eq_by_cmp}
use Rattle.terms.specs.declared.name.Inst.{Inst}
use Rattle.terms.specs.Name.{inst_cmp}
use Rattle.items.specs.Once.{is_one_of}
use Rattle.instances.specs.declared.state.State.TheVariants.{Ready}
use Rattle.machine.specs.Group.{AreRunning, GivesAllBack}
use Rattle.machine.specs.Machine.{Machine, Moves, item_room, running_count, tag_room}
use Rattle.machine.proofs.StillRunning.{apart, one_given_back, still_running}

-- nothing is in an empty list
none_there : (other : Inst) → Contains [] other → ⊥
none_there other is = absurd (omega (arith, is.1))

-- what is in a list is its first element, or in its rest
front_or_behind : (first : Inst) (others : List Inst) (other : Inst) → Contains (first ∷ others) other → (first ≡ other) ⊎ Contains others other
front_or_behind first others other is = elim (Contains-append_cases (first ∷ []) others other is) [
  | inl front ↦ elim (Contains-push_cases [] first other front) [ inl none ↦ absurd (none_there other none) | inr same ↦ inl same ]
  | inr behind ↦ inr behind
]

there_in_front : (first : Inst) (others : List Inst) → Contains (first ∷ others) first
there_in_front first others = Contains-append_left (first ∷ []) others first (Contains-push [] first)

there_behind : (first : Inst) (others : List Inst) (other : Inst) → Contains others other → Contains (first ∷ others) other
there_behind first others other is = Contains-append_right (first ∷ []) others other is

-- Of the instances, those in `left` are still to be given back, from this machine.
pub record AreGivenBack (old : Machine) (instances : List Inst) (now : Machine) (left : List Inst) : Type 0 where
  pub goes_on : (new : Machine) → GivesAllBack now new left → GivesAllBack old new instances
  pub running : AreRunning now left
  pub counted : running_count now + length instances ≤ running_count old + length left

pub none_given_back : (old : Machine) (instances : List Inst) → AreRunning old instances → AreGivenBack old instances old instances
none_given_back old instances running = record { goes_on = λ new all. all; running = running; counted = omega arith }

counted_on : (next now old all rest : ℕ) → now + all ≤ old + suc rest → next + 1 ≤ now → next + all ≤ old + rest
counted_on next now old all rest so_far one = omega (arith, so_far, one)

module _ (total : IsTotalOrder inst_cmp) (tie : IsAntisymmetric inst_cmp) where
  not_there : (one : Inst) (list : List Inst) → is_one_of one list ≡ false → Contains list one → ⊥
  not_there one [] absent is = none_there one is
  not_there one (first ∷ others) absent is =
      let parts = or_parts (eq_by_cmp inst_cmp one first) (is_one_of one others) absent in
      elim (front_or_behind first others one is) [ inl same ↦ apart total tie one first parts.0 same | inr behind ↦ not_there one others parts.1 behind ]

  -- one is given back, and then the others
  both_given_back : (old next new : Machine) (task : Inst) (left : List Inst) → is_one_of task left ≡ false → Moves old next task Ready → GivesAllBack next new left → GivesAllBack old new (task ∷ left)
  both_given_back old next new task left absent moves later = record {
    graph = later.graph ∙ moves.graph;
    facts = λ fact. later.facts fact ∙ moves.facts fact;
    environment = λ fact. later.environment fact ∙ moves.environment fact;
    ready = (later.others task (not_there task left absent) ∙ moves.here, later.ready);
    others = λ other none.
        later.others other (λ behind. none (there_behind task left other behind))
        ∙ moves.others other (λ same. none (subst (Contains (task ∷ left)) (sym same) (there_in_front task left)));
    item_room = λ collection. subst (λ (r : ℕ). r ≤ item_room new collection) (moves.item_room collection) (later.item_room collection);
    tag_room = λ collection. subst (λ (r : ℕ). r ≤ tag_room new collection) (moves.tag_room collection) (later.tag_room collection);
  }

  pub given_back_on : (old : Machine) (instances : List Inst) (now next : Machine) (before left : List Inst) (task : Inst)
      → before ≡ task ∷ left → AreGivenBack old instances now before → Moves now next task Ready → AreGivenBack old instances next left
  given_back_on old instances now next before left task is given moves =
      let here : AreGivenBack old instances now (task ∷ left) = subst (AreGivenBack old instances now) is given in record {
        goes_on = λ new later. here.goes_on new (both_given_back now next new task left here.running.once.0 moves later);
        running = still_running total tie now next task left (λ other differs runs. moves.others other differs ∙ runs) here.running;
        counted = counted_on (running_count next) (running_count now) (running_count old) (length instances) (length left) here.counted (one_given_back now next task here.running.each.0 moves);
      }

not_less : (n : ℕ) → n ≤ n
not_less n = omega arith

-- nothing is given back, and nothing changes
nothing_given_back : (m : Machine) → GivesAllBack m m []
nothing_given_back m = record { graph = refl; facts = λ fact. refl; environment = λ fact. refl; ready = tt; others = λ other none. refl; item_room = λ collection. not_less (item_room m collection); tag_room = λ collection. not_less (tag_room m collection) }

pub all_given_back : (old new : Machine) (instances left : List Inst) → left ≡ [] → AreGivenBack old instances new left
    → GivesAllBack old new instances × (running_count new + length instances ≤ running_count old)
all_given_back old new instances left none given =
    let at_last : AreGivenBack old instances new [] = subst (AreGivenBack old instances new) none given in
    (at_last.goes_on new (nothing_given_back new), omega (arith, at_last.counted))
