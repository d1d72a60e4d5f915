-- The outcomes of a batch, as ends of instances that run.
use Rattle.std.proofs.Common.{◌≡◌, ◌∙◌, ◌++◌, ◌<◌, ap, refl, sym, subst, ℕ, zero, suc, List, [], ◌∷◌, drop, length, slice_get, IsSome, Some, arith, rules}
use Rattle.std.proofs.lemmas.List.{append_assoc, append-nil, length-append}
use Rattle.std.proofs.lemmas.Option.{get_or_from_slice_get, slice_get_within}
use Rattle.std.specs.List.{AllByRecursion}
use Rattle.terms.specs.declared.name.Inst.{Inst}
use Rattle.terms.specs.declared.event.Event.{Event}
use Rattle.terms.specs.declared.event.Event.TheVariants as event
use Rattle.terms.specs.Facts.{event_facts}
use Rattle.terms.specs.Sets.{Facts, with_facts}
use Rattle.steptree.specs.Bodies.{Along, Faults, Gives}
use Rattle.graph.specs.Graph.{Graph}
use Rattle.items.specs.Once.{IsOnceEach}
use Rattle.instances.specs.declared.state.State.TheVariants.{Running}
use Rattle.machine.specs.Group.{AreEndsHere, AreRunning, AreSaid, EndsRunning, IsSaid, ended_by}
use Rattle.machine.specs.Machine.{Machine, facts, state_of}
use Rattle.machine.specs.Results.{FaultsAlong, GivesAlong}
use Rattle.commit.specs.declared.outcome.Outcome.{Outcome}
use Rattle.commit.specs.declared.outcome.Outcome.TheVariants.{Gave, Fault}
use Rattle.commit.specs.Came.{IsOutcomeIn}
use Rattle.commit.specs.Batch.{HaveOutcomes, end_said, ends_by}
use Rattle.machine.proofs.Woken.{left_at}

-- each end is of the instance at its place, and there are as many
pub ended_are : (g : Graph) (X : Facts) (tasks : List Inst) (outcomes : List Outcome) → HaveOutcomes g X tasks outcomes → ended_by (ends_by tasks outcomes) ≡ tasks
ended_are g X [] [] have = refl
ended_are g X [] (outcome ∷ outcomes) have = absurd have
ended_are g X (task ∷ tasks) [] have = absurd have
ended_are g X (task ∷ tasks) (Gave given ∷ outcomes) have = ap (λ (rest : List Inst). task ∷ rest) (ended_are g (with_facts X (event_facts (end_said task (Gave given)))) tasks outcomes have.1)
ended_are g X (task ∷ tasks) (Fault bad ∷ outcomes) have = ap (λ (rest : List Inst). task ∷ rest) (ended_are g (with_facts X (event_facts (end_said task (Fault bad)))) tasks outcomes have.1)

pub as_many : (g : Graph) (X : Facts) (tasks : List Inst) (outcomes : List Outcome) → HaveOutcomes g X tasks outcomes → length (ends_by tasks outcomes) ≡ length tasks
as_many g X [] [] have = refl
as_many g X [] (outcome ∷ outcomes) have = absurd have
as_many g X (task ∷ tasks) [] have = absurd have
as_many g X (task ∷ tasks) (outcome ∷ outcomes) have = ap (λ n. suc n) (as_many g (with_facts X (event_facts (end_said task outcome))) tasks outcomes have.1)

-- so there are if each instance has an outcome
pub many_said : (tasks : List Inst) (outcomes : List Outcome) → length outcomes ≡ length tasks → length (ends_by tasks outcomes) ≡ length tasks
many_said [] outcomes even = refl
many_said (task ∷ tasks) [] even = absurd (omega (arith, even))
many_said (task ∷ tasks) (outcome ∷ outcomes) even = ap (λ n. suc n) (many_said tasks outcomes (omega (arith, even)))

-- what an outcome of an instance that runs says ends that instance
ends_running : (m : Machine) (task : Inst) (outcome : Outcome) → state_of m task ≡ Some Running → EndsRunning m (end_said task outcome)
ends_running m task (Gave given) runs = runs
ends_running m task (Fault bad) runs = runs

all_end_running : (m : Machine) (tasks : List Inst) (outcomes : List Outcome) → AllByRecursion (λ task. state_of m task ≡ Some Running) tasks → AllByRecursion (EndsRunning m) (ends_by tasks outcomes)
all_end_running m [] outcomes run = tt
all_end_running m (task ∷ tasks) [] run = tt
all_end_running m (task ∷ tasks) (outcome ∷ outcomes) run = (ends_running m task outcome run.0, all_end_running m tasks outcomes run.1)

module _ (gives : GivesAlong) (faults : FaultsAlong) (m : Machine) where
  -- an outcome says what the body says
  said : (X : Facts) (task : Inst) (outcome : Outcome) → IsOutcomeIn m.graph X task outcome → IsSaid m.graph X (end_said task outcome)
  said X task (Gave given) of = gives m.graph X task given.checked.now.body given.reads given.puts of.1 of.2 (subst (λ (i : Inst). Along given.checked.now.body i.key given.reads (Gives given.puts)) of.0 given.along)
  said X task (Fault bad) of = faults m.graph X task bad.checked.now.body bad.reads bad.kind of.1 of.2 (subst (λ (i : Inst). Along bad.checked.now.body i.key bad.reads (Faults bad.kind)) of.0 bad.along)

  all_said : (X : Facts) (tasks : List Inst) (outcomes : List Outcome) → HaveOutcomes m.graph X tasks outcomes → AreSaid m.graph X (ends_by tasks outcomes)
  all_said X [] [] have = tt
  all_said X [] (outcome ∷ outcomes) have = absurd have
  all_said X (task ∷ tasks) [] have = absurd have
  all_said X (task ∷ tasks) (outcome ∷ outcomes) have = (said X task outcome have.0, all_said (with_facts X (event_facts (end_said task outcome))) tasks outcomes have.1)

  -- what outcomes of instances that run say are ends of these instances
  pub are_ends_here : (tasks : List Inst) (outcomes : List Outcome) → AreRunning m tasks → HaveOutcomes m.graph (facts m) tasks outcomes → AreEndsHere m (ends_by tasks outcomes)
  are_ends_here tasks outcomes running have = record {
    each = all_end_running m tasks outcomes running.each;
    said = all_said (facts m) tasks outcomes have;
    once = subst IsOnceEach (sym (ended_are m.graph (facts m) tasks outcomes have)) running.once;
  }

-- the instances of ends that may come run here
each_runs : (m : Machine) (events : List Event) → AllByRecursion (EndsRunning m) events → AllByRecursion (λ instance. state_of m instance ≡ Some Running) (ended_by events)
each_runs m [] all = tt
each_runs m (event.EnvItem address value ∷ events) all = absurd all.0
each_runs m (event.EnvTag name ∷ events) all = absurd all.0
each_runs m (event.Done instance puts ∷ events) all = (all.0, each_runs m events all.1)
each_runs m (event.Stopped instance kind ∷ events) all = (all.0, each_runs m events all.1)

pub all_run : (m : Machine) (events : List Event) (tasks : List Inst) → ended_by events ≡ tasks → AreEndsHere m events → AreRunning m tasks
all_run m events tasks are here = subst (λ (list : List Inst). AreRunning m list) are (record { each = each_runs m events here.each; once = here.once })

-- there are as many of them as there are ends
many : (m : Machine) (events : List Event) → AllByRecursion (EndsRunning m) events → length events ≡ length (ended_by events)
many m [] all = refl
many m (event.EnvItem address value ∷ events) all = absurd all.0
many m (event.EnvTag name ∷ events) all = absurd all.0
many m (event.Done instance puts ∷ events) all = ap (λ n. suc n) (many m events all.1)
many m (event.Stopped instance kind ∷ events) all = ap (λ n. suc n) (many m events all.1)

pub as_many_instances : (m : Machine) (events : List Event) (tasks : List Inst) → ended_by events ≡ tasks → AreEndsHere m events → length events ≡ length tasks
as_many_instances m events tasks are here = many m events here.each ∙ ap length are

-- ---- ends that are made one after another

-- the next outcome, as the end behind those that were made
pub one_more : (tasks : List Inst) (made : List Event) (task : Inst) (outcome : Outcome) (left : List Outcome) → slice_get tasks (length made) ≡ Some task
    → (made ++ end_said task outcome ∷ []) ++ ends_by (drop (length (made ++ end_said task outcome ∷ [])) tasks) left ≡ made ++ ends_by (drop (length made) tasks) (outcome ∷ left)
one_more tasks made task outcome left is =
    let within = slice_get_within tasks (length made) task is in
    let here : drop (length made) tasks ≡ task ∷ drop (suc (length made)) tasks = left_at (length made) tasks task within (sym (get_or_from_slice_get tasks (length made) task task is)) in
    let counted : length (made ++ end_said task outcome ∷ []) ≡ suc (length made) = length-append made (end_said task outcome ∷ []) ∙ omega arith in
    append_assoc made (end_said task outcome ∷ []) (ends_by (drop (length (made ++ end_said task outcome ∷ [])) tasks) left)
    ∙ ap (λ n. made ++ end_said task outcome ∷ ends_by (drop n tasks) left) counted
    ∙ ap (λ (list : List Inst). made ++ ends_by list (outcome ∷ left)) (sym here)

-- at the end all are made
pub none_left : (tasks : List Inst) (made : List Event) (left : List Outcome) → left ≡ [] → made ++ ends_by (drop (length made) tasks) left ≡ made
none_left tasks made left none = ap (λ (list : List Outcome). made ++ ends_by (drop (length made) tasks) list) none ∙ ap (λ (list : List Event). made ++ list) (nothing (drop (length made) tasks)) ∙ append-nil made
  where
    nothing : (list : List Inst) → ends_by list [] ≡ []
    nothing [] = refl
    nothing (task ∷ list) = refl

-- there is an instance at each place within the list
pub some_at : (tasks : List Inst) (number : ℕ) → number < length tasks → IsSome (slice_get tasks number)
some_at [] number within = absurd (omega (arith, within))
some_at (task ∷ tasks) zero within = search rules
some_at (task ∷ tasks) (suc number) within = some_at tasks number (omega (arith, within))

-- a list without a length has no element
pub empty : (outcomes : List Outcome) → length outcomes ≡ 0 → outcomes ≡ []
empty [] none = refl
empty (outcome ∷ outcomes) none = absurd (omega (arith, none))
