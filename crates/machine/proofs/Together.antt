-- Ends that are new together are legal, each behind those before it; and then the next one is a fault, if it says so or its puts conflict.
use Rattle.std.proofs.Common.{◌≡◌, ◌⊎◌, sym, refl, subst, inl, inr, ℕ, ℤ, zero, suc, ◌≤◌, Bool, true, false, ◌||◌, List, [], ◌∷◌, ◌++◌, length, take, drop, Option, Some, None}
use Rattle.std.proofs.lemmas.Bool.{false≢true}
use Rattle.std.proofs.lemmas.List.{append-nil}
use Rattle.std.specs.List.{AllByRecursion}
use Rattle.std.specs.Ordering.{eq_by_cmp}
use Rattle.terms.specs.declared.name.Inst.{Inst}
use Rattle.terms.specs.declared.fault.FaultKind.{FaultKind}
use Rattle.terms.specs.declared.fault.FaultKind.TheVariants.{DoublePut}
use Rattle.terms.specs.declared.producer.Producer.{Producer}
use Rattle.terms.specs.declared.producer.Producer.TheVariants.{By}
use Rattle.terms.specs.declared.put.Put.{Put}
use Rattle.terms.specs.declared.event.Event.{Event}
use Rattle.terms.specs.declared.event.Event.TheVariants.{EnvItem, EnvTag, Done, Stopped}
use Rattle.terms.specs.Facts.{item, done, bad, put_facts}
use Rattle.terms.specs.Name.{inst_cmp}
use Rattle.terms.specs.PutLists.{PutsEndNothing}
use Rattle.terms.specs.Sets.{Facts, among, with_facts, OneFact}
use Rattle.graph.specs.Graph.{Graph}
use Rattle.graph.specs.Fits.{IsPrescribed, HasNoFault, AreNew}
use Rattle.items.specs.Once.{IsOnceEach, is_one_of}
use Rattle.machine.specs.declared.group.Ended.{Ended}
use Rattle.machine.specs.Group.{AreSaid, EndsTogether, IsDone, StopsAt, StopsNext, ended_by, puts_of_all, stop_at}
use Rattle.machine.specs.Legal.{Conflicts}
use Rattle.machine.specs.Meaning.{BodyFaults}
use Rattle.machine.specs.State.{AreLegalFrom}
use Rattle.machine.specs.Together.{IsFault}
use Rattle.machine.proofs.Grown.{prescribed_within}
use Rattle.machine.proofs.Joined.{in_first_list, in_one_list, in_second_list, twice_first_list, twice_in_one_list, twice_over_both, twice_second_list}
use Rattle.machine.proofs.PutFacts.{item_is_put, put_has_item}
use Rattle.machine.proofs.Sets.{Within, behind_first, not_both, or_left, or_right}

-- an instance that may end over these facts
abbrev pub MayCome : Graph → Facts → Event → Type 0
MayCome g X (EnvItem address value) = ⊥
MayCome g X (EnvTag name) = ⊥
MayCome g X (Done instance puts) = IsPrescribed g X instance × (X (done instance) ≡ false)
MayCome g X (Stopped instance kind) = IsPrescribed g X instance × (X (done instance) ≡ false)

-- the next of these events is this fault: it says so, or its puts and those of the first `n` conflict
abbrev pub StopsSo : Facts → ℕ → FaultKind → List Event → List Event → Type 0
StopsSo X n kind events [] = ⊥
StopsSo X n kind events (next ∷ rest) = IsFault kind next ⊎ (IsDone next × (kind ≡ DoublePut) × Conflicts X (puts_of_all (take (suc n) events)))

abbrev pub Stops : Facts → ℕ → Option FaultKind → List Event → Type 0
Stops X n None events = drop n events ≡ []
Stops X n (Some kind) events = StopsSo X n kind events (drop n events)

none_of_three : (a b c : Bool) → a ≡ false → b ≡ false → c ≡ false → (a || (b || c)) ≡ false
none_of_three true b c one two three = one
none_of_three false true c one two three = two
none_of_three false false c one two three = three

not_true : (b : Bool) → (b ≡ true → ⊥) → b ≡ false
not_true true none = absurd (none refl)
not_true false none = refl

neither : (a b : Bool) → (a || b) ≡ false → (a ≡ false) × (b ≡ false)
neither true b none = absurd (false≢true (sym none))
neither false b none = (refl, none)

module _ (told : OneFact) (ends : PutsEndNothing) (g : Graph) where
  -- ---- after one end of an instance that is done

  module _ (X : Facts) (instance : Inst) (puts : List Put) where
    abbrev after : Facts
    after = with_facts X (done instance ∷ put_facts instance 0 puts)

    stays : Within X after
    stays fact there = or_left (X fact) (among (done instance ∷ put_facts instance 0 puts) fact) there

    still_not_done : (other : Inst) → eq_by_cmp inst_cmp instance other ≡ false → X (done other) ≡ false → after (done other) ≡ false
    still_not_done other apart not_done =
        none_of_three (X (done other)) (eq_by_cmp inst_cmp instance other) (among (put_facts instance 0 puts) (done other)) not_done apart ((ends instance 0 puts).0 other)

    still_working : HasNoFault X → HasNoFault after
    still_working working other kind =
        none_of_three (X (bad other kind)) false (among (put_facts instance 0 puts) (bad other kind)) (working other kind) refl ((ends instance 0 puts).1 other kind)

    -- the others may still end
    others_may_come : (events : List Event) → AllByRecursion (MayCome g X) events → is_one_of instance (ended_by events) ≡ false → AllByRecursion (MayCome g after) events
    others_may_come [] each apart = tt
    others_may_come (EnvItem address value ∷ events) each apart = absurd each.0
    others_may_come (EnvTag name ∷ events) each apart = absurd each.0
    others_may_come (Done other more ∷ events) each apart =
        let parts = neither (eq_by_cmp inst_cmp instance other) (is_one_of instance (ended_by events)) apart in (
          (prescribed_within g X after stays other each.0.0, still_not_done other parts.0 each.0.1),
          others_may_come events each.1 parts.1,
        )
    others_may_come (Stopped other kind ∷ events) each apart =
        let parts = neither (eq_by_cmp inst_cmp instance other) (is_one_of instance (ended_by events)) apart in (
          (prescribed_within g X after stays other each.0.0, still_not_done other parts.0 each.0.1),
          others_may_come events each.1 parts.1,
        )

    -- of puts that are new together, the first are new, and the others are new after them
    first_are_new : (more : List Put) → AreNew X (puts ++ more) → AreNew X puts
    first_are_new more new = record {
      absent = λ address it. new.absent address (in_first_list address puts more it);
      distinct = λ address it. new.distinct address (twice_first_list address puts more it);
    }

    others_are_new : (more : List Put) → AreNew X (puts ++ more) → AreNew after more
    others_are_new more new = record {
      absent = λ address it value by. none_of_three (X (item address value by)) false (among (put_facts instance 0 puts) (item address value by))
          (new.absent address (in_second_list address puts more it) value by) refl
          (not_true (among (put_facts instance 0 puts) (item address value by))
          (λ there. new.distinct address (twice_over_both address puts more (item_is_put told instance 0 puts address value by there).0 it)));
      distinct = λ address it. new.distinct address (twice_second_list address puts more it);
    }

    -- if the first are new and all conflict, the others conflict after them
    others_conflict : (more : List Put) → AreNew X puts → Conflicts X (puts ++ more) → Conflicts after more
    others_conflict more new (address, inl twice) =
        elim (twice_in_one_list address puts more twice) [
          | inl first ↦ absurd (new.distinct address first)
          | inr (inl both) ↦ (address, inr (both.1, it_is_there (put_has_item told instance 0 puts address both.0)))
          | inr (inr later) ↦ (address, inl later)
        ]
      where
        it_is_there : (value : ℤ) × (m : ℕ) × (among (put_facts instance 0 puts) (item address value (By instance m)) ≡ true) → (value : ℤ) × (by : Producer) × (after (item address value by) ≡ true)
        it_is_there it = (
          it.0,
          By instance it.1,
          or_right (X (item address it.0 (By instance it.1))) (among (done instance ∷ put_facts instance 0 puts) (item address it.0 (By instance it.1)))
              (behind_first told (done instance) (put_facts instance 0 puts) (item address it.0 (By instance it.1)) it.2),
        )
    others_conflict more new (address, inr it) =
        elim (in_one_list address puts more it.0) [
          | inl first ↦ not_both (X (item address it.1.0 it.1.1)) it.1.2 (new.absent address first it.1.0 it.1.1)
          | inr later ↦ (address, inr (later, (it.1.0, it.1.1, stays (item address it.1.0 it.1.1) it.1.2)))
        ]

  -- ---- one behind another

  next_is_legal : (X : Facts) (stopped : Option FaultKind) (events : List Event) → HasNoFault X → AllByRecursion (MayCome g X) events → AreSaid g X events → Stops X 0 stopped events → AreLegalFrom g X (stop_at stopped events)
  next_is_legal X None events working each said stops = tt
  next_is_legal X (Some kind) [] working each said stops = tt
  next_is_legal X (Some kind) (EnvItem address value ∷ rest) working each said stops = absurd each.0
  next_is_legal X (Some kind) (EnvTag name ∷ rest) working each said stops = absurd each.0
  next_is_legal X (Some kind) (Done instance puts ∷ rest) working each said (inl says) = absurd says
  next_is_legal X (Some kind) (Done instance puts ∷ rest) working each said (inr it) =
      let conflict = subst (Conflicts X) (append-nil puts) it.2 in
      (record { working = working; event_is_legal = (each.0.0, each.0.1, inr (it.1, (puts, said.0, conflict))) }, tt)
  next_is_legal X (Some kind) (Stopped instance own ∷ rest) working each said (inl says) =
      (record { working = working; event_is_legal = (each.0.0, each.0.1, inl (subst (λ (k : FaultKind). BodyFaults g X instance k) (sym says) said.0)) }, tt)
  next_is_legal X (Some kind) (Stopped instance own ∷ rest) working each said (inr it) = absurd it.0

  pub legal_cut : (X : Facts) (n : ℕ) (stopped : Option FaultKind) (events : List Event) → HasNoFault X → AllByRecursion (MayCome g X) events → AreSaid g X events → IsOnceEach (ended_by events)
      → AllByRecursion IsDone (take n events) → AreNew X (puts_of_all (take n events)) → Stops X n stopped events → AreLegalFrom g X (take n events ++ stop_at stopped (drop n events))
  legal_cut X zero stopped events working each said once all new stops = next_is_legal X stopped events working each said stops
  legal_cut X (suc n) stopped [] working each said once all new stops = next_is_legal X stopped [] working tt tt (at_end stopped stops)
    where
      at_end : (s : Option FaultKind) → Stops X (suc n) s [] → Stops X 0 s []
      at_end None it = it
      at_end (Some kind) it = it
  legal_cut X (suc n) stopped (EnvItem address value ∷ events) working each said once all new stops = absurd each.0
  legal_cut X (suc n) stopped (EnvTag name ∷ events) working each said once all new stops = absurd each.0
  legal_cut X (suc n) stopped (Stopped instance kind ∷ events) working each said once all new stops = absurd all.0
  legal_cut X (suc n) stopped (Done instance puts ∷ events) working each said once all new stops =
      let more = puts_of_all (take n events) in
      let first = first_are_new X instance puts more new in (
        record { working = working; event_is_legal = (each.0.0, each.0.1, said.0, first) },
        legal_cut (after X instance puts) n stopped events (still_working X instance puts working) (others_may_come X instance puts events each.1 once.0) said.1 once.1 all.1
            (others_are_new X instance puts more new) (later stopped stops),
      )
    where
      later_so : (kind : FaultKind) (rest : List Event) → AreNew X puts → StopsSo X (suc n) kind (Done instance puts ∷ events) rest → StopsSo (after X instance puts) n kind events rest
      later_so kind [] first it = it
      later_so kind (next ∷ rest) first (inl says) = inl says
      later_so kind (next ∷ rest) first (inr it) = inr (it.0, it.1, others_conflict X instance puts (puts_of_all (take (suc n) events)) first it.2)

      later : (s : Option FaultKind) → Stops X (suc n) s (Done instance puts ∷ events) → Stops (after X instance puts) n s events
      later None it = it
      later (Some kind) it = later_so kind (drop n events) (first_are_new X instance puts (puts_of_all (take n events)) new) it

-- ---- the answer

stops_next : (X : Facts) (n : ℕ) (kind : FaultKind) (events rest : List Event) → StopsSo X n kind events rest → StopsNext kind rest
stops_next X n kind events [] it = it
stops_next X n kind events (EnvItem address value ∷ rest) (inl says) = says
stops_next X n kind events (EnvItem address value ∷ rest) (inr it) = it.0
stops_next X n kind events (EnvTag name ∷ rest) (inl says) = says
stops_next X n kind events (EnvTag name ∷ rest) (inr it) = it.0
stops_next X n kind events (Done instance puts ∷ rest) (inl says) = absurd says
stops_next X n kind events (Done instance puts ∷ rest) (inr it) = it.1
stops_next X n kind events (Stopped instance own ∷ rest) (inl says) = says
stops_next X n kind events (Stopped instance own ∷ rest) (inr it) = absurd it.0

stops_at : (X : Facts) (n : ℕ) (stopped : Option FaultKind) (events : List Event) → Stops X n stopped events → StopsAt stopped (drop n events)
stops_at X n None events it = it
stops_at X n (Some kind) events it = stops_next X n kind events (drop n events) it

pub ends_together : OneFact → PutsEndNothing → (g : Graph) (X : Facts) (events : List Event) (ended : Ended) → HasNoFault X → AllByRecursion (MayCome g X) events → AreSaid g X events → IsOnceEach (ended_by events)
    → ended.done ≤ length events → AllByRecursion IsDone (take ended.done events) → AreNew X (puts_of_all (take ended.done events)) → Stops X ended.done ended.stopped events
    → EndsTogether g X events ended
ends_together told ends g X events ended working each said once within all new stops = record {
  within = within;
  done = all;
  stops = stops_at X ended.done ended.stopped events stops;
  legal = legal_cut told ends g X ended.done ended.stopped events working each said once all new stops;
}
