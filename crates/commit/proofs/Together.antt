-- Several ends that are committed as one: after room was made, and as a run by itself.
use Rattle.disk.specs.Storage.{Leaves}
use Rattle.disk.specs.declared.storage.Disk.{Ghosts}
use Rattle.disk.specs.declared.side.Side.{Side}
use Rattle.std.proofs.Common.{◌≡◌, ◌∙◌, ◌<◌, ◌≤◌, ◌+◌, ◌++◌, ◌||◌, ap, sym, refl, subst, inl, inr, ℕ, Bool, true, false, List, [], ◌∷◌, length, Result, Ok, Err, IfOk, IfErr, OnErr, Some, arith, IsTrue}
use Rattle.std.proofs.lemmas.Bool.{false≢true}
use Rattle.std.proofs.lemmas.List.{append-nil}
use Rattle.std.specs.List.{AllByRecursion}
use Rattle.terms.specs.declared.name.Inst.{Inst}
use Rattle.terms.specs.declared.event.Event.{Event}
use Rattle.terms.specs.declared.event.Event.TheVariants as event
use Rattle.terms.specs.Commits.{Commit, environment_behind, facts_behind}
use Rattle.terms.specs.Facts.{Fact, event_facts, environment_facts}
use Rattle.terms.specs.Facts as stated
use Rattle.terms.specs.Sets.{Facts, among, with_facts}
use Rattle.graph.specs.Graph.{Graph}
use Rattle.graph.specs.Fits.{HasNoFault}
use Rattle.journal.specs.declared.journal.TheConstants.{LIMIT}
use Rattle.machine.specs.declared.group.Ended.{Ended}
use Rattle.machine.specs.declared.refusal.Refusal.{Refusal}
use Rattle.instances.specs.declared.state.State.TheVariants.{Running}
use Rattle.machine.specs.Group.{AreEndedBy, AreEndsHere, AreRunning, EndsTogether, GivesAllBack, TakesInTurn, cut, ended_by}
use Rattle.machine.specs.GroupLaws.{AddsAllFacts, CutIsOfEnds, TakenInTurn}
use Rattle.machine.specs.Machine.{Ends, GoesOn, Machine, RefusesEnd, Takes, state_of}
use Rattle.machine.specs.Memory as memory
use Rattle.machine.specs.State.{AreLegalFrom}
use Rattle.vault.specs.declared.vault.Vault.{Vault}
use Rattle.vault.specs.declared.error.VaultError.{VaultError}
use Rattle.vault.specs.declared.error.VaultError.TheVariants.{Device, NoMemory, Damaged, Full, NotAStore, Halted, Exists}
use Rattle.vault.specs.Calls.{IsOfCall}
use Rattle.vault.specs.Commits.{AppendLeaves, GatesRest, HeldLeaves, RestLeaves, StandsForBeginning}
use Rattle.vault.specs.Stands.{Stands}
use Rattle.vault.specs.Store.{StandsBeforeOrAfter}
use Rattle.commit.specs.declared.error.CoreError.{CoreError}
use Rattle.commit.specs.declared.error.CoreError.TheVariants.{Refused, Store}
use Rattle.commit.specs.Batch.{AllRun, EndsAsAnswered, FinishesAll, GivesBackAll, RefusesAll, RefusesAllFirst, TakesAll, TellsFullAll}
use Rattle.commit.specs.Calls.{AreInDoubt, AreTooLong, CrashLeaves, Halts, commit_length}
use Rattle.commit.specs.Core.{Core, environment, facts, graph, is_halted}
use Rattle.commit.specs.Kept.{IsKept}
use Rattle.commit.specs.Room.{GivesRoom}
use Rattle.commit.specs.Runs.{AcknowledgesFrom, IsEnd, Runs, in_one}
use Rattle.commit.proofs.Lists.{given_by_ends, with_nothing}
use Rattle.commit.proofs.Putting.{halted_still}
use Rattle.commit.proofs.Roomy.{moments as moments_before, rests as rests_before, unhalted}
use Rattle.commit.proofs.Running.{rests, with_record}

-- ---- the ends

is_end : (end : Event) (task : Inst) → Ends end task → IsEnd end
is_end (event.EnvItem address value) task ends = absurd ends
is_end (event.EnvTag name) task ends = absurd ends
is_end (event.Done ended puts) task ends = tt
is_end (event.Stopped ended kind) task ends = tt

-- events that end instances are ends
pub all_end : (events : List Event) (tasks : List Inst) → AreEndedBy events tasks → AllByRecursion IsEnd events
all_end [] tasks ended = tt
all_end (event ∷ events) [] ended = absurd ended
all_end (event ∷ events) (task ∷ tasks) ended = (is_end event task ended.0, all_end events tasks ended.1)

-- the first of some legal events finds no fault
pub no_fault : (g : Graph) (X : Facts) (events : List Event) → 1 ≤ length events → AreLegalFrom g X events → HasNoFault X
no_fault g X [] some legal = absurd (omega (arith, some))
no_fault g X (event ∷ events) some legal = legal.0.working

-- ---- after room was made

-- where nothing has changed, there is as much room
pub no_room : {D : Type 0} (old new : Core D) → new ≡ old → GivesRoom old new
no_room {D} old new same = subst (λ (c : Core D). GivesRoom old c) (sym same) (record {
  machine = record { graph = refl; facts = λ _. refl; environment = λ _. refl; states = λ _. refl; legal = λ event legal. legal; item_room = λ c. omega arith; tag_room = λ c. omega arith };
  vault = refl;
  in_doubt = refl;
  latest = refl;
  allowance = refl;
})

module _ {D : Type 0} (old mid : Core D) (room : GivesRoom old mid) where
  sets : facts mid ≡ facts old
  sets = λ i fact. room.machine.facts fact i

  pub halted : is_halted mid ≡ is_halted old
  halted = ap (λ (v : Vault D). v.halted) room.vault

  -- what ran runs
  pub run_after : (tasks : List Inst) → AreRunning old.machine tasks → AreRunning mid.machine tasks
  run_after tasks running = record { each = each tasks running.each; once = running.once }
    where
      each : (list : List Inst) → AllByRecursion (λ instance. state_of old.machine instance ≡ Some Running) list → AllByRecursion (λ instance. state_of mid.machine instance ≡ Some Running) list
      each [] all = tt
      each (instance ∷ list) all = (room.machine.states instance ∙ all.0, each list all.1)

  -- what was legal is
  pub legal_after : (events : List Event) → AreLegalFrom (graph old) (facts old) events → AreLegalFrom (graph mid) (facts mid) events
  legal_after events legal = subst (λ (X : Facts). AreLegalFrom (graph mid) X events) (sym sets) (subst (λ (g : Graph). AreLegalFrom g (facts old) events) (sym room.machine.graph) legal)

  takes_one : (m : Machine) (event : Event) → Takes mid.machine m event → Takes old.machine m event
  takes_one m event it = record {
    graph = it.graph ∙ room.machine.graph;
    facts = λ fact. it.facts fact ∙ ap (λ b. b || among (event_facts event) fact) (room.machine.facts fact);
    environment = λ fact. it.environment fact ∙ ap (λ b. b || among (environment_facts event) fact) (room.machine.environment fact);
    states = λ i other. subst (λ s. GoesOn (memory.facts_of m.memory) s (state_of m i)) (room.machine.states i) (it.states i other);
    ends = it.ends;
    item_room = λ c. omega (arith, room.machine.item_room c, it.item_room c);
    tag_room = λ c. omega (arith, room.machine.tag_room c, it.tag_room c);
  }

  pub takes_in_turn : (m : Machine) (commit : Commit) → 1 ≤ length commit → TakesInTurn mid.machine commit m → TakesInTurn old.machine commit m
  takes_in_turn m [] some turn = absurd (omega (arith, some))
  takes_in_turn m (event ∷ events) some turn = (turn.0, takes_one turn.0 event turn.1, turn.2)

  pub takes_all : (new : Core D) (tasks : List Inst) (commit : Commit) → 1 ≤ length commit → TakesAll mid new tasks commit → TakesAll old new tasks commit
  takes_all new tasks commit some it = record {
    mid = it.mid;
    takes = takes_in_turn it.mid commit some it.takes;
    rest = it.rest;
    working = (sym halted ∙ it.working.0, it.working.1);
    moved = it.moved ∙ ap (λ (v : Vault D). v.journal.end + commit_length commit) room.vault;
    latest = it.latest;
    allowance = it.allowance ∙ room.allowance;
    generation = it.generation ∙ ap (λ (v : Vault D). v.generation) room.vault;
  }

  pub too_long : (commit : Commit) → AreTooLong mid commit → AreTooLong old commit
  too_long commit long = subst (λ (v : Vault D). LIMIT ≤ v.journal.end + commit_length commit) room.vault long

  pub too_long_then : (commit : Commit) → AreTooLong old commit → AreTooLong mid commit
  too_long_then commit long = subst (λ (v : Vault D). LIMIT ≤ v.journal.end + commit_length commit) (sym room.vault) long

  pub refuses : (commit : Commit) (error : CoreError) → RefusesAll mid commit error → RefusesAll old commit error
  refuses commit (Refused refusal) it = (sym halted ∙ it.0, subst (λ (X : Facts). RefusesEnd X refusal) sets it.1)
  refuses commit (Store Halted) it = sym halted ∙ it
  refuses commit (Store Full) it = (sym halted ∙ it.0, it.1, too_long commit it.2)
  refuses commit (Store Device) it = (sym halted ∙ it.0, it.1)
  refuses commit (Store NoMemory) it = (sym halted ∙ it.0, subst (λ (X : Facts). HasNoFault X) sets it.1)
  refuses commit (Store (Damaged side place)) it = absurd it
  refuses commit (Store NotAStore) it = absurd it
  refuses commit (Store Exists) it = absurd it

  gives_all_back : (m : Machine) (tasks : List Inst) → GivesAllBack mid.machine m tasks → GivesAllBack old.machine m tasks
  gives_all_back m tasks it = record {
    graph = it.graph ∙ room.machine.graph;
    facts = λ fact. it.facts fact ∙ room.machine.facts fact;
    environment = λ fact. it.environment fact ∙ room.machine.environment fact;
    ready = it.ready;
    others = λ other none. it.others other none ∙ room.machine.states other;
    item_room = λ c. omega (arith, room.machine.item_room c, it.item_room c);
    tag_room = λ c. omega (arith, room.machine.tag_room c, it.tag_room c);
  }

  pub gives_back : (new : Core D) (tasks : List Inst) → GivesBackAll mid new tasks → GivesBackAll old new tasks
  gives_back new tasks it = record {
    stays = record {
      graph = it.stays.graph ∙ room.machine.graph;
      facts = λ fact. it.stays.facts fact ∙ room.machine.facts fact;
      environment = λ fact. it.stays.environment fact ∙ room.machine.environment fact;
      allowance = it.stays.allowance ∙ room.allowance;
      latest = it.stays.latest ∙ room.latest;
    };
    machine = gives_all_back new.machine tasks it.machine;
  }

  module _ (storage : Ghosts D) (new : Core D) (tasks : List Inst) (ends : List Event) where
    -- the ends were looked at, and what comes of them was tried
    abbrev pub finishes : (ended : Ended) (commit : Commit) (result : Result Ended CoreError) → EndsTogether (graph old) (facts old) ends ended → commit ≡ cut ended ends → 1 ≤ length commit
        → IfOk result (λ answer. (answer ≡ ended) × TakesAll mid new tasks commit) → IfErr result (RefusesAll mid commit) → TellsFullAll mid commit result
        → AreInDoubt mid new commit result → (IsTrue storage.is_honest → CrashLeaves storage mid new commit) → FinishesAll storage old new tasks ends result
    finishes ended commit (Ok answer) together is some ok refused full doubt moments = record {
      commit = commit;
      tried = inr (ended, together, is);
      answered = subst (λ (a : Ended). EndsAsAnswered old new tasks ends commit a) (sym ok.0) (record { together = together; commit_is = is; takes = takes_all new tasks commit some ok.1 });
      refused = tt;
      full = λ more long. full more (too_long_then commit long);
      doubt = (tt, tt);
      moments = λ on working. moments_before old mid room storage new commit (moments on);
    }
    finishes ended commit (Err error) together is some ok refused full doubt moments = record {
      commit = commit;
      tried = inr (ended, together, is);
      answered = tt;
      refused = refuses commit error refused;
      full = λ more long. full more (too_long_then commit long);
      doubt = (λ working stops. doubt (halted ∙ working) stops, λ working stops. some);
      moments = λ on working. moments_before old mid room storage new commit (moments on);
    }

    -- what was tried is within the allowance, if there are no more instances than that
    pub tried_within : (ended : Ended) (commit : Commit) (result : Result Ended CoreError) (together : EndsTogether (graph old) (facts old) ends ended) (is : commit ≡ cut ended ends) (some : 1 ≤ length commit)
        (ok : IfOk result (λ answer. (answer ≡ ended) × TakesAll mid new tasks commit)) (why : IfErr result (RefusesAll mid commit)) (full : TellsFullAll mid commit result)
        (doubt : AreInDoubt mid new commit result) (moments : IsTrue storage.is_honest → CrashLeaves storage mid new commit) → length commit ≤ length ends → length ends ≡ length tasks → OnErr result (length tasks ≤ mid.allowance)
        → OnErr result (length (finishes ended commit result together is some ok why full doubt moments).commit ≤ old.allowance)
    tried_within ended commit (Ok answer) together is some ok why full doubt moments few counted within = tt
    tried_within ended commit (Err error) together is some ok why full doubt moments few counted within = omega (arith, few, counted, within, room.allowance)

    -- an error came before that
    abbrev pub refused_first : (error : CoreError) → RefusesAllFirst old error → new.vault ≡ mid.vault → (IsTrue storage.is_honest → HeldLeaves storage) → (IsTrue storage.is_honest → GatesRest storage) → (IsTrue storage.is_honest → IsKept storage.files old)
        → FinishesAll storage old new tasks ends (Err error)
    refused_first error it vault held gates kept = record {
      commit = [];
      tried = inl refl;
      answered = tt;
      refused = why error it;
      full = λ more. absurd (omega (arith, more));
      doubt = (λ working stops. absurd (false≢true (sym working ∙ sym halted ∙ ap (λ (v : Vault D). v.halted) (sym vault) ∙ stops)), λ working stops. absurd (false≢true (sym working ∙ sym halted ∙ ap (λ (v : Vault D). v.halted) (sym vault) ∙ stops)));
      moments = λ on working. rests_before storage old new [] (held on) (gates on) (kept on) working (vault ∙ room.vault);
    }
      where
        why : (e : CoreError) → RefusesAllFirst old e → RefusesAll old [] e
        why (Refused refusal) is = is
        why (Store Halted) is = is
        why (Store NoMemory) is = is
        why (Store Full) is = absurd is
        why (Store Device) is = absurd is
        why (Store (Damaged side place)) is = absurd is
        why (Store NotAStore) is = absurd is
        why (Store Exists) is = absurd is

-- ---- a halt

refusal_apart : (refusal : Refusal) (error : VaultError) → Refused refusal ≡ Store error → ⊥
refusal_apart refusal error is = cc

memory_halts : Store NoMemory ≡ Store Halted → ⊥
memory_halts is = cc

memory_device : Store NoMemory ≡ Store Device → ⊥
memory_device is = cc

-- an error that comes before anything is tried does not halt the core
pub halts_first : {D : Type 0} (storage : Ghosts D) (old new : Core D) (error : CoreError) → RefusesAllFirst old error → new.vault ≡ old.vault → new.in_doubt ≡ old.in_doubt → Halts {T = Ended} storage old new (Err error)
halts_first storage old new (Refused refusal) it vault doubt = unhalted {T = Ended} storage old new (Refused refusal) it.0 vault doubt (refusal_apart refusal Halted) (refusal_apart refusal Device)
halts_first storage old new (Store Halted) it vault doubt = halted_still {T = Ended} storage old new it vault doubt
halts_first storage old new (Store NoMemory) it vault doubt = unhalted {T = Ended} storage old new (Store NoMemory) it.0 vault doubt memory_halts memory_device
halts_first storage old new (Store Full) it vault doubt = absurd it
halts_first storage old new (Store Device) it vault doubt = absurd it
halts_first storage old new (Store (Damaged side place)) it vault doubt = absurd it
halts_first storage old new (Store NotAStore) it vault doubt = absurd it
halts_first storage old new (Store Exists) it vault doubt = absurd it

-- ---- an append that was refused

not_damaged : (side : Side) (place : ℕ) → IsOfCall (Damaged side place) → ⊥
not_damaged side place (inl is) = cc
not_damaged side place (inr (inl is)) = cc
not_damaged side place (inr (inr (inl is))) = cc
not_damaged side place (inr (inr (inr is))) = cc

there_is_one : IsOfCall NotAStore → ⊥
there_is_one (inl is) = cc
there_is_one (inr (inl is)) = cc
there_is_one (inr (inr (inl is))) = cc
there_is_one (inr (inr (inr is))) = cc

not_there_yet : IsOfCall Exists → ⊥
not_there_yet (inl is) = cc
not_there_yet (inr (inl is)) = cc
not_there_yet (inr (inr (inl is))) = cc
not_there_yet (inr (inr (inr is))) = cc

-- why ends that are due were refused
pub refused_due : {D : Type 0} (c : Core D) (ends : List Event) (error : VaultError) → is_halted c ≡ false → AreLegalFrom (graph c) (facts c) ends → 1 ≤ length ends → IsOfCall error
    → (error ≡ Halted → is_halted c ≡ true) → (error ≡ Full → AreTooLong c ends) → RefusesAll c ends (Store error)
refused_due c ends Device working legal some of_call halts long = (working, some)
refused_due c ends NoMemory working legal some of_call halts long = (working, no_fault (graph c) (facts c) ends some legal)
refused_due c ends Full working legal some of_call halts long = (working, some, long refl)
refused_due c ends Halted working legal some of_call halts long = halts refl
refused_due c ends (Damaged side place) working legal some of_call halts long = absurd (not_damaged side place of_call)
refused_due c ends NotAStore working legal some of_call halts long = absurd (there_is_one of_call)
refused_due c ends Exists working legal some of_call halts long = absurd (not_there_yet of_call)

-- ---- a run by itself

module _ {D : Type 0} (storage : Ghosts D) where
  -- at each moment of one commit a crash leaves it, or nothing of it
  pub begins : (IsTrue storage.is_honest → AppendLeaves storage) → (old new : Core D) (commit : Commit) → IsTrue storage.is_honest → CrashLeaves storage old new commit
      → Leaves storage old.vault.disk new.vault.disk (StandsForBeginning (graph old) (environment old) (facts old) [] (commit ∷ []))
  begins leaves old new commit on it =
      leaves on old.vault new.vault (graph old) (environment old) (facts old) [] commit
      (subst (λ (E : Facts). Leaves storage old.vault.disk new.vault.disk (StandsBeforeOrAfter (graph old) E (with_facts (facts old) []) commit)) (sym (with_nothing (environment old)))
      (subst (λ (X : Facts). Leaves storage old.vault.disk new.vault.disk (StandsBeforeOrAfter (graph old) (environment old) X commit)) (sym (with_nothing (facts old))) it.facts))

  -- the facts after a commit that was taken
  module _ (law : TakenInTurn) (old new : Core D) (tasks : List Inst) (commit : Commit) (takes : TakesAll old new tasks commit) where
    adds : AddsAllFacts old.machine commit takes.mid
    adds = law old.machine commit takes.mid takes.takes

    pub graph_after : graph new ≡ graph old
    graph_after = takes.rest.graph ∙ adds.graph

    pub facts_after : (fact : Fact) → facts new fact ≡ with_facts (facts old) (stated.facts commit) fact
    facts_after fact = takes.rest.facts fact ∙ adds.all fact

    pub environment_after : (fact : Fact) → environment new fact ≡ with_facts (environment old) (stated.environment commit) fact
    environment_after fact = takes.rest.environment fact ∙ adds.given fact

  -- the facts after one commit
  pub one_behind : (X : Facts) (commit : Commit) → facts_behind X (commit ∷ []) ≡ with_facts X (stated.facts commit)
  one_behind X commit = ap (λ (events : List Event). with_facts X (stated.facts events)) (append-nil commit)

  pub given_behind : (E : Facts) (commit : Commit) → environment_behind E (commit ∷ []) ≡ with_facts E (stated.environment commit)
  given_behind E commit = ap (λ (events : List Event). with_facts E (stated.environment events)) (append-nil commit)

  -- once it was made, it is acknowledged
  pub acknowledged_all : (IsTrue storage.is_honest → HeldLeaves storage) → (old new : Core D) (commit : Commit) → is_halted new ≡ false → graph new ≡ graph old → facts new ≡ with_facts (facts old) (stated.facts commit)
      → environment new ≡ with_facts (environment old) (stated.environment commit) → (IsTrue storage.is_honest → IsKept storage.files new) → (IsTrue storage.is_honest → Leaves storage old.vault.disk new.vault.disk (StandsForBeginning (graph old) (environment old) (facts old) [] (commit ∷ [])))
      → IsTrue storage.is_honest → AcknowledgesFrom (graph old) (environment old) (facts old) (storage.left_at new.vault.disk) (storage.moment new.vault.disk) (storage.moment old.vault.disk) [] (commit ∷ []) (in_one new.in_doubt)
  acknowledged_all held old new commit working same sets given kept crash on = (
    storage.moment new.vault.disk,
    (crash on).later,
    omega arith,
    λ t contents after before was. (crash on).each t contents after before was,
    λ t contents after before was.
        let stands = (held on new.vault (graph new) (environment new) (facts new) ((kept on).holds working)).each t contents after before was in
        let of_graph : Stands contents (graph old) (environment new) (facts new) = subst (λ (g : Graph). Stands contents g (environment new) (facts new)) same stands in
        let of_given : Stands contents (graph old) (environment_behind (environment old) (commit ∷ [])) (facts new) =
        subst (λ (E : Facts). Stands contents (graph old) E (facts new)) (given ∙ sym (given_behind (environment old) commit)) of_graph
        in
        record {
          made = [];
          later = in_one new.in_doubt;
          beginning = refl;
          stands = subst (λ (X : Facts). Stands contents (graph old) (environment_behind (environment old) (commit ∷ [])) X) (sets ∙ sym (one_behind (facts old) commit)) of_given;
        },
  )

  -- a commit that was taken
  ended : (law : TakenInTurn) → (IsTrue storage.is_honest → AppendLeaves storage) → (IsTrue storage.is_honest → HeldLeaves storage) → (old new : Core D) (tasks : List Inst) (commit : Commit) (answer : Ended) → is_halted old ≡ false
      → AllByRecursion IsEnd commit → AreLegalFrom (graph old) (facts old) commit → TakesAll old new tasks commit → new.in_doubt ≡ [] → (IsTrue storage.is_honest → CrashLeaves storage old new commit) → (IsTrue storage.is_honest → IsKept storage.files new)
      → Halts {T = Ended} storage old new (Ok answer) → Runs storage old new (commit ∷ [])
  ended law leaves held old new tasks commit answer working are legal takes settled moments kept halts =
      let one : (commit ++ []) ++ new.in_doubt ≡ commit = ap (λ (events : List Event). (commit ++ []) ++ events) settled ∙ append-nil (commit ++ []) ∙ append-nil commit in
      let sets : facts new ≡ with_facts (facts old) (stated.facts commit) = λ i fact. facts_after law old new tasks commit takes fact i in
      let given : environment new ≡ with_facts (environment old) (stated.environment commit) = λ i fact. environment_after law old new tasks commit takes fact i in
      let crash : IsTrue storage.is_honest → Leaves storage old.vault.disk new.vault.disk (StandsForBeginning (graph old) (environment old) (facts old) [] (commit ∷ [])) = λ on. begins leaves old new commit on (moments on) in
      record {
        are_ends = subst (λ (events : List Event). AllByRecursion IsEnd events) (sym one) are;
        legal = subst (λ (events : List Event). AreLegalFrom (graph old) (facts old) events) (sym one) legal;
        graph = graph_after law old new tasks commit takes;
        facts = λ fact. facts_after law old new tasks commit takes fact ∙ ap (λ (X : Facts). X fact) (sym (one_behind (facts old) commit));
        environment = λ fact. environment_after law old new tasks commit takes fact ∙ ap (λ (E : Facts). E fact) (given_by_ends (environment old) commit are);
        spent = ap (λ (events : List Event). new.allowance + length events) (append-nil commit) ∙ takes.allowance;
        latest = takes.latest;
        generation = λ _. takes.generation;
        end = λ _. with_record new.vault.journal.end old.vault.journal.end (commit_length commit) takes.moved;
        crashes = λ on. subst (λ (events : List Event). Leaves storage old.vault.disk new.vault.disk (StandsForBeginning (graph old) (environment old) (facts old) [] (commit ∷ in_one events))) (sym settled) (crash on);
        acknowledged = acknowledged_all held old new commit takes.working.1 (graph_after law old new tasks commit takes) sets given kept crash;
        gates = λ on has. (moments on).gates has;
        halts = (λ is. elim (halts.halts.0 is) [ inl before ↦ absurd (false≢true (sym working ∙ before)) | inr erred ↦ erred ], λ erred. halts.halts.1 (inr erred));
        later = halts.disk.later;
        some_in_doubt = λ is. absurd (false≢true (sym takes.working.1 ∙ is));
      }

  -- a commit that is refused
  refused : (IsTrue storage.is_honest → AppendLeaves storage) → (IsTrue storage.is_honest → RestLeaves storage) → (IsTrue storage.is_honest → GatesRest storage) → (old new : Core D) (tasks : List Inst) (commit : Commit) (error : CoreError)
      → is_halted old ≡ false → old.in_doubt ≡ [] → length commit ≤ old.allowance → (IsTrue storage.is_honest → IsKept storage.files old) → AllByRecursion IsEnd commit → AreLegalFrom (graph old) (facts old) commit → GivesBackAll old new tasks
      → AreInDoubt {T = Ended} old new commit (Err error) → (is_halted old ≡ false → is_halted new ≡ true → 0 < length commit) → (IsTrue storage.is_honest → is_halted old ≡ false → CrashLeaves storage old new commit)
      → Halts {T = Ended} storage old new (Err error) → Runs storage old new []
  refused leaves rest_leaves gates_rest old new tasks commit error working settled allowed kept are legal back tried some moments halts = at (is_halted new) refl
    where
      at : (b : Bool) → is_halted new ≡ b → Runs storage old new []
      at false goes =
          let same = halts.same (goes ∙ sym working) in
          rests storage rest_leaves gates_rest old new working kept (record {
            graph = back.stays.graph;
            facts = back.stays.facts;
            environment = back.stays.environment;
            allowance = back.stays.allowance;
            latest = back.stays.latest;
            disk = same.0.disk;
            generation = same.0.generation;
            end = same.0.end;
            halted = goes;
            settled = same.1 ∙ settled;
          })
      at true stops =
          let doubt : new.in_doubt ≡ commit = tried working stops in
          let more = some working stops in
          let pending : in_one new.in_doubt ≡ commit ∷ [] = ap in_one doubt ∙ in_one_of commit more in
          let crash : IsTrue storage.is_honest → Leaves storage old.vault.disk new.vault.disk (StandsForBeginning (graph old) (environment old) (facts old) [] (in_one new.in_doubt)) = λ on.
          subst (λ (commits : List Commit). Leaves storage old.vault.disk new.vault.disk (StandsForBeginning (graph old) (environment old) (facts old) [] commits)) (sym pending) (begins leaves old new commit on (moments on working))
          in
          record {
            are_ends = subst (λ (events : List Event). AllByRecursion IsEnd events) (sym doubt) are;
            legal = subst (λ (events : List Event). AreLegalFrom (graph old) (facts old) events) (sym doubt) legal;
            graph = back.stays.graph;
            facts = λ fact. back.stays.facts fact ∙ ap (λ (X : Facts). X fact) (sym (with_nothing (facts old)));
            environment = back.stays.environment;
            spent = omega (arith, back.stays.allowance);
            latest = back.stays.latest;
            generation = λ goes. absurd (false≢true (sym goes ∙ stops));
            end = λ goes. absurd (false≢true (sym goes ∙ stops));
            crashes = crash;
            acknowledged = λ on t contents after before was. (crash on).each t contents after before was;
            gates = λ on has. (moments on working).gates has;
            halts = (λ _. elim (halts.halts.0 stops) [ inl before ↦ absurd (false≢true (sym working ∙ before)) | inr it ↦ it ], λ _. stops);
            later = halts.disk.later;
            some_in_doubt = λ _. let counted : length new.in_doubt ≡ length commit = ap length doubt in (omega (arith, counted, more), omega (arith, counted, allowed));
          }
        where
          in_one_of : (events : Commit) → 0 < length events → in_one events ≡ events ∷ []
          in_one_of [] is = absurd (omega (arith, is))
          in_one_of (first ∷ events) is = refl

  -- a finish of several is a run by itself
  pub all_run : (law : TakenInTurn) → CutIsOfEnds → (IsTrue storage.is_honest → AppendLeaves storage) → (IsTrue storage.is_honest → HeldLeaves storage) → (IsTrue storage.is_honest → RestLeaves storage) → (IsTrue storage.is_honest → GatesRest storage)
      → (old new : Core D) (tasks : List Inst) (ends : List Event) (result : Result Ended CoreError) → is_halted old ≡ false → old.in_doubt ≡ [] → AreEndsHere old.machine ends → (IsTrue storage.is_honest → IsKept storage.files old) → (IsTrue storage.is_honest → IsKept storage.files new)
      → (it : FinishesAll storage old new tasks ends result) → OnErr result (length it.commit ≤ old.allowance) → OnErr result (GivesBackAll old new tasks) → Halts storage old new result
      → AllRun storage old new ends result
  all_run law cuts leaves held rest_leaves gates_rest old new tasks ends (Ok answer) working settled here kept kept_after it allowed back halts =
      let is = it.answered in
      let of_ends = cuts old.machine ends answer here is.together in
      subst (λ (commit : Commit). Runs storage old new (commit ∷ [])) is.commit_is
      (ended law leaves held old new tasks it.commit answer working (subst (λ (events : List Event). AllByRecursion IsEnd events) (sym is.commit_is) (all_end (cut answer ends) (ended_by ends) of_ends.ended))
      (subst (λ (events : List Event). AreLegalFrom (graph old) (facts old) events) (sym is.commit_is) is.together.legal) is.takes halts.settled (λ on. it.moments on working) kept_after halts)
  all_run law cuts leaves held rest_leaves gates_rest old new tasks ends (Err error) working settled here kept kept_after it allowed back halts =
      refused leaves rest_leaves gates_rest old new tasks it.commit error working settled allowed kept are legal back it.doubt.0 it.doubt.1 it.moments halts
    where
      are : AllByRecursion IsEnd it.commit
      are = elim it.tried [
        | inl none ↦ subst (λ (events : List Event). AllByRecursion IsEnd events) (sym none) tt
        | inr some ↦ subst (λ (events : List Event). AllByRecursion IsEnd events) (sym some.2) (all_end (cut some.0 ends) (ended_by ends) (cuts old.machine ends some.0 here some.1).ended)
      ]

      legal : AreLegalFrom (graph old) (facts old) it.commit
      legal = elim it.tried [
        | inl none ↦ subst (λ (events : List Event). AreLegalFrom (graph old) (facts old) events) (sym none) tt
        | inr some ↦ subst (λ (events : List Event). AreLegalFrom (graph old) (facts old) events) (sym some.2) some.1.legal
      ]
