-- What several puts come to that are tried as one commit.
use Rattle.disk.specs.declared.storage.Disk.{Ghosts}
use Rattle.std.proofs.Common.{◌≡◌, ◌≢◌, ◌∙◌, ◌↔◌, ◌<◌, ◌≤◌, ap, refl, sym, subst, inl, ℕ, zero, suc, ℤ, Bool, true, false, List, [], ◌∷◌, length, map, take, get_or, Some, None, Result, Ok, Err, arith, IsTrue}
use Rattle.std.proofs.lemmas.Bool.{false≢true}
use Rattle.std.specs.List.{AllByRecursion}
use Rattle.terms.specs.declared.name.Addr.{Addr}
use Rattle.terms.specs.declared.name.Inst.{Inst}
use Rattle.terms.specs.declared.name.Tag.{Tag as Label}
use Rattle.terms.specs.declared.event.Event.{Event}
use Rattle.terms.specs.declared.event.Event.TheVariants as event
use Rattle.terms.specs.Commits.{Commit}
use Rattle.terms.specs.Sets.{AmongBoth, Facts}
use Rattle.graph.specs.Graph.{Graph}
use Rattle.instances.specs.declared.state.State.TheVariants.{Running}
use Rattle.machine.specs.Group.{TakesInTurn}
use Rattle.machine.specs.Legal.{IsLegal}
use Rattle.machine.specs.Machine.{Ends, IsPut, Machine}
use Rattle.machine.specs.Machine as machine
use Rattle.machine.specs.Memory.{facts_of}
use Rattle.machine.specs.State.{AreLegalFrom}
use Rattle.vault.specs.Commits.{GatesStay}
use Rattle.vault.specs.declared.error.VaultError.TheVariants as store
use Rattle.session.specs.declared.rows.TheConstants.{MOST_LINES}
use Rattle.commit.specs.declared.error.CoreError.{CoreError}
use Rattle.commit.specs.declared.error.CoreError.TheVariants.{Refused, Store}
use Rattle.commit.specs.Calls.{KeepsStore}
use Rattle.commit.specs.Core.{Core, facts, graph, is_halted}
use Rattle.commit.specs.PutsAll.{PutsAll, RefusesPuts, TakesAny, TakesPuts}
use Rattle.commit.specs.Runs.{NoneRuns, in_one}
use Rattle.commit.specs.Went.{GoesOn}
use Rattle.commit.proofs.GoingOn.{in_one_of}
use Rattle.commit.proofs.Idle.{goes_on}
use Rattle.commit.proofs.PutsTogether.{taken_some}
use Rattle.commit.proofs.Same.{same_vault}
use Rattle.script.specs.declared.command.Command.{Command}
use Rattle.script.specs.declared.command.Command.TheVariants.{Put, Tag, Get, Run}
use Rattle.session.specs.declared.ending.Stop.TheVariants as stop
use Rattle.session.specs.declared.reply.Reply.{Reply}
use Rattle.session.specs.declared.reply.Reply.TheVariants as replied
use Rattle.session.specs.Answers.{Drive, Replies, RepliesTo, reply_of}
use Rattle.session.specs.Lines.{AnswersAtOnce, AnswersFirst, FirstCame}
use Rattle.session.specs.Session.{all_of, stop_of}
use Rattle.session.specs.Went.{GoesOnBy, HasCause, HasNoRoom, Puts, put_by}
use Rattle.session.proofs.Coming.{joined_on}
use Rattle.session.proofs.GroupReplies.{as_many, first_put, length_first, puts_before}
use Rattle.session.proofs.OneLine.{at_once}
use Rattle.session.proofs.Puts.{calm, no_run, put_device, some_is_none}

-- ---- no instance runs

ends_none : (put : Event) → IsPut put → (instance : Inst) → Ends put instance → ⊥
ends_none (event.EnvItem address value) is instance ends = ends
ends_none (event.EnvTag name) is instance ends = ends
ends_none (event.Done ended puts) is instance ends = is
ends_none (event.Stopped ended kind) is instance ends = is

idle_in_turn : (m : Machine) (puts : List Event) (n : Machine) → AllByRecursion IsPut puts → TakesInTurn m puts n → ((instance : Inst) → machine.state_of m instance ≢ Some Running) → (instance : Inst) → machine.state_of n instance ≢ Some Running
idle_in_turn m [] n all same idle instance runs = idle instance (ap (λ (k : Machine). machine.state_of k instance) (sym same) ∙ runs)
idle_in_turn m (put ∷ puts) n all turn idle instance runs =
    idle_in_turn turn.0 puts n all.1 turn.2
    (λ i ran. idle i (goes_on (facts_of turn.0.memory) (machine.state_of m i) (machine.state_of turn.0 i) (turn.1.states i (ends_none put all.0 i)) ran)) instance runs

first_puts : (count : ℕ) (puts : List Event) → AllByRecursion IsPut puts → AllByRecursion IsPut (take count puts)
first_puts zero puts all = tt
first_puts (suc count) [] all = tt
first_puts (suc count) (put ∷ puts) all = (all.0, first_puts count puts all.1)

idle_any : {D : Type 0} (old new : Core D) (puts : List Event) → AllByRecursion IsPut puts → TakesAny old new puts → NoneRuns old → NoneRuns new
idle_any old new [] all taken idle = subst (λ (c : Core _). NoneRuns c) (sym taken.1) idle
idle_any old new (put ∷ puts) all taken idle = idle_in_turn old.machine (put ∷ puts) new.machine all taken.takes idle

module _ {D : Type 0} (storage : Ghosts D) where
  -- after the call no instance runs, if none ran before
  pub idle_after : (old new : Core D) (puts : List Event) (result : Result ℕ CoreError) → AllByRecursion IsPut puts → PutsAll storage old new puts result → NoneRuns old → NoneRuns new
  idle_after old new puts (Ok count) all it idle instance runs = idle_any old new (take it.count puts) (first_puts it.count puts all) it.tries.takes idle instance runs
  idle_after old new puts (Err error) all it idle instance runs = idle instance (sym (it.tries.unchanged.states instance) ∙ runs)

  -- ---- none comes

  pub same_store : (core : Core D) → KeepsStore core core
  same_store core = record { graph = refl; facts = λ _. refl; environment = λ _. refl; vault = same_vault core.vault core.vault refl; in_doubt = refl; latest = refl }

  pub none_came : (old new : Core D) (puts : List Event) → PutsAll storage old new puts (Ok 0) → KeepsStore old new × GoesOn storage old new []
  none_came old new puts it =
      let none : take it.count puts ≡ [] = ap (λ n. take n puts) (sym it.told) in
      let taken = subst (λ (commit : Commit). TakesAny old new commit) none it.tries.takes in (
        subst (λ (c : Core D). KeepsStore old c) (sym taken.1) (same_store old),
        subst (λ (commit : Commit). GoesOn storage old new (in_one commit)) none it.goes_on,
      )

  -- an error that does not halt the core leaves it as it was
  pub apart : (old new : Core D) (puts : List Event) (error : CoreError) → PutsAll storage old new puts (Err error) → is_halted new ≡ false → KeepsStore old new × GoesOn storage old new []
  apart old new puts error it goes = (still (is_halted old) refl, it.goes_on)
    where
      still : (b : Bool) → is_halted old ≡ b → KeepsStore old new
      still true stops = absurd (false≢true (sym goes ∙ it.tries.halts.halts.1 (inl stops)))
      still false working =
          let kept = it.tries.halts.same (goes ∙ sym working) in
          let stays = it.tries.unchanged.stays in
          record { graph = stays.graph; facts = stays.facts; environment = stays.environment; vault = kept.0; in_doubt = kept.1; latest = stays.latest }

  -- ---- the first ones come

  pub first_came : (old new : Core D) (commands : List Command) (count : ℕ) → AllByRecursion Puts commands → length commands ≤ MOST_LINES → 1 ≤ count
      → PutsAll storage old new (all_of (map put_by commands)) (Ok count) → FirstCame storage old new commands count
  first_came old new commands count all few some it =
      let told : count ≡ it.count = it.told in
      let puts = all_of (map put_by commands) in
      let within_puts : count ≤ length puts = by_taken (is_halted old) refl in
      let within : count ≤ length commands = omega (arith, within_puts, as_many commands all) in
      let counted : length (take count puts) ≡ count = length_first count puts within_puts in
      let more : 1 ≤ length (take count puts) = omega (arith, counted, some) in
      let same : take it.count puts ≡ take count puts = ap (λ n. take n puts) (sym told) in
      let taken : TakesPuts old new (take count puts) = taken_some old new (take count puts) more (subst (λ (commit : Commit). TakesAny old new commit) same it.tries.takes) in
      let firsts : take count puts ≡ all_of (map put_by (take count commands)) = first_put count commands all in
      let many : length (take count commands) ≡ count = length_first count commands within in
      record {
        some = some;
        within = within;
        came = record {
          legal = subst (λ (events : List Event). AreLegalFrom (graph old) (facts old) events) (same ∙ firsts) (it.together taken.working.0).legal;
          together = record {
            some = omega (arith, many, some);
            few = omega (arith, many, within, few);
            puts = puts_before count commands all;
            each = refl;
            goes_on = subst (λ (commit : Commit). GoesOn storage old new (commit ∷ [])) firsts
                (subst (λ (commits : List Commit). GoesOn storage old new commits) (ap in_one same ∙ in_one_of (take count puts) more) it.goes_on);
            working = taken.working;
          };
        };
      }
    where
      working_any : (commit : Commit) → TakesAny old new commit → is_halted old ≡ false
      working_any [] taken = taken.0
      working_any (first ∷ commit) taken = taken.working.0

      by_taken : (b : Bool) → is_halted old ≡ b → count ≤ length (all_of (map put_by commands))
      by_taken b is = omega (arith, it.told, (it.together (working_any (take it.count (all_of (map put_by commands))) it.tries.takes)).within)

  -- ---- the core is halted

  module _ (old new : Core D) (puts : List Event) (error : CoreError) (it : PutsAll storage old new puts (Err error)) (stops : is_halted new ≡ true) where
    inside : {cause : CoreError} → ◌≡◌ {A = Result ℕ CoreError} (Err error) (Err cause) → error ≡ cause
    inside is = cc

    -- then it was not full
    not_full : error ≡ Store store.Full → ⊥
    not_full is =
        let working : is_halted old ≡ false = (subst (λ (e : CoreError). RefusesPuts old (take it.count puts) e) is it.tries.refused).0 in
        false≢true (sym (calm {T = ℕ} storage old new error it.tries.halts (λ device. apart_one (sym is ∙ device)) (λ memory. apart_two (sym is ∙ memory)) working ∙ working) ∙ stops)
      where
        apart_one : Store store.Full ≡ Store store.Device → ⊥
        apart_one same = cc

        apart_two : Store store.Full ≡ Store store.NoMemory → ⊥
        apart_two same = cc

    -- the reply says that it was halted exactly if it was
    told_halted : (e : CoreError) → RefusesPuts old (take it.count puts) e → reply_of e ≡ replied.Halted → is_halted old ≡ true
    told_halted (Refused cause) why is = absurd why
    told_halted (Store store.Full) why is = absurd (cc)
    told_halted (Store store.Device) why is = absurd (cc)
    told_halted (Store store.NoMemory) why is = absurd (cc)
    told_halted (Store store.Halted) why is = why
    told_halted (Store (store.Damaged side place)) why is = absurd why
    told_halted (Store store.NotAStore) why is = absurd why
    told_halted (Store store.Exists) why is = absurd why

    halted_told : is_halted old ≡ true → reply_of error ≡ replied.Halted
    halted_told halted = ap reply_of (inside (it.tries.halts.halted.1 halted))

    -- some put was legal, unless it was halted before
    first_legal : (g : Graph) (X : Facts) (event : Event) (rest : List Event) (count : ℕ) → 0 < length (take count (event ∷ rest)) → AreLegalFrom g X (take count (event ∷ rest)) → IsLegal g X event
    first_legal g X event rest zero some legal = absurd (omega (arith, some))
    first_legal g X event rest (suc count) some legal = legal.0

    cause_of : (command : Command) → Puts command → HasCause storage.failures old new command [] (reply_of error)
    cause_of command is_put = record {
      halted = λ _. stops;
      halts = λ run. absurd (no_run command is_put run);
      device = (λ is. (is_put, it.tries.halts.disk.device.0 (put_device {T = ℕ} (Err error) is)), λ both. ap reply_of (inside (it.tries.halts.disk.device.1 both.1)));
      full = λ is. absurd (not_full (full_alone error is));
      left = λ run. absurd (no_run command is_put run);
    }
      where
        full_alone : (e : CoreError) → reply_of e ≡ replied.Full → e ≡ Store store.Full
        full_alone (Refused cause) is = absurd (cc)
        full_alone (Store store.Full) is = refl
        full_alone (Store store.Device) is = absurd (cc)
        full_alone (Store store.NoMemory) is = absurd (cc)
        full_alone (Store store.Halted) is = absurd (cc)
        full_alone (Store (store.Damaged side place)) is = absurd (cc)
        full_alone (Store store.NotAStore) is = absurd (cc)
        full_alone (Store store.Exists) is = absurd (cc)

    stays : (e : CoreError) → error ≡ e → RefusesPuts old (take it.count puts) e → stop_of (reply_of e) ≡ None → is_halted new ≡ is_halted old
    stays (Refused cause) is why none = absurd why
    stays (Store store.Full) is why none = absurd (not_full is)
    stays (Store store.Device) is why none = absurd (some_is_none stop.Device none)
    stays (Store store.NoMemory) is why none = absurd (some_is_none stop.NoMemory none)
    stays (Store store.Halted) is why none = absurd (some_is_none stop.Halted none)
    stays (Store (store.Damaged side place)) is why none = absurd why
    stays (Store store.NotAStore) is why none = absurd why
    stays (Store store.Exists) is why none = absurd why

    abbrev nothing_came : GoesOnBy storage old new []
    nothing_came = record { commits = []; order = refl; goes_on = it.goes_on }

    legal_first : (event : Event) (rest : List Event) → puts ≡ event ∷ rest → is_halted old ≡ false → 0 < length (take it.count puts) → IsLegal (graph old) (facts old) event
    legal_first event rest is working some =
        first_legal (graph old) (facts old) event rest it.count (subst (λ (list : List Event). 0 < length (take it.count list)) is some)
        (subst (λ (list : List Event). AreLegalFrom (graph old) (facts old) (take it.count list)) is (it.together working).legal)

    module _ (drive : Drive) where
      item_replies : (address : Addr) (v : ℤ) (rest : List Event) → puts ≡ event.EnvItem address v ∷ rest → (e : CoreError) → error ≡ e → RefusesPuts old (take it.count puts) e → RepliesTo (graph old) drive (facts old) (Put address v) [] (reply_of e)
      item_replies address v rest is (Refused cause) same why = absurd why
      item_replies address v rest is (Store store.Full) same why = absurd (not_full same)
      item_replies address v rest is (Store store.Device) same why = (refl, legal_first (event.EnvItem address v) rest is why.0 why.1)
      item_replies address v rest is (Store store.NoMemory) same why = (refl, legal_first (event.EnvItem address v) rest is why.0 why.1)
      item_replies address v rest is (Store store.Halted) same why = refl
      item_replies address v rest is (Store (store.Damaged side place)) same why = absurd why
      item_replies address v rest is (Store store.NotAStore) same why = absurd why
      item_replies address v rest is (Store store.Exists) same why = absurd why

      tag_replies : (name : Label) (rest : List Event) → puts ≡ event.EnvTag name ∷ rest → (e : CoreError) → error ≡ e → RefusesPuts old (take it.count puts) e → RepliesTo (graph old) drive (facts old) (Tag name) [] (reply_of e)
      tag_replies name rest is (Refused cause) same why = absurd why
      tag_replies name rest is (Store store.Full) same why = absurd (not_full same)
      tag_replies name rest is (Store store.Device) same why = (refl, legal_first (event.EnvTag name) rest is why.0 why.1)
      tag_replies name rest is (Store store.NoMemory) same why = (refl, legal_first (event.EnvTag name) rest is why.0 why.1)
      tag_replies name rest is (Store store.Halted) same why = refl
      tag_replies name rest is (Store (store.Damaged side place)) same why = absurd why
      tag_replies name rest is (Store store.NotAStore) same why = absurd why
      tag_replies name rest is (Store store.Exists) same why = absurd why

    pub first_halted : (commands : List Command) → 1 ≤ length commands → AllByRecursion Puts commands → puts ≡ all_of (map put_by commands) → AnswersFirst storage old new commands (reply_of error)
    first_halted [] some all is = absurd (omega (arith, some))
    first_halted (Put address v ∷ commands) some all is =
        at_once storage old new (Put address v) (reply_of error) [] nothing_came (λ drive. item_replies drive address v (all_of (map put_by commands)) is error refl it.tries.refused)
        (λ halted was. subst (λ (b : Bool). (reply_of error ≡ replied.Halted) ↔ (b ≡ true)) was (told_halted error it.tries.refused, halted_told)) (cause_of (Put address v) tt) (stays error refl it.tries.refused)
    first_halted (Tag name ∷ commands) some all is =
        at_once storage old new (Tag name) (reply_of error) [] nothing_came (λ drive. tag_replies drive name (all_of (map put_by commands)) is error refl it.tries.refused)
        (λ halted was. subst (λ (b : Bool). (reply_of error ≡ replied.Halted) ↔ (b ≡ true)) was (told_halted error it.tries.refused, halted_told)) (cause_of (Tag name) tt) (stays error refl it.tries.refused)
    first_halted (Get address ∷ commands) some all is = absurd all.0
    first_halted (Run ∷ commands) some all is = absurd all.0

  -- the first of some commands came to its reply
  pub first_answers : (old new : Core D) (commands : List Command) (first : Command) (reply : Reply) → 1 ≤ length commands → first ≡ get_or commands 0 first → AnswersFirst storage old new commands reply
      → AnswersAtOnce storage old new first (Some reply)
  first_answers old new [] first reply some is answers = absurd answers
  first_answers old new (command ∷ commands) first reply some is answers = subst (λ (c : Command). AnswersAtOnce storage old new c (Some reply)) (sym is) answers

  -- ---- a put alone, after others were tried

  module _ (both : AmongBoth) (gates_stay : IsTrue storage.is_honest → GatesStay storage) (old mid new : Core D) (still : KeepsStore old mid) (nothing : GoesOn storage old mid []) where
    halted_as : is_halted mid ≡ is_halted old
    halted_as = still.vault.halted

    no_room : (command : Command) → Puts command → (commits : List Commit) → HasNoRoom mid command commits → HasNoRoom old command commits
    no_room (Put address v) is commits full = omega (arith, still.vault.end, full)
    no_room (Tag name) is commits full = omega (arith, still.vault.end, full)
    no_room (Get address) is commits full = absurd is
    no_room Run is commits full = absurd is

    pub alone : (command : Command) (reply : Reply) → Puts command → AnswersAtOnce storage mid new command (Some reply) → AnswersAtOnce storage old new command (Some reply)
    alone command reply is answers drive was =
        let it = answers drive (was ∙ sym halted_as) in
        record {
          came = it.came;
          goes_on = record {
            commits = it.goes_on.commits;
            order = it.goes_on.order;
            goes_on = joined_on storage both gates_stay old mid new [] it.goes_on.commits nothing it.goes_on.goes_on;
          };
          replies = subst (λ (g : Graph). Replies g drive (facts old) command it.came reply) still.graph (subst (λ (X : Facts). Replies (graph mid) drive X command it.came reply) (λ i fact. still.facts fact i) it.replies);
          cause = record {
            halted = it.cause.halted;
            halts = it.cause.halts;
            device = subst (λ (d : D). (reply ≡ replied.Device) ↔ (Puts command × (storage.failures d < storage.failures new.vault.disk))) still.vault.disk it.cause.device;
            full = λ told. no_room command is it.goes_on.commits (it.cause.full told);
            left = it.cause.left;
          };
          stays = λ none. it.stays none ∙ halted_as;
        }

    -- the first of some puts
    pub first_alone : (commands : List Command) (first : Command) (reply : Reply) → 1 ≤ length commands → AllByRecursion Puts commands → first ≡ get_or commands 0 first
        → AnswersAtOnce storage mid new first (Some reply) → AnswersFirst storage old new commands reply
    first_alone [] first reply some all is answers = absurd (omega (arith, some))
    first_alone (command ∷ commands) first reply some all is answers =
        alone command reply all.0 (subst (λ (c : Command). AnswersAtOnce storage mid new c (Some reply)) is answers)
