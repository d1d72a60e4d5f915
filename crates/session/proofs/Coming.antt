-- How a core goes on by a call, and by several, one after another.
use Rattle.disk.specs.Storage.{Errs, Leaves}
use Rattle.disk.specs.declared.storage.Disk.{Ghosts}
use Rattle.std.proofs.Common.{◌≡◌, ◌∙◌, ◌≤◌, ◌++◌, ap, refl, sym, subst, inl, inr, Bool, true, false, List, [], ◌∷◌, Result, Err, arith, IsTrue}
use Rattle.std.proofs.lemmas.Bool.{false≢true}
use Rattle.std.proofs.lemmas.List.{append_assoc, append-nil}
use Rattle.disk.specs.Erred.{later_erred, erred_later}
use Rattle.disk.specs.Moments.{joined}
use Rattle.disk.specs.Time.{Contents}
use Rattle.terms.specs.declared.event.Event.{Event}
use Rattle.terms.specs.Commits.{Commit, events_of, facts_behind, environment_behind}
use Rattle.terms.specs.Facts.{Fact, event_facts, environment_facts}
use Rattle.terms.specs.Facts as stated
use Rattle.terms.specs.Sets.{Facts, AmongBoth, with_facts}
use Rattle.graph.specs.Graph.{Graph}
use Rattle.machine.specs.declared.refusal.Refusal.{Refusal}
use Rattle.machine.specs.State.{AreLegalFrom}
use Rattle.vault.specs.Commits.{AppendLeaves, GatesRest, GatesStay, HeldLeaves, RestLeaves, StandsForBeginning}
use Rattle.vault.specs.Stands.{Stands}
use Rattle.vault.specs.Store.{HasGates}
use Rattle.commit.specs.declared.error.CoreError.{CoreError}
use Rattle.commit.specs.Calls.{record_length, CrashLeaves, Halts, IsInDoubt, IsUnchanged, Refuses, Takes, KeepsStore}
use Rattle.commit.specs.Core.{Core, graph, facts, environment, is_halted}
use Rattle.commit.specs.Kept.{IsKept}
use Rattle.commit.specs.Runs.{AcknowledgesFrom, in_one, records_length, with_allowance}
use Rattle.commit.proofs.Acknowledged.{carried, joined as both_acknowledged}
use Rattle.commit.proofs.Joined.{ends_behind}
use Rattle.commit.proofs.Lists.{environment_joined, events_joined, facts_joined, legal_joined, records_joined, with_nothing}
use Rattle.commit.proofs.Running.{acknowledged_once, begins, legal_in_doubt, rests, with_record}
use Rattle.commit.proofs.Same.{alike_on}
use Rattle.commit.proofs.Went.{of_run}
use Rattle.script.specs.declared.command.Command.{Command}
use Rattle.session.specs.declared.reply.Reply.{Reply}
use Rattle.session.specs.Answers.{Drive, Replies}
use Rattle.commit.specs.Went.{GoesOn, Went}
use Rattle.session.specs.Went.{GoesOnBy}

-- ---- what a crash leaves

-- what a prefix of some commits leaves is what a prefix of these and more leaves
extended : (g : Graph) (E X : Facts) (some more : List Commit) (contents : Contents) → StandsForBeginning g E X [] some contents → StandsForBeginning g E X [] (some ++ more) contents
extended g E X some more contents it =
    record { made = it.made; later = it.later ++ more; beginning = ap (λ (list : List Commit). list ++ more) it.beginning ∙ append_assoc it.made it.later more; stands = it.stands }

-- and so is what a prefix of further commits leaves after all of these
behind : AmongBoth → (g h : Graph) (E F X Y : Facts) (first more : List Commit) (contents : Contents) → h ≡ g → F ≡ environment_behind E first → Y ≡ facts_behind X first
    → StandsForBeginning h F Y [] more contents → StandsForBeginning g E X [] (first ++ more) contents
behind both g h E F X Y first more contents graph given all it =
    let of_graph = subst (λ (k : Graph). Stands contents k (environment_behind F it.made) (facts_behind Y it.made)) graph it.stands in
    let of_given : Stands contents g (environment_behind E (first ++ it.made)) (facts_behind Y it.made) =
    subst (λ (S : Facts). Stands contents g S (facts_behind Y it.made)) (ap (λ (S : Facts). environment_behind S it.made) given ∙ sym (environment_joined both E first it.made)) of_graph
    in
    record {
      made = first ++ it.made;
      later = it.later;
      beginning = ap (λ (list : List Commit). first ++ list) it.beginning ∙ sym (append_assoc first it.made it.later);
      stands =
          subst (λ (S : Facts). Stands contents g (environment_behind E (first ++ it.made)) S)
          (ap (λ (S : Facts). facts_behind S it.made) all ∙ sym (facts_joined both X first it.made)) of_given;
    }

module _ {D : Type 0} (storage : Ghosts D) where
  -- ---- one after another

  module _ (both : AmongBoth) (gates_stay : IsTrue storage.is_honest → GatesStay storage) (old mid new : Core D) (first second : List Commit) where
    went_on : is_halted mid ≡ false → mid.in_doubt ≡ [] → storage.failures old.vault.disk ≤ storage.failures mid.vault.disk
        → Went storage old mid first → Went storage mid new second → Went storage old new (first ++ second)
    went_on working settled later one two =
        let all_of_first = subst (λ (events : List Event). events_of first ++ events ≡ events_of first) (sym settled) (append-nil (events_of first)) in
        let all_commits = subst (λ (events : List Event). first ++ in_one events ≡ first) (sym settled) (append-nil first) in
        let sets : facts mid ≡ facts_behind (facts old) first = λ i fact. one.facts fact i in
        let given : environment mid ≡ environment_behind (environment old) first = λ i fact. one.environment fact i in
        let order : events_of (first ++ second) ++ new.in_doubt ≡ events_of first ++ (events_of second ++ new.in_doubt) =
        ap (λ (events : List Event). events ++ new.in_doubt) (events_joined first second) ∙ append_assoc (events_of first) (events_of second) new.in_doubt
        in
        let pending : (first ++ second) ++ in_one new.in_doubt ≡ first ++ (second ++ in_one new.in_doubt) = append_assoc first second (in_one new.in_doubt) in
        let calm : Errs storage old.vault.disk mid.vault.disk → ⊥ = λ erred. false≢true (sym working ∙ one.halts.1 erred) in
        record {
          legal =
              subst (λ (events : List Event). AreLegalFrom (graph old) (facts old) events) (sym order)
              (legal_joined both (graph old) (facts old) (events_of first) (events_of second ++ new.in_doubt) (subst (λ (events : List Event). AreLegalFrom (graph old) (facts old) events) all_of_first one.legal)
              (subst (λ (g : Graph). AreLegalFrom g (facts_behind (facts old) first) (events_of second ++ new.in_doubt)) one.graph
              (subst (λ (S : Facts). AreLegalFrom (graph mid) S (events_of second ++ new.in_doubt)) sets two.legal)));
          graph = two.graph ∙ one.graph;
          facts = λ fact. two.facts fact ∙ ap (λ (S : Facts). facts_behind S second fact) sets ∙ ap (λ (S : Facts). S fact) (sym (facts_joined both (facts old) first second));
          environment = λ fact.
              two.environment fact ∙ ap (λ (S : Facts). environment_behind S second fact) given ∙ ap (λ (S : Facts). S fact) (sym (environment_joined both (environment old) first second));
          generation = λ goes. two.generation goes ∙ one.generation working;
          end = λ goes. ends_behind new.vault.journal.end mid.vault.journal.end old.vault.journal.end (records_length first) (records_length second) (records_length (first ++ second)) (two.end goes) (one.end working) (records_joined first second);
          crashes = λ on.
              subst (λ (commits : List Commit). Leaves storage old.vault.disk new.vault.disk (StandsForBeginning (graph old) (environment old) (facts old) [] commits)) (sym pending)
              (joined storage.moment storage.left_at old.vault.disk mid.vault.disk new.vault.disk
              (StandsForBeginning (graph old) (environment old) (facts old) [] (first ++ in_one mid.in_doubt))
              (StandsForBeginning (graph mid) (environment mid) (facts mid) [] (second ++ in_one new.in_doubt))
              (StandsForBeginning (graph old) (environment old) (facts old) [] (first ++ (second ++ in_one new.in_doubt)))
              (one.crashes on) (two.crashes on)
              (λ contents stands.
              extended (graph old) (environment old) (facts old) first (second ++ in_one new.in_doubt) contents
              (subst (λ (commits : List Commit). StandsForBeginning (graph old) (environment old) (facts old) [] commits contents) all_commits stands))
              (λ contents stands.
              behind both (graph old) (graph mid) (environment old) (environment mid) (facts old) (facts mid) first (second ++ in_one new.in_doubt) contents one.graph given sets stands));
          acknowledged = λ on.
              let second_leaves = two.crashes on in
              both_acknowledged (graph old) (environment old) (facts old) (storage.left_at mid.vault.disk) (storage.left_at new.vault.disk) (storage.moment mid.vault.disk) (storage.moment new.vault.disk) second_leaves.later (λ t contents early was. (second_leaves.stays t contents early).0 was)
              (storage.moment old.vault.disk) [] first second (in_one new.in_doubt) (one.crashes on).later
              (subst (λ (doubt : List Event). AcknowledgesFrom (graph old) (environment old) (facts old) (storage.left_at mid.vault.disk) (storage.moment mid.vault.disk) (storage.moment old.vault.disk) [] first (in_one doubt)) settled (one.acknowledged on))
              (subst (λ (made : List Commit). AcknowledgesFrom (graph old) (environment old) (facts old) (storage.left_at new.vault.disk) (storage.moment new.vault.disk) (storage.moment mid.vault.disk) made second (in_one new.in_doubt)) (append-nil first)
              (carried both (graph old) (graph mid) (environment old) (environment mid) (facts old) (facts mid) first one.graph given sets (storage.left_at new.vault.disk) (storage.moment new.vault.disk) (storage.moment mid.vault.disk) [] second (in_one new.in_doubt) (two.acknowledged on)));
          gates = λ on has.
              let here = one.gates on has in
              joined storage.moment storage.left_at old.vault.disk mid.vault.disk new.vault.disk HasGates HasGates HasGates here (two.gates on (gates_stay on old.vault.disk mid.vault.disk here)) (λ c so. so) (λ c so. so);
          halts = (
            λ is. later_erred (storage.failures old.vault.disk) (storage.failures mid.vault.disk) (storage.failures new.vault.disk) (storage.refusals old.vault.disk) (storage.refusals mid.vault.disk) (storage.refusals new.vault.disk) later calm (two.halts.0 is),
            λ erred. two.halts.1 (erred_later (storage.failures old.vault.disk) (storage.failures mid.vault.disk) (storage.failures new.vault.disk) (storage.refusals old.vault.disk) (storage.refusals mid.vault.disk) (storage.refusals new.vault.disk) later calm erred),
          );
        }

    -- nothing comes after a halt
    went_still : is_halted mid ≡ true → second ≡ [] → KeepsStore mid new → Went storage old mid first → Went storage old new (first ++ second)
    went_still stops nothing same one =
        let all : first ++ second ≡ first = ap (λ (commits : List Commit). first ++ commits) nothing ∙ append-nil first in
        let doubt : events_of first ++ mid.in_doubt ≡ events_of (first ++ second) ++ new.in_doubt = λ i. events_of (sym all i) ++ sym same.in_doubt i in
        let pending : first ++ in_one mid.in_doubt ≡ (first ++ second) ++ in_one new.in_doubt = λ i. sym all i ++ in_one (sym same.in_doubt i) in
        record {
          legal = subst (λ (events : List Event). AreLegalFrom (graph old) (facts old) events) doubt one.legal;
          graph = same.graph ∙ one.graph;
          facts = λ fact. same.facts fact ∙ one.facts fact ∙ ap (λ (commits : List Commit). facts_behind (facts old) commits fact) (sym all);
          environment = λ fact. same.environment fact ∙ one.environment fact ∙ ap (λ (commits : List Commit). environment_behind (environment old) commits fact) (sym all);
          generation = λ goes. absurd (false≢true (sym goes ∙ same.vault.halted ∙ stops));
          end = λ goes. absurd (false≢true (sym goes ∙ same.vault.halted ∙ stops));
          crashes = λ on.
              subst (λ (d : D). Leaves storage old.vault.disk d (StandsForBeginning (graph old) (environment old) (facts old) [] ((first ++ second) ++ in_one new.in_doubt))) (sym same.vault.disk)
              (subst (λ (commits : List Commit). Leaves storage old.vault.disk mid.vault.disk (StandsForBeginning (graph old) (environment old) (facts old) [] commits)) pending (one.crashes on));
          acknowledged = λ on.
              subst (λ (at : D × List Commit × List Event). AcknowledgesFrom (graph old) (environment old) (facts old) (storage.left_at at.0) (storage.moment at.0) (storage.moment old.vault.disk) [] at.1 (in_one at.2))
              (λ i. (sym same.vault.disk i, sym all i, sym same.in_doubt i)) (one.acknowledged on);
          gates = λ on has. subst (λ (d : D). Leaves storage old.vault.disk d HasGates) (sym same.vault.disk) (one.gates on has);
          halts = (
            λ is. subst (λ (d : D). Errs storage old.vault.disk d) (sym same.vault.disk) (one.halts.0 (sym same.vault.halted ∙ is)),
            λ erred. same.vault.halted ∙ one.halts.1 (subst (λ (d : D). Errs storage old.vault.disk d) same.vault.disk erred),
          );
        }

    -- a call after others
    pub joined_on : GoesOn storage old mid first → GoesOn storage mid new second → GoesOn storage old new (first ++ second)
    joined_on one two = record { went = λ working. at working (is_halted mid) refl; stays = λ halted. still halted; settled = two.settled; later = omega (arith, one.later, two.later) }
      where
        at : is_halted old ≡ false → (b : Bool) → is_halted mid ≡ b → Went storage old new (first ++ second)
        at working false goes = went_on goes (one.settled goes) one.later (one.went working) (two.went goes)
        at working true stops = let last = two.stays stops in went_still stops last.1 last.0 (one.went working)

        still : is_halted old ≡ true → KeepsStore old new × (first ++ second ≡ [])
        still halted =
            let before = one.stays halted in
            let last = two.stays (before.0.vault.halted ∙ halted) in (
              record {
                graph = last.0.graph ∙ before.0.graph;
                facts = λ fact. last.0.facts fact ∙ before.0.facts fact;
                environment = λ fact. last.0.environment fact ∙ before.0.environment fact;
                vault = alike_on old.vault mid.vault new.vault last.0.vault before.0.vault;
                in_doubt = last.0.in_doubt ∙ before.0.in_doubt;
                latest = last.0.latest ∙ before.0.latest;
              },
              ap (λ (commits : List Commit). commits ++ second) before.1 ∙ last.1,
            )

  -- the same by what the commits have
  pub joined_by : AmongBoth → (IsTrue storage.is_honest → GatesStay storage) → (old mid new : Core D) (first second : List Event) → GoesOnBy storage old mid first
      → GoesOnBy storage mid new second → GoesOnBy storage old new (first ++ second)
  joined_by both gates_stay old mid new first second one two = record {
    commits = one.commits ++ two.commits;
    order = events_joined one.commits two.commits ∙ (λ i. one.order i ++ two.order i);
    goes_on = joined_on both gates_stay old mid new one.commits two.commits one.goes_on two.goes_on;
  }

  module _ (leaves : IsTrue storage.is_honest → RestLeaves storage) (gates_rest : IsTrue storage.is_honest → GatesRest storage) where
    -- ---- puts

    module _ {T : Type 0} (append : IsTrue storage.is_honest → AppendLeaves storage) (held : IsTrue storage.is_honest → HeldLeaves storage) (old new : Core D) (event : Event) (why : Refusal → Type 0) (kept : IsTrue storage.is_honest → IsKept storage.files old) (kept_after : IsTrue storage.is_honest → IsKept storage.files new) (settled : is_halted old ≡ false → old.in_doubt ≡ []) where
      -- the put was committed
      pub committed : (result : Result T CoreError) → Takes old new event → new.in_doubt ≡ [] → (is_halted old ≡ false → IsTrue storage.is_honest → CrashLeaves storage old new (event ∷ [])) → Halts storage old new result
          → GoesOn storage old new ((event ∷ []) ∷ [])
      committed result takes none moments halts =
          let one : event ∷ [] ++ new.in_doubt ≡ event ∷ [] = ap (λ (events : List Event). event ∷ events) none in
          record {
            went = λ working. record {
              legal = subst (λ (events : List Event). AreLegalFrom (graph old) (facts old) events) (sym one) (takes.legal, tt);
              graph = takes.takes.graph;
              facts = λ fact. takes.takes.facts fact ∙ ap (λ (list : List Fact). with_facts (facts old) list fact) (sym (append-nil (event_facts event)));
              environment = λ fact. takes.takes.environment fact ∙ ap (λ (list : List Fact). with_facts (environment old) list fact) (sym (append-nil (environment_facts event)));
              generation = λ _. takes.generation;
              end = λ _. with_record new.vault.journal.end old.vault.journal.end (record_length event) takes.moved;
              crashes = λ on.
                  subst (λ (events : List Event). Leaves storage old.vault.disk new.vault.disk (StandsForBeginning (graph old) (environment old) (facts old) [] ((event ∷ []) ∷ in_one events))) (sym none)
                  (begins storage append old new event on (moments working on));
              acknowledged = λ on. acknowledged_once storage append held old new event takes (moments working) kept_after on;
              gates = λ on has. (moments working on).gates has;
              halts = (λ halted. elim (halts.halts.0 halted) [ inl before ↦ absurd (false≢true (sym working ∙ before)) | inr erred ↦ erred ], λ erred. halts.halts.1 (inr erred));
            };
            stays = λ halted. absurd (false≢true (sym takes.working.0 ∙ halted));
            settled = λ _. none;
            later = halts.disk.later;
          }

      -- it was refused
      pub refused : (error : CoreError) → IsUnchanged old new → Refuses old why event error → IsInDoubt {T = T} old new event (Err error) → (is_halted old ≡ false → IsTrue storage.is_honest → CrashLeaves storage old new (event ∷ []))
          → Halts {T = T} storage old new (Err error) → GoesOn storage old new []
      refused error same refuses doubt moments halts =
          record { went = λ working. at working (is_halted new) refl; stays = λ halted. (still halted, refl); settled = λ goes. by_old goes (is_halted old) refl; later = halts.disk.later }
        where
          still : is_halted old ≡ true → KeepsStore old new
          still halted =
              let stops : is_halted new ≡ true = halts.halts.1 (inl halted) in
              let kept_so = halts.same (stops ∙ sym halted) in
              record { graph = same.stays.graph; facts = same.stays.facts; environment = same.stays.environment; vault = kept_so.0; in_doubt = kept_so.1; latest = same.stays.latest }

          by_old : is_halted new ≡ false → (b : Bool) → is_halted old ≡ b → new.in_doubt ≡ []
          by_old goes false working = (halts.same (goes ∙ sym working)).1 ∙ settled working
          by_old goes true halted = absurd (false≢true (sym goes ∙ halts.halts.1 (inl halted)))

          at : is_halted old ≡ false → (b : Bool) → is_halted new ≡ b → Went storage old new []
          at working false goes =
              let kept_so = halts.same (goes ∙ sym working) in
              of_run storage old new new.allowance []
              (rests storage leaves gates_rest (with_allowance old new.allowance) new working (λ on. record { holds = (kept on).holds; left = (kept on).left })
              (record { graph = same.stays.graph; facts = same.stays.facts; environment = same.stays.environment; allowance = refl; latest = same.stays.latest; disk = kept_so.0.disk; generation = kept_so.0.generation; end = kept_so.0.end; halted = goes; settled = kept_so.1 ∙ settled working }))
          at working true stops =
              let in_doubt : new.in_doubt ≡ event ∷ [] = doubt working stops in
              let erred : Errs storage old.vault.disk new.vault.disk = elim (halts.halts.0 stops) [ inl before ↦ absurd (false≢true (sym working ∙ before)) | inr it ↦ it ] in
              let legal = legal_in_doubt storage old new why event error refuses halts erred in
              record {
                legal = subst (λ (events : List Event). AreLegalFrom (graph old) (facts old) events) (sym in_doubt) (legal, tt);
                graph = same.stays.graph;
                facts = λ fact. same.stays.facts fact ∙ ap (λ (S : Facts). S fact) (sym (with_nothing (facts old)));
                environment = λ fact. same.stays.environment fact ∙ ap (λ (S : Facts). S fact) (sym (with_nothing (environment old)));
                generation = λ goes. absurd (false≢true (sym goes ∙ stops));
                end = λ goes. absurd (false≢true (sym goes ∙ stops));
                crashes = λ on.
                    subst (λ (events : List Event). Leaves storage old.vault.disk new.vault.disk (StandsForBeginning (graph old) (environment old) (facts old) [] (in_one events))) (sym in_doubt)
                    (begins storage append old new event on (moments working on));
                acknowledged = λ on t contents after before was.
                    subst (λ (events : List Event). StandsForBeginning (graph old) (environment old) (facts old) [] (in_one events) contents) (sym in_doubt)
                    ((begins storage append old new event on (moments working on)).each t contents after before was);
                gates = λ on has. (moments working on).gates has;
                halts = (λ _. erred, λ _. stops);
              }

-- ---- what is there afterwards

module _ {D : Type 0} (storage : Ghosts D) (old new : Core D) (events : List Event)
    (goes : GoesOnBy storage old new events) where
  pub graph_behind : graph new ≡ graph old
  graph_behind = at (is_halted old) refl
    where
      at : (b : Bool) → is_halted old ≡ b → graph new ≡ graph old
      at false working = (goes.goes_on.went working).graph
      at true halted = (goes.goes_on.stays halted).0.graph

  pub facts_behind_it : facts new ≡ with_facts (facts old) (stated.facts events)
  facts_behind_it = at (is_halted old) refl ∙ ap (λ (list : List Event). with_facts (facts old) (stated.facts list)) goes.order
    where
      at : (b : Bool) → is_halted old ≡ b → facts new ≡ facts_behind (facts old) goes.commits
      at false working = λ i fact. (goes.goes_on.went working).facts fact i
      at true halted =
          let same = goes.goes_on.stays halted in
          let still : facts new ≡ facts old = λ i fact. same.0.facts fact i in
          still ∙ sym (ap (λ (commits : List Commit). facts_behind (facts old) commits) same.1 ∙ with_nothing (facts old))

  -- a reply by what is there now is a reply by what was there, and these events
  pub answered_there : (drive : Drive) (command : Command) (came : List Event) (reply : Reply) → Replies (graph new) drive (facts new) command came reply
      → Replies (graph old) drive (with_facts (facts old) (stated.facts events)) command came reply
  answered_there drive command came reply is =
      subst (λ (g : Graph). Replies g drive (with_facts (facts old) (stated.facts events)) command came reply) graph_behind (subst (λ (X : Facts). Replies (graph new) drive X command came reply) facts_behind_it is)
