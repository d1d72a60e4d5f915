-- Runs, one after another.
use Rattle.disk.specs.declared.storage.Disk.{Ghosts}
use Rattle.std.proofs.Common.{◌≤◌, ◌≡◌, ◌∙◌, ◌+◌, ◌++◌, ap, length, sym, subst, ℕ, false, List, [], arith, IsTrue}
use Rattle.std.proofs.lemmas.Bool.{false≢true}
use Rattle.std.proofs.lemmas.List.{append_assoc, append-nil, length-append}
use Rattle.std.specs.List.{AllByRecursion}
use Rattle.disk.specs.Erred.{HasErredFrom, later_erred, erred_later}
use Rattle.disk.specs.Moments.{joined_since, leaves_at_last}
use Rattle.disk.specs.Time.{Contents, LeavesSince}
use Rattle.terms.specs.declared.event.Event.{Event}
use Rattle.terms.specs.Commits.{Commit, environment_behind, events_of, facts_behind}
use Rattle.terms.specs.Sets.{Facts, AmongBoth}
use Rattle.graph.specs.Graph.{Graph}
use Rattle.machine.specs.State.{AreLegalFrom}
use Rattle.vault.specs.Commits.{StandsForBeginning, GatesStay}
use Rattle.vault.specs.Stands.{Stands}
use Rattle.vault.specs.Store.{HasGates}
use Rattle.commit.specs.Core.{Core, graph, facts, environment, is_halted}
use Rattle.commit.specs.Runs.{AcknowledgesFrom, Begun, IsEnd, Runs, RunsOn, RunsSince, begun_by, in_one, latest_after, records_length}
use Rattle.commit.proofs.Acknowledged.{carried, joined as ends_acknowledged}
use Rattle.commit.proofs.Lists.{ends_joined, environment_stays, events_joined, facts_joined, first_ends, given_by_ends, latest_joined, legal_joined, records_joined}

-- bytes that stand for a prefix of some commits stand for a prefix of more of them
extended : (g : Graph) (E X : Facts) (some more : List Commit) (contents : Contents) → StandsForBeginning g E X [] some contents → StandsForBeginning g E X [] (some ++ more) contents
extended g E X some more contents it =
    record { made = it.made; later = it.later ++ more; beginning = ap (λ (list : List Commit). list ++ more) it.beginning ∙ append_assoc it.made it.later more; stands = it.stands }

-- and so do bytes that stand for a prefix of later commits, after the first ones
behind :
    AmongBoth → (g h : Graph) (E F X Y : Facts) (first more : List Commit) (contents : Contents) → h ≡ g → F ≡ E → Y ≡ facts_behind X first → ((made : List Commit) → environment_behind E (first ++ made) ≡ environment_behind E made) →
    StandsForBeginning h F Y [] more contents → StandsForBeginning g E X [] (first ++ more) contents
behind both g h E F X Y first more contents graph given all stays it =
    let of_graph = subst (λ (k : Graph). Stands contents k (environment_behind F it.made) (facts_behind Y it.made)) graph it.stands in
    let of_given : Stands contents g (environment_behind E (first ++ it.made)) (facts_behind Y it.made) =
    subst (λ (S : Facts). Stands contents g S (facts_behind Y it.made)) (ap (λ (S : Facts). environment_behind S it.made) given ∙ sym (stays it.made)) of_graph
    in
    record {
      made = first ++ it.made;
      later = it.later;
      beginning = ap (λ (list : List Commit). first ++ list) it.beginning ∙ sym (append_assoc first it.made it.later);
      stands =
          subst (λ (S : Facts). Stands contents g (environment_behind E (first ++ it.made)) S)
          (ap (λ (S : Facts). facts_behind S it.made) all ∙ sym (facts_joined both X first it.made)) of_given;
    }

-- where a journal ends after both
pub ends_behind : (new mid begun first second both : ℕ) → new ≡ mid + second → mid ≡ begun + first → both ≡ first + second → new ≡ begun + both
ends_behind new mid begun first second both two one all = omega (arith, two, one, all)

-- what both use of the allowance
both_spent : (new mid begun first second both : ℕ) → both ≡ first + second → mid + first ≡ begun → new + second ≡ mid → new + both ≡ begun
both_spent new mid begun first second both all one two = omega (arith, all, one, two)

both_within : (mid begun first second both doubt : ℕ) → both ≡ first + second → mid + first ≡ begun → second + doubt ≤ mid → both + doubt ≤ begun
both_within mid begun first second both doubt all one two = omega (arith, all, one, two)

module _ {D : Type 0} (storage : Ghosts D) (both : AmongBoth) where
  -- a run after another one, of which nothing is in doubt
  pub since_joined : (IsTrue storage.is_honest → GatesStay storage) → (begun : Begun) (left : ℕ → Contents → Type 0) (mid new : Core D) (first second : List Commit)
      → is_halted mid ≡ false → mid.in_doubt ≡ []
      → RunsSince storage begun left mid first → Runs storage mid new second
      → RunsSince storage begun left new (first ++ second)
  since_joined gates_stay begun left mid new first second working settled one two =
      let all_of_first = subst (λ (events : List Event). events_of first ++ events ≡ events_of first) (sym settled) (append-nil (events_of first)) in
      let all_commits = subst (λ (events : List Event). first ++ in_one events ≡ first) (sym settled) (append-nil first) in
      let sets : facts mid ≡ facts_behind begun.facts first = λ i fact. one.facts fact i in
      let given : environment mid ≡ begun.environment = λ i fact. one.environment fact i in
      let first_are = first_ends (events_of first) mid.in_doubt one.are_ends in
      let order : events_of (first ++ second) ++ new.in_doubt ≡ events_of first ++ (events_of second ++ new.in_doubt) =
      ap (λ (events : List Event). events ++ new.in_doubt) (events_joined first second) ∙ append_assoc (events_of first) (events_of second) new.in_doubt
      in
      let pending : (first ++ second) ++ in_one new.in_doubt ≡ first ++ (second ++ in_one new.in_doubt) = append_assoc first second (in_one new.in_doubt) in
      let counted : length (events_of (first ++ second)) ≡ length (events_of first) + length (events_of second) = ap length (events_joined first second) ∙ length-append (events_of first) (events_of second) in
      let calm : HasErredFrom begun.failures (storage.failures mid.vault.disk) begun.refusals (storage.refusals mid.vault.disk) → ⊥ = λ erred. false≢true (sym working ∙ one.halts.1 erred) in
      record {
        are_ends = subst (λ (events : List Event). AllByRecursion IsEnd events) (sym order) (ends_joined (events_of first) (events_of second ++ new.in_doubt) first_are two.are_ends);
        legal =
            subst (λ (events : List Event). AreLegalFrom begun.graph begun.facts events) (sym order)
            (legal_joined both begun.graph begun.facts (events_of first) (events_of second ++ new.in_doubt) (subst (λ (events : List Event). AreLegalFrom begun.graph begun.facts events) all_of_first one.legal)
            (subst (λ (g : Graph). AreLegalFrom g (facts_behind begun.facts first) (events_of second ++ new.in_doubt)) one.graph
            (subst (λ (S : Facts). AreLegalFrom (graph mid) S (events_of second ++ new.in_doubt)) sets two.legal)));
        graph = two.graph ∙ one.graph;
        facts = λ fact. two.facts fact ∙ ap (λ (S : Facts). facts_behind S second fact) sets ∙ ap (λ (S : Facts). S fact) (sym (facts_joined both begun.facts first second));
        environment = λ fact. two.environment fact ∙ one.environment fact;
        spent = both_spent new.allowance mid.allowance begun.allowance (length (events_of first)) (length (events_of second)) (length (events_of (first ++ second))) counted one.spent two.spent;
        latest = two.latest ∙ ap (λ (commit : Commit). latest_after commit second) one.latest ∙ sym (latest_joined begun.latest first second);
        generation = λ goes. two.generation goes ∙ one.generation working;
        end = λ goes. ends_behind new.vault.journal.end mid.vault.journal.end begun.end (records_length first) (records_length second) (records_length (first ++ second)) (two.end goes) (one.end working) (records_joined first second);
        crashes = λ on.
            subst (λ (commits : List Commit). LeavesSince storage.moment storage.left_at begun.moment left new.vault.disk (StandsForBeginning begun.graph begun.environment begun.facts [] commits)) (sym pending)
            (joined_since storage.moment storage.left_at begun.moment left mid.vault.disk new.vault.disk
            (StandsForBeginning begun.graph begun.environment begun.facts [] (first ++ in_one mid.in_doubt))
            (StandsForBeginning (graph mid) (environment mid) (facts mid) [] (second ++ in_one new.in_doubt))
            (StandsForBeginning begun.graph begun.environment begun.facts [] (first ++ (second ++ in_one new.in_doubt)))
            (one.crashes on) (two.crashes on)
            (λ contents stands.
            extended begun.graph begun.environment begun.facts first (second ++ in_one new.in_doubt) contents
            (subst (λ (commits : List Commit). StandsForBeginning begun.graph begun.environment begun.facts [] commits contents) all_commits stands))
            (λ contents stands.
            behind both begun.graph (graph mid) begun.environment (environment mid) begun.facts (facts mid) first (second ++ in_one new.in_doubt) contents one.graph given sets
            (λ made. environment_stays both begun.environment first made first_are) stands));
        acknowledged = λ on.
            let second_leaves = two.crashes on in
            ends_acknowledged begun.graph begun.environment begun.facts (storage.left_at mid.vault.disk) (storage.left_at new.vault.disk) (storage.moment mid.vault.disk) (storage.moment new.vault.disk) second_leaves.later (λ t contents early was. (second_leaves.stays t contents early).0 was)
            begun.moment [] first second (in_one new.in_doubt) (one.crashes on).later
            (subst (λ (doubt : List Event). AcknowledgesFrom begun.graph begun.environment begun.facts (storage.left_at mid.vault.disk) (storage.moment mid.vault.disk) begun.moment [] first (in_one doubt)) settled (one.acknowledged on))
            (subst (λ (made : List Commit). AcknowledgesFrom begun.graph begun.environment begun.facts (storage.left_at new.vault.disk) (storage.moment new.vault.disk) (storage.moment mid.vault.disk) made second (in_one new.in_doubt)) (append-nil first)
            (carried both begun.graph (graph mid) begun.environment (environment mid) begun.facts (facts mid) first one.graph (given ∙ sym (given_by_ends begun.environment (events_of first) first_are)) sets (storage.left_at new.vault.disk) (storage.moment new.vault.disk) (storage.moment mid.vault.disk) [] second (in_one new.in_doubt) (two.acknowledged on)));
        gates = λ on has.
            let here = one.gates on has in
            let at_last = leaves_at_last storage.moment storage.left_at begun.moment left mid.vault.disk HasGates here in
            joined_since storage.moment storage.left_at begun.moment left mid.vault.disk new.vault.disk HasGates HasGates HasGates here
            (two.gates on (gates_stay on mid.vault.disk mid.vault.disk at_last)) (λ c so. so) (λ c so. so);
        halts = (
          λ is. later_erred begun.failures (storage.failures mid.vault.disk) (storage.failures new.vault.disk) begun.refusals (storage.refusals mid.vault.disk) (storage.refusals new.vault.disk) one.later calm (two.halts.0 is),
          λ erred. two.halts.1 (erred_later begun.failures (storage.failures mid.vault.disk) (storage.failures new.vault.disk) begun.refusals (storage.refusals mid.vault.disk) (storage.refusals new.vault.disk) one.later calm erred),
        );
        later = omega (arith, one.later, two.later);
        some_in_doubt = λ stops.
            let last = two.some_in_doubt stops in
            (last.0, both_within mid.allowance begun.allowance (length (events_of first)) (length (events_of second)) (length (events_of (first ++ second))) (length new.in_doubt) counted one.spent last.1);
      }

  pub goes_on : (IsTrue storage.is_honest → GatesStay storage) → (old mid new : Core D) → is_halted mid ≡ false → mid.in_doubt ≡ []
      → RunsOn storage old mid → RunsOn storage mid new → RunsOn storage old new
  goes_on gates_stay old mid new working settled one two = record {
    commits = one.commits ++ two.commits;
    runs = since_joined gates_stay (begun_by storage old) (storage.left_at old.vault.disk) mid new one.commits two.commits working settled one.runs two.runs;
  }
