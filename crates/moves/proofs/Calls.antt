-- What each call makes of the commit order, and what a crash leaves at each moment of it.
use Rattle.disk.specs.Storage.{Errs, Leaves}
use Rattle.disk.specs.declared.storage.Disk.{Ghosts}
use Rattle.std.proofs.Common.{◌≡◌, ◌∙◌, ◌⊎◌, ◌↔◌, ap, sym, refl, subst, inl, inr, ℕ, Bool, true, false, List, [], ◌∷◌, ◌++◌, Result, Ok, Err, OnErr, IsTrue}
use Rattle.std.proofs.lemmas.Bool.{false≢true}
use Rattle.std.proofs.lemmas.List.{append-nil}
use Rattle.disk.specs.Moments.{begun, weakened}
use Rattle.disk.specs.Time.{Contents, MayLeaveNow}
use Rattle.terms.specs.declared.event.Event.{Event}
use Rattle.terms.specs.Commits.{Commit, events_of, facts_behind, environment_behind}
use Rattle.terms.specs.Facts.{Fact, event_facts, environment_facts}
use Rattle.terms.specs.Sets.{AmongBoth, Facts, with_facts}
use Rattle.graph.specs.Graph.{Graph}
use Rattle.machine.specs.declared.refusal.Refusal.{Refusal}
use Rattle.machine.specs.Machine.{Machine}
use Rattle.machine.specs.Machine as machine
use Rattle.machine.specs.State.{AreLegalFrom}
use Rattle.vault.specs.Commits.{AppendLeaves, HeldLeaves}
use Rattle.vault.specs.Opened.{contents_of}
use Rattle.vault.specs.Stands.{Stands, other_side}
use Rattle.vault.specs.Store.{HasGates, StandsBeforeOrAfter, nothing}
use Rattle.commit.specs.declared.error.CoreError.{CoreError}
use Rattle.commit.specs.Calls.{Commits, Halts, KeepsStore, Stays}
use Rattle.commit.specs.Core.{Core, graph, facts, environment, is_halted}
use Rattle.commit.specs.Kept.{Keeps}
use Rattle.commit.specs.Runs.{in_one}
use Rattle.commit.specs.Turning.{TurnsAs}
use Rattle.commit.proofs.Lists.{environment_joined, facts_joined}
use Rattle.commit.proofs.Running.{legal_in_doubt}
use Rattle.commit.proofs.Taken.{at_end}
use Rattle.moves.specs.Order.{HaltedBy, History}
use Rattle.moves.specs.There.{Has, LeavesThere, MayStand}
use Rattle.moves.proofs.Kept.{stayed}
use Rattle.moves.proofs.Known.{IsLegal, all, carried, given, legal_after, more_legal, prefix_legal, stands_now}

-- the order with one commit more, and the same with the commit in doubt
abbrev pub with_commit : History → Commit → History
with_commit h commit = record { made = h.made ++ commit ∷ []; doubt = h.doubt }

abbrev pub with_doubt : History → Commit → History
with_doubt h commit = record { made = h.made; doubt = commit ∷ [] }

module _
    {D : Type 0} (storage : Ghosts D) (on : (IsTrue storage.is_honest)) (both : AmongBoth)
    (now : (disk : D) (contents : Contents) → storage.left_at disk (storage.moment disk) contents ↔ MayLeaveNow (storage.files disk) contents) (reads : (disk : D) → MayLeaveNow (storage.files disk) (contents_of (storage.files disk)))
    (held : HeldLeaves storage) (appends : AppendLeaves storage) (g : Graph)
  where
    -- what is known while a core is open
    pub record Stood (h : History) (c : Core D) : Type 0 where
      pub has : Has g h c
      pub leaves : LeavesThere storage.files g h c.vault.disk
      pub keeps : Keeps storage c

    -- what a crash leaves at each moment of a call
    abbrev pub LeavesAt : History → (old new : D) → Type 0
    LeavesAt h old new = Leaves storage old new (λ contents. MayStand g h contents × HasGates contents)

    pub both_hold : (old new : D) (P Q : Contents → Type 0) → Leaves storage old new P → Leaves storage old new Q → Leaves storage old new (λ c. P c × Q c)
    both_hold old new P Q p q = record { later = p.later; each = λ t c from to left. (p.each t c from to left, q.each t c from to left); stays = p.stays }

    pub gated : (h : History) (disk : D) → LeavesThere storage.files g h disk → HasGates (contents_of (storage.files disk))
    gated h disk leaves = (leaves (contents_of (storage.files disk)) (reads disk)).1

    -- what is left at the end of a call
    pub left_at_end : (h : History) (old new : D) → LeavesAt h old new → LeavesThere storage.files g h new
    left_at_end h old new leaving contents may = at_end storage now old new (λ c. MayStand g h c × HasGates c) leaving contents may

    pub rest_leaves : (h : History) (disk : D) → LeavesThere storage.files g h disk → LeavesAt h disk disk
    rest_leaves h disk leaves = begun storage.moment storage.left_at disk (λ contents. MayStand g h contents × HasGates contents) (λ contents left. leaves contents ((now disk contents).0 left))

    -- a core that is not halted has files that stand for what was made
    pub held_now : (h : History) (c : Core D) → Has g h c → Keeps storage c → is_halted c ≡ false → ((contents : Contents) → MayLeaveNow (storage.files c.vault.disk) contents → HasGates contents) → LeavesThere storage.files g h c.vault.disk
    held_now h c has keeps goes gates contents may = (
      stands_now g h c has h.doubt contents
          (at_end storage now c.vault.disk c.vault.disk (λ k. Stands k (graph c) (environment c) (facts c)) (held c.vault (graph c) (environment c) (facts c) ((keeps.kept on).holds goes)) contents may),
      gates contents may,
    )

    -- ---- nothing has changed

    pub rests : (h : History) (old new : Core D) → Stood h old → Keeps storage new → KeepsStore old new → Stood h new × LeavesAt h old.vault.disk new.vault.disk
    rests h old new stood keeps same = (
      record {
        has = record {
          graph = same.graph ∙ stood.has.graph;
          facts = λ fact. same.facts fact ∙ stood.has.facts fact;
          environment = λ fact. same.environment fact ∙ stood.has.environment fact;
          doubt = stood.has.doubt ∙ ap in_one (sym same.in_doubt);
          settled = λ goes. stood.has.settled (sym same.vault.halted ∙ goes);
        };
        leaves = subst (λ (d : D). LeavesThere storage.files g h d) (sym same.vault.disk) stood.leaves;
        keeps = keeps;
      },
      subst (λ (d : D). LeavesAt h old.vault.disk d) (sym same.vault.disk) (rest_leaves h old.vault.disk stood.leaves),
    )

    -- an error that did not halt the core
    pub unchanged : {T : Type 0} (h : History) (old new : Core D) (error : CoreError) → Stood h old → Keeps storage new → Stays old new → Halts {T = T} storage old new (Err error) → is_halted new ≡ is_halted old
        → Stood h new × LeavesAt h old.vault.disk new.vault.disk
    unchanged h old new error stood keeps stays halts halted =
        let same = halts.same halted in
        rests h old new stood keeps (stayed old new stays same.0 same.1)

    -- ---- a call that commits an event

    -- what such a call comes to, by its result
    abbrev pub Comes : {T : Type 0} → History → Commit → (old new : Core D) → Result T CoreError → Type 0
    Comes h commit old new (Ok value) = (is_halted new ≡ false) × Stood (with_commit h commit) new × IsLegal g (with_commit h commit)
    Comes h commit old new (Err error) = ((HaltedBy old new → ⊥) × Stood h new) ⊎ (HaltedBy old new × (h.doubt ≡ []) × Stood (with_doubt h commit) new × IsLegal g (with_doubt h commit))

    -- what a crash leaves at each moment of it
    abbrev pub Leaving : History → Commit → Core D → Core D → Type 0
    Leaving h commit old new = LeavesAt h old.vault.disk new.vault.disk ⊎ ((is_halted old ≡ false) × (h.doubt ≡ []) × IsLegal g (with_doubt h commit) × LeavesAt (with_doubt h commit) old.vault.disk new.vault.disk)

    module _ (h : History) (old new : Core D) (event : Event) (why : Refusal → Type 0) (stood : Stood h old) (keeps : Keeps storage new) (legal : IsLegal g h) where
      abbrev commit : Commit
      commit = event ∷ []

      made_legal : AreLegalFrom g nothing (events_of h.made)
      made_legal = prefix_legal g h.made h.doubt (h.made ++ h.doubt) refl legal

      -- one event more is legal
      doubt_legal : AreLegalFrom (graph old) (facts old) commit → IsLegal g (with_doubt h commit)
      doubt_legal one = more_legal both g h.made commit made_legal (legal_after g h old stood.has commit one)

      commit_legal : h.doubt ≡ [] → AreLegalFrom (graph old) (facts old) commit → IsLegal g (with_commit h commit)
      commit_legal none one =
          subst (λ (commits : List Commit). AreLegalFrom g nothing (events_of commits)) (sym (append-nil (h.made ++ commit ∷ [])) ∙ ap (λ (doubt : List Commit). (h.made ++ commit ∷ []) ++ doubt) (sym none))
          (doubt_legal one)

      -- what a crash leaves of a core that was not halted
      cut_short : {T : Type 0} (result : Result T CoreError) → Commits storage old new why event result → is_halted old ≡ false → LeavesAt (with_doubt h commit) old.vault.disk new.vault.disk
      cut_short result it goes =
          let moments = it.moments on goes in
          both_hold old.vault.disk new.vault.disk (MayStand g (with_doubt h commit)) HasGates
          (appends old.vault new.vault g nothing nothing h.made commit
          (carried g h old stood.has (λ k E X. Leaves storage old.vault.disk new.vault.disk (StandsBeforeOrAfter k E X commit)) moments.facts))
          (moments.gates (gated h old.vault.disk stood.leaves))

      came : {T : Type 0} (value : T) → Commits storage old new why event (Ok value) → Stood (with_commit h commit) new × IsLegal g (with_commit h commit)
      came {T} value it =
          let takes = it.takes in
          let goes = takes.working.0 in
          let works = takes.working.1 in
          let none = stood.has.settled goes in
          let has : Has g (with_commit h commit) new = record {
            graph = takes.takes.graph ∙ stood.has.graph;
            facts = λ fact.
                takes.takes.facts fact ∙ ap (λ (X : Facts). with_facts X (event_facts event) fact) (all g h old stood.has)
                ∙ ap (λ (list : List Fact). with_facts (facts_behind nothing h.made) list fact) (sym (append-nil (event_facts event)))
                ∙ ap (λ (X : Facts). X fact) (sym (facts_joined both nothing h.made (commit ∷ [])));
            environment = λ fact.
                takes.takes.environment fact ∙ ap (λ (E : Facts). with_facts E (environment_facts event) fact) (given g h old stood.has)
                ∙ ap (λ (list : List Fact). with_facts (environment_behind nothing h.made) list fact) (sym (append-nil (environment_facts event)))
                ∙ ap (λ (E : Facts). E fact) (sym (environment_joined both nothing h.made (commit ∷ [])));
            doubt = none ∙ ap in_one (sym (keeps.settled works));
            settled = λ _. none;
          } in (
            record {
              has = has;
              leaves = held_now (with_commit h commit) new has keeps works (λ contents may. (left_at_end (with_doubt h commit) old.vault.disk new.vault.disk (cut_short (Ok value) it goes) contents may).1);
              keeps = keeps;
            },
            commit_legal none (takes.legal, tt),
          )

      -- an error that halted the core leaves the commit in doubt
      halted_by : {T : Type 0} (error : CoreError) → Commits {T = T} storage old new why event (Err error) → Stays old new → Halts {T = T} storage old new (Err error) → is_halted old ≡ false → is_halted new ≡ true
          → (h.doubt ≡ []) × Stood (with_doubt h commit) new × IsLegal g (with_doubt h commit)
      halted_by {T} error it stays halts goes stops =
          let erred : Errs storage old.vault.disk new.vault.disk = elim (halts.halts.0 stops) [ inl is ↦ absurd (false≢true (sym goes ∙ is)) | inr here ↦ here ] in
          let one = legal_in_doubt storage {T = T} old new why event error it.refused halts erred in (
            stood.has.settled goes,
            record {
              has = record {
                graph = stays.graph ∙ stood.has.graph;
                facts = λ fact. stays.facts fact ∙ stood.has.facts fact;
                environment = λ fact. stays.environment fact ∙ stood.has.environment fact;
                doubt = ap in_one (sym (it.doubt goes stops));
                settled = λ works. absurd (false≢true (sym works ∙ stops));
              };
              leaves = left_at_end (with_doubt h commit) old.vault.disk new.vault.disk (cut_short {T = T} (Err error) it goes);
              keeps = keeps;
            },
            doubt_legal (one, tt),
          )

      pub comes : {T : Type 0} (result : Result T CoreError) → Commits storage old new why event result → OnErr result (Stays old new) → Halts storage old new result → Comes h commit old new result
      comes {T} (Ok value) it stays halts = let done = came {T = T} value it in (it.takes.working.1, done.0, done.1)
      comes {T} (Err error) it stays halts = before (is_halted old) refl
        where
          before : (b : Bool) → is_halted old ≡ b → Comes {T = T} h commit old new (Err error)
          before true is = inl (λ halted. false≢true (sym halted.0 ∙ is), (unchanged {T = T} h old new error stood keeps stays halts (halts.halts.1 (inl is) ∙ sym is)).0)
          before false goes = after (is_halted new) refl
            where
              after : (b : Bool) → is_halted new ≡ b → Comes {T = T} h commit old new (Err error)
              after false works = inl (λ halted. false≢true (sym works ∙ halted.1), (unchanged {T = T} h old new error stood keeps stays halts (works ∙ sym goes)).0)
              after true stops = let it_is = halted_by {T = T} error it stays halts goes stops in inr ((goes, stops), it_is.0, it_is.1, it_is.2)

      pub leaving : {T : Type 0} (result : Result T CoreError) → Commits storage old new why event result → OnErr result (Stays old new) → Halts storage old new result → Leaving h commit old new
      leaving {T} (Ok value) it stays halts =
          let goes = it.takes.working.0 in
          inr (goes, stood.has.settled goes, doubt_legal (it.takes.legal, tt), cut_short (Ok value) it goes)
      leaving {T} (Err error) it stays halts = before (is_halted old) refl
        where
          before : (b : Bool) → is_halted old ≡ b → Leaving h commit old new
          before true is = inl (unchanged {T = T} h old new error stood keeps stays halts (halts.halts.1 (inl is) ∙ sym is)).1
          before false goes = after (is_halted new) refl
            where
              after : (b : Bool) → is_halted new ≡ b → Leaving h commit old new
              after false works = inl (unchanged {T = T} h old new error stood keeps stays halts (works ∙ sym goes)).1
              after true stops = let it_is = halted_by {T = T} error it stays halts goes stops in inr (goes, it_is.0, it_is.2, cut_short {T = T} (Err error) it goes)

    -- ---- a turnover

    module _ (h : History) (old new : Core D) (stood : Stood h old) (keeps : Keeps storage new) where
      turning : (result : Result ℕ CoreError) → TurnsAs storage old new result → is_halted old ≡ false → LeavesAt h old.vault.disk new.vault.disk
      turning result it goes =
          let gates = gated h old.vault.disk stood.leaves in
          let moments = it.moments on goes in
          both_hold old.vault.disk new.vault.disk (MayStand g h) HasGates
          (weakened storage.moment storage.left_at old.vault.disk new.vault.disk (λ contents. Stands contents (graph old) (environment old) (facts old)) (MayStand g h) (moments.facts (gates (other_side old.vault.journal.side)))
          (λ contents stands. stands_now g h old stood.has h.doubt contents stands))
          (moments.gates gates)

      pub turned : (result : Result ℕ CoreError) → TurnsAs storage old new result → Stood h new × LeavesAt h old.vault.disk new.vault.disk
      turned (Ok generation) it =
          let goes = it.ok.working.0 in
          let same = it.ok.machine in
          let leaves = turning (Ok generation) it goes in (
            record {
              has = record {
                graph = ap (λ (m : Machine). m.graph) same ∙ stood.has.graph;
                facts = λ fact. ap (λ (m : Machine). machine.facts m fact) same ∙ stood.has.facts fact;
                environment = λ fact. ap (λ (m : Machine). machine.environment m fact) same ∙ stood.has.environment fact;
                doubt = stood.has.doubt ∙ ap in_one (sym it.doubt);
                settled = λ _. stood.has.settled goes;
              };
              leaves = left_at_end h old.vault.disk new.vault.disk leaves;
              keeps = keeps;
            },
            leaves,
          )
      turned (Err error) it = before (is_halted old) refl
        where
          stays : Stays old new
          stays = it.err.stays

          before : (b : Bool) → is_halted old ≡ b → Stood h new × LeavesAt h old.vault.disk new.vault.disk
          before true is = unchanged {T = ℕ} h old new error stood keeps stays it.halts (it.halts.halts.1 (inl is) ∙ sym is)
          before false goes = after (is_halted new) refl
            where
              after : (b : Bool) → is_halted new ≡ b → Stood h new × LeavesAt h old.vault.disk new.vault.disk
              after false works = unchanged {T = ℕ} h old new error stood keeps stays it.halts (works ∙ sym goes)
              after true stops =
                  let leaves = turning (Err error) it goes in (
                    record {
                      has = record {
                        graph = stays.graph ∙ stood.has.graph;
                        facts = λ fact. stays.facts fact ∙ stood.has.facts fact;
                        environment = λ fact. stays.environment fact ∙ stood.has.environment fact;
                        doubt = stood.has.doubt ∙ ap in_one (sym it.doubt);
                        settled = λ works. absurd (false≢true (sym works ∙ stops));
                      };
                      leaves = left_at_end h old.vault.disk new.vault.disk leaves;
                      keeps = keeps;
                    },
                    leaves,
                  )
