-- From a creation, one move after another.
use Rattle.disk.specs.declared.storage.Disk.{Ghosts}
use Rattle.std.proofs.Common.{◌≡◌, ◌∙◌, ◌⊎◌, ◌↔◌, ◌<◌, ap, sym, refl, subst, inl, inr, ℕ, Bool, true, false, List, [], ◌∷◌, ◌++◌, length, Result, Ok, Err, OnErr, arith, IsTrue}
use Rattle.std.proofs.lemmas.Bool.{false≢true}
use Rattle.std.proofs.lemmas.List.{append-nil}
use Rattle.disk.specs.Time.{Contents, MayLeaveNow}
use Rattle.terms.specs.declared.name.Inst.{Inst}
use Rattle.terms.specs.declared.event.Event.{Event}
use Rattle.terms.specs.declared.event.Event.TheVariants.{EnvItem, EnvTag}
use Rattle.terms.specs.Commits.{Commit, events_of}
use Rattle.terms.specs.Sets.{AmongBoth}
use Rattle.graph.specs.Graph.{Graph}
use Rattle.instances.specs.declared.state.State.TheVariants.{Ready}
use Rattle.machine.specs.declared.group.Ended.{Ended}
use Rattle.machine.specs.Group.{cut as cut_ends}
use Rattle.machine.specs.Machine.{RefusesEnd, RefusesItem, RefusesTag}
use Rattle.machine.specs.StateLaws.{LegalAsSet, QuietWaits, ReachedIsMeaning, ReachedIsWithin, ReachedStoppedOrQuiet}
use Rattle.vault.specs.Commits.{AppendLeaves, GatesRest, HeldLeaves, IsLeft}
use Rattle.vault.specs.Opened.{contents_of}
use Rattle.vault.specs.Stands.{OneStore}
use Rattle.commit.specs.declared.error.CoreError.{CoreError}
use Rattle.commit.specs.declared.outcome.Committed.{Committed}
use Rattle.commit.specs.Batch.{EndsAll}
use Rattle.commit.specs.Calls.{GivesBack, IsUnchanged, Stays}
use Rattle.commit.specs.Core.{Core, graph, facts, is_halted}
use Rattle.commit.specs.Kept.{Keeps}
use Rattle.commit.specs.Outcome.{end_of}
use Rattle.commit.specs.Runs.{in_one}
use Rattle.commit.specs.Went.{GoesOn}
use Rattle.commit.proofs.Ended.{end_is_told}
use Rattle.moves.specs.Call.{Call, Does, Tries, acknowledged, puts_item, puts_tag, claims, parks, releases, wakes, finishes, finishes_all, turns, allows}
use Rattle.moves.specs.Move.{Leads, LeadsAll, Move, Place, at_core, at_disk, whole, cut, goes_on, going_cut, crashes, gives_back, crashes_again, opens, opening_cut}
use Rattle.moves.specs.Order.{Extends, ExtendsAll, HaltedBy, History, TriesNone, acknowledged_by, begun as begun_order}
use Rattle.moves.specs.There.{IsThere, LeavesThere}
use Rattle.moves.specs.Every.{Along, ForEverySchedule, IsKnown, Means}
use Rattle.moves.proofs.Calls.{Leaving, LeavesAt, Stood, comes, leaving, rest_leaves, rests, turned, with_commit, with_doubt}
use Rattle.moves.proofs.Going.{after_legal, leaving as leaving_in_part, part_legal, stood_after, with_commits, with_doubts}
use Rattle.moves.proofs.Kept.{allowed, claimed, moved, parked, woken}
use Rattle.moves.proofs.Known.{IsLegal}
use Rattle.moves.proofs.Meant.{means, stands_within}
use Rattle.moves.proofs.Openings.{crashed, created, cut_reading, only_read, opened_well, opens_or_errs}
use Rattle.moves.proofs.Orders.{acknowledged_there}
use Rattle.moves.proofs.Together.{came, leaving_together, tried}

module _
    {D : Type 0} (storage : Ghosts D) (on : (IsTrue storage.is_honest)) (both : AmongBoth)
    (now : (disk : D) (contents : Contents) → storage.left_at disk (storage.moment disk) contents ↔ MayLeaveNow (storage.files disk) contents) (reads : (disk : D) → MayLeaveNow (storage.files disk) (contents_of (storage.files disk)))
    (held : HeldLeaves storage) (appends : AppendLeaves storage) (one : OneStore) (g : Graph)
  where
    abbrev StoodHere : History → Core D → Type 0
    StoodHere = Stood storage on both now reads held appends g

    abbrev LeavesHere : History → D → D → Type 0
    LeavesHere = LeavesAt storage on both now reads held appends g

    -- what is known at a place
    abbrev At : History → Place D → Type 0
    At h (at_core c) = StoodHere h c × IsLegal g h
    At h (at_disk disk) = LeavesThere storage.files g h disk × IsLegal g h

    -- what a move makes of the order, and what is known then
    abbrev GoesTo : Move D → (from : Place D) → History → (to : Place D) → Type 0
    GoesTo move from h to = (next : History) × Extends move from to h next × At next to

    -- ---- whole calls

    same_order : (h : History) → h ≡ record { made = h.made ++ []; doubt = h.doubt }
    same_order h = λ i. record { made = sym (append-nil h.made) i; doubt = h.doubt }

    -- a call that leaves the order as it is
    stays_whole : (call : Call) (h : History) (old new : Core D) → acknowledged call ≡ [] → (HaltedBy old new → TriesNone call) → StoodHere h new → IsLegal g h → GoesTo (whole call) (at_core old) h (at_core new)
    stays_whole call h old new none tries stood legal =
        (h, inr (tries, same_order h ∙ ap (λ (commits : List Commit). record { made = h.made ++ commits; doubt = h.doubt }) (sym none)), (stood, legal))

    -- a call that committed an event, or did not
    committed : (call : Call) (h : History) (commit : Commit) (old new : Core D) → acknowledged call ≡ commit ∷ [] → (is_halted new ≡ false) × StoodHere (with_commit h commit) new × IsLegal g (with_commit h commit)
        → GoesTo (whole call) (at_core old) h (at_core new)
    committed call h commit old new is it = (
      with_commit h commit,
      inr (λ halted. absurd (false≢true (sym it.0 ∙ halted.1)), ap (λ (commits : List Commit). record { made = h.made ++ commits; doubt = h.doubt }) (sym is)),
      (it.1, it.2),
    )

    refused : (call : Call) (h : History) (commit : Commit) (old new : Core D) → acknowledged call ≡ [] → (HaltedBy old new → Tries call commit) → IsLegal g h
        → ((HaltedBy old new → ⊥) × StoodHere h new) ⊎ (HaltedBy old new × (h.doubt ≡ []) × StoodHere (with_doubt h commit) new × IsLegal g (with_doubt h commit)) → GoesTo (whole call) (at_core old) h (at_core new)
    refused call h commit old new none tries legal (inl stood) = stays_whole call h old new none (λ halted. absurd (stood.0 halted)) stood.1 legal
    refused call h commit old new none tries legal (inr doubt) = (with_doubt h commit, inl (doubt.0, none, (commit, tries doubt.0, doubt.1, refl)), (doubt.2, doubt.3))

    -- ---- calls that were cut off

    cut_still : (call : Call) (h : History) (old new : Core D) (disk : D) → LeavesHere h old.vault.disk new.vault.disk → IsLeft storage old.vault.disk new.vault.disk disk → IsLegal g h
        → GoesTo (cut call new) (at_core old) h (at_disk disk)
    cut_still call h old new disk leaves left legal =
        (h, inl refl, (crashed storage on both now reads held appends g h old.vault.disk new.vault.disk disk leaves left, legal))

    cut_commit : (call : Call) (h : History) (commit : Commit) (old new : Core D) (disk : D) → Tries call commit → IsLegal g h → IsLeft storage old.vault.disk new.vault.disk disk
        → Leaving storage on both now reads held appends g h commit old new → GoesTo (cut call new) (at_core old) h (at_disk disk)
    cut_commit call h commit old new disk tries legal left (inl leaves) = cut_still call h old new disk leaves left legal
    cut_commit call h commit old new disk tries legal left (inr doubt) = (
      with_doubt h commit,
      inr (doubt.0, (commit, tries, doubt.1, refl)),
      (crashed storage on both now reads held appends g (with_doubt h commit) old.vault.disk new.vault.disk disk doubt.3 left, doubt.2),
    )

    -- ---- each call

    stays_of : {T : Type 0} (old new : Core D) (result : Result T CoreError) → OnErr result (IsUnchanged old new) → OnErr result (Stays old new)
    stays_of old new (Ok value) unchanged = tt
    stays_of old new (Err error) unchanged = unchanged.stays

    back_of : {T : Type 0} (old new : Core D) (task : _) (result : Result T CoreError) → OnErr result (GivesBack old new task) → OnErr result (Stays old new)
    back_of old new task (Ok value) back = tt
    back_of old new task (Err error) back = back.stays

    module _ (h : History) (old new : Core D) (stood : StoodHere h old) (keeps : Keeps storage new) (legal : IsLegal g h) where
      -- what was tried of several ends, if it was not nothing
      some_tried : (tasks : List Inst) (ends : List Event) (result : Result Ended CoreError) → (does : EndsAll storage old new tasks ends result) → 0 < length does.finishes.commit
          → (0 < length does.finishes.commit) × ((ended : Ended) × (does.finishes.commit ≡ cut_ends ended ends))
      some_tried tasks ends result does some = elim does.finishes.tried [
        | inl none ↦ absurd (omega (arith, some, ap (λ (events : List Event). length events) none))
        | inr of ↦ (some, (of.0, of.2))
      ]

      by_call : (call : Call) → Does storage call old new → GoesTo (whole call) (at_core old) h (at_core new)
      by_call (puts_item address value (Ok done)) does =
          committed (puts_item address value (Ok done)) h (EnvItem address value ∷ []) old new refl
          (comes storage on both now reads held appends g h old new (EnvItem address value) (RefusesItem (graph old) (facts old) address) stood keeps legal (Ok done) does.commits tt does.halts)
      by_call (puts_item address value (Err error)) does =
          refused (puts_item address value (Err error)) h (EnvItem address value ∷ []) old new refl (λ _. refl) legal
          (comes storage on both now reads held appends g h old new (EnvItem address value) (RefusesItem (graph old) (facts old) address) stood keeps legal {T = Unit {0}} (Err error) does.commits does.unchanged.stays does.halts)
      by_call (puts_tag name (Ok done)) does =
          committed (puts_tag name (Ok done)) h (EnvTag name ∷ []) old new refl
          (comes storage on both now reads held appends g h old new (EnvTag name) (RefusesTag (graph old) (facts old) name) stood keeps legal (Ok done) does.commits tt does.halts)
      by_call (puts_tag name (Err error)) does =
          refused (puts_tag name (Err error)) h (EnvTag name ∷ []) old new refl (λ _. refl) legal
          (comes storage on both now reads held appends g h old new (EnvTag name) (RefusesTag (graph old) (facts old) name) stood keeps legal {T = Unit {0}} (Err error) does.commits does.unchanged.stays does.halts)
      by_call (finishes instance outcome (Ok told)) does =
          let end = does.finishes.end in
          let is : end ≡ end_of told instance outcome = end_is_told told instance outcome end does.finishes.is_end does.finishes.told in
          committed (finishes instance outcome (Ok told)) h (end ∷ []) old new (ap (λ (event : Event). (event ∷ []) ∷ []) (sym is))
          (comes storage on both now reads held appends g h old new end (RefusesEnd (facts old)) stood keeps legal (Ok told) does.finishes.commits tt does.halts)
      by_call (finishes instance outcome (Err error)) does =
          let end = does.finishes.end in
          refused (finishes instance outcome (Err error)) h (end ∷ []) old new refl (λ _. (end, does.finishes.is_end, refl)) legal
          (comes storage on both now reads held appends g h old new end (RefusesEnd (facts old)) stood keeps legal {T = Committed} (Err error) does.finishes.commits does.err.stays does.halts)
      by_call (finishes_all tasks ends (Ok ended)) does =
          committed (finishes_all tasks ends (Ok ended)) h (cut_ends ended ends) old new refl (came storage on both now reads held appends g h old new tasks ends stood keeps legal ended does)
      by_call (finishes_all tasks ends (Err error)) does =
          refused (finishes_all tasks ends (Err error)) h does.finishes.commit old new refl (λ halted. some_tried tasks ends (Err error) does (does.finishes.doubt.1 halted.0 halted.1)) legal
          (tried storage on both now reads held appends g h old new tasks ends stood keeps legal error does)
      by_call (claims at result) does =
          stays_whole (claims at result) h old new refl (λ _ commit tries. tries) (rests storage on both now reads held appends g h old new stood keeps (claimed old new at result does)).0 legal
      by_call (parks instance address result) does =
          stays_whole (parks instance address result) h old new refl (λ _ commit tries. tries) (rests storage on both now reads held appends g h old new stood keeps (parked old new instance address result does)).0 legal
      by_call (releases instance) does =
          stays_whole (releases instance) h old new refl (λ _ commit tries. tries) (rests storage on both now reads held appends g h old new stood keeps (moved old new instance Ready does)).0 legal
      by_call (wakes puts) does =
          stays_whole (wakes puts) h old new refl (λ _ commit tries. tries) (rests storage on both now reads held appends g h old new stood keeps (woken old new puts does)).0 legal
      by_call (turns result) does =
          stays_whole (turns result) h old new refl (λ _ commit tries. tries) (turned storage on both now reads held appends g h old new stood keeps result does).0 legal
      by_call (allows count result) does =
          stays_whole (allows count result) h old new refl (λ _ commit tries. tries) (rests storage on both now reads held appends g h old new stood keeps (allowed old new count result does)).0 legal

      by_cut : (call : Call) (disk : D) → Does storage call old new → IsLeft storage old.vault.disk new.vault.disk disk → GoesTo (cut call new) (at_core old) h (at_disk disk)
      by_cut (puts_item address value result) disk does left =
          cut_commit (puts_item address value result) h (EnvItem address value ∷ []) old new disk refl legal left
          (leaving storage on both now reads held appends g h old new (EnvItem address value) (RefusesItem (graph old) (facts old) address) stood keeps legal result does.commits (stays_of old new result does.unchanged) does.halts)
      by_cut (puts_tag name result) disk does left =
          cut_commit (puts_tag name result) h (EnvTag name ∷ []) old new disk refl legal left
          (leaving storage on both now reads held appends g h old new (EnvTag name) (RefusesTag (graph old) (facts old) name) stood keeps legal result does.commits (stays_of old new result does.unchanged) does.halts)
      by_cut (finishes instance outcome result) disk does left =
          cut_commit (finishes instance outcome result) h (does.finishes.end ∷ []) old new disk (does.finishes.end, does.finishes.is_end, refl) legal left
          (leaving storage on both now reads held appends g h old new does.finishes.end (RefusesEnd (facts old)) stood keeps legal result does.finishes.commits (back_of old new instance result does.err) does.halts)
      by_cut (finishes_all tasks ends result) disk does left = elim (leaving_together storage on both now reads held appends g h old new tasks ends stood keeps legal result does) [
        | inl leaves ↦ cut_still (finishes_all tasks ends result) h old new disk leaves left legal
        | inr some ↦ cut_commit (finishes_all tasks ends result) h does.finishes.commit old new disk (some_tried tasks ends result does some.0) legal left some.1
      ]
      by_cut (claims at result) disk does left =
          cut_still (claims at result) h old new disk (rests storage on both now reads held appends g h old new stood keeps (claimed old new at result does)).1 left legal
      by_cut (parks instance address result) disk does left =
          cut_still (parks instance address result) h old new disk (rests storage on both now reads held appends g h old new stood keeps (parked old new instance address result does)).1 left legal
      by_cut (releases instance) disk does left =
          cut_still (releases instance) h old new disk (rests storage on both now reads held appends g h old new stood keeps (moved old new instance Ready does)).1 left legal
      by_cut (wakes puts) disk does left =
          cut_still (wakes puts) h old new disk (rests storage on both now reads held appends g h old new stood keeps (woken old new puts does)).1 left legal
      by_cut (turns result) disk does left =
          cut_still (turns result) h old new disk (turned storage on both now reads held appends g h old new stood keeps result does).1 left legal
      by_cut (allows count result) disk does left =
          cut_still (allows count result) h old new disk (rests storage on both now reads held appends g h old new stood keeps (allowed old new count result does)).1 left legal

      -- ---- runs and sessions

      by_going : (commits : List Commit) → GoesOn storage old new commits → GoesTo (goes_on commits) (at_core old) h (at_core new)
      by_going commits goes = at (is_halted old) refl
        where
          at : (b : Bool) → is_halted old ≡ b → GoesTo (goes_on commits) (at_core old) h (at_core new)
          at true halted =
              let same = goes.stays halted in
              (h, inl (halted, same.1, refl), ((rests storage on both now reads held appends g h old new stood keeps same.0).0, legal))
          at false works =
              let went = goes.went works in (
                with_commits h commits new.in_doubt,
                inr (works, stood.has.settled works, refl),
                (
                  stood_after storage on both now reads held appends g h old new commits stood keeps legal went goes.settled,
                  after_legal storage on both now reads held appends g h old new commits stood keeps legal went,
                ),
              )

      by_going_cut : (commits : List Commit) (disk : D) → GoesOn storage old new commits → IsLeft storage old.vault.disk new.vault.disk disk → GoesTo (going_cut commits new) (at_core old) h (at_disk disk)
      by_going_cut commits disk goes left = at (is_halted old) refl
        where
          at : (b : Bool) → is_halted old ≡ b → GoesTo (going_cut commits new) (at_core old) h (at_disk disk)
          at true halted =
              let same = goes.stays halted in
              let leaves = (rests storage on both now reads held appends g h old new stood keeps same.0).1 in
              (h, inl (halted, refl), (crashed storage on both now reads held appends g h old.vault.disk new.vault.disk disk leaves left, legal))
          at false works =
              let went = goes.went works in
              let doubts = with_doubts h (commits ++ in_one new.in_doubt) in (
                doubts,
                inr (works, stood.has.settled works, refl),
                (
                  crashed storage on both now reads held appends g doubts old.vault.disk new.vault.disk disk
                      (leaving_in_part storage on both now reads held appends g h old new commits stood keeps legal went) left,
                  part_legal storage on both now reads held appends g h old new commits stood keeps legal went,
                ),
              )

    -- ---- each move

    step : (move : Move D) (from to : Place D) (h : History) → At h from → Leads storage move from to → GoesTo move from h to
    step (whole call) (at_core old) (at_core new) h at leads = by_call h old new at.0 leads.1 at.1 call leads.0
    step (cut call new) (at_core old) (at_disk disk) h at leads = by_cut h old new at.0 leads.1 at.1 call disk leads.0 leads.2
    step (goes_on commits) (at_core old) (at_core new) h at leads = by_going h old new at.0 leads.1 at.1 commits leads.0
    step (going_cut commits new) (at_core old) (at_disk disk) h at leads = by_going_cut h old new at.0 leads.1 at.1 commits disk leads.0 leads.2
    step crashes (at_core c) (at_disk disk) h at leads = (
      h,
      refl,
      (
        crashed storage on both now reads held appends g h c.vault.disk c.vault.disk disk
            (rest_leaves storage on both now reads held appends g h c.vault.disk at.0.leaves) leads,
        at.1,
      ),
    )
    step gives_back (at_core c) (at_disk disk) h at leads = (h, refl, (subst (λ (d : D). LeavesThere storage.files g h d) (sym leads) at.0.leaves, at.1))
    step crashes_again (at_disk before) (at_disk disk) h at leads = (
      h,
      refl,
      (
        crashed storage on both now reads held appends g h before before disk
            (rest_leaves storage on both now reads held appends g h before at.0) leads,
        at.1,
      ),
    )
    step (opens (Ok core)) (at_disk disk) (at_core opened) h at leads =
        let it = opened_well storage on both now reads held appends g one h disk core at.0 at.1 leads.0 leads.2 in
        let next : History = record { made = h.made ++ it.0; doubt = [] } in
        (next, (it.0, it.1, it.2, refl), (subst (λ (c : Core D). StoodHere next c) (sym leads.1) it.3, it.4))
    step (opens (Err back)) (at_disk disk) (at_disk given) h at leads =
        (h, refl, (subst (λ (d : D). LeavesThere storage.files g h d) (sym leads.1) (only_read storage on both now reads held appends g h disk back.disk at.0 (leads.0.only_reads on)), at.1))
    step (opening_cut result) (at_disk before) (at_disk disk) h at leads =
        (h, refl, (cut_reading storage on both now reads held appends g h before _ disk at.0 (leads.0.only_reads on) leads.1, at.1))
    step move from to h at leads = absurd leads

    -- ---- what holds then

    module _ (as_set : LegalAsSet) (is_within : ReachedIsWithin) (meaning : ReachedIsMeaning) (stopped_or_quiet : ReachedStoppedOrQuiet) (quiet_waits : QuietWaits) where
      there : (h : History) (place : Place D) → At h place → IsThere storage.files g h place
      there h (at_core c) at = (at.0.has, at.0.leaves)
      there h (at_disk disk) at = at.0

      meant : (h : History) (place : Place D) → At h place → Means storage g place
      meant h (at_core c) at = (
        means as_set is_within meaning stopped_or_quiet quiet_waits g h c at.0.has at.0.keeps.machine at.1,
        stands_within as_set is_within meaning stopped_or_quiet quiet_waits g storage one h c.vault.disk at.0.leaves at.1,
      )
      meant h (at_disk disk) at = (
        stands_within as_set is_within meaning stopped_or_quiet quiet_waits g storage one h disk at.0 at.1,
        opens_or_errs storage on both now reads held appends g h disk at.0,
      )

      legal_at : (h : History) (place : Place D) → At h place → IsLegal g h
      legal_at h (at_core c) at = at.1
      legal_at h (at_disk disk) at = at.1

      known : (h : History) (place : Place D) → At h place → IsKnown storage g h place
      known h place at = record { legal = (as_set g [] (events_of (h.made ++ h.doubt))).1 (legal_at h place at); is_there = there h place at; means = meant h place at }

      -- along the moves one order goes on
      along : (moves : List (Move D)) (from to : Place D) (h : History) → At h from → (leads : LeadsAll storage moves from to)
          → (last : History) × Along storage g moves from to leads h last
      along [] from to h at leads = (h, refl)
      along (move ∷ moves) from to h at leads =
          let first = step move from leads.0 h at leads.1 in
          let rest = along moves leads.0 to first.0 first.2 leads.2 in
          (rest.0, (first.0, first.1, known first.0 leads.0 first.2, rest.1))

      order : (moves : List (Move D)) (from to : Place D) (leads : LeadsAll storage moves from to) (h last : History)
          → Along storage g moves from to leads h last → ExtendsAll moves from to h last
      order [] from to leads h last it = (leads, it)
      order (move ∷ moves) from to leads h last it = (leads.0, it.0, it.1, order moves leads.0 to leads.2 it.0 last it.3)

      pub holds : (moves : List (Move D)) (place : Place D) (core : Core D) → graph core ≡ g → StoodHere begun_order core → (leads : LeadsAll storage moves (at_core core) place)
          → (first : IsKnown storage g begun_order (at_core core)) × (last : History) × Along storage g moves (at_core core) place leads begun_order last
          × ((before after : List (Move D)) (move : Move D) → moves ≡ before ++ move ∷ after
          → (at : Place D) × (earlier : History) × ExtendsAll before (at_core core) at begun_order earlier × ((later : List Commit) × (last.made ≡ earlier.made ++ acknowledged_by move ++ later)))
      holds moves place core is stood leads =
          let it = along moves (at_core core) place begun_order (stood, tt) leads in
          let extends = order moves (at_core core) place leads begun_order it.0 it.1 in (
            known begun_order (at_core core) (stood, tt),
            it.0,
            it.1,
            λ before after move same.
                acknowledged_there D before after move (at_core core) place begun_order it.0 (subst (λ (list : List (Move D)). ExtendsAll list (at_core core) place begun_order it.0) same extends),
          )

module _
    {D : Type 0} (storage : Ghosts D) (on : (IsTrue storage.is_honest)) (both : AmongBoth)
    (now : (disk : D) (contents : Contents) → storage.left_at disk (storage.moment disk) contents ↔ MayLeaveNow (storage.files disk) contents) (reads : (disk : D) → MayLeaveNow (storage.files disk) (contents_of (storage.files disk)))
    (held : HeldLeaves storage) (appends : AppendLeaves storage) (rest : GatesRest storage) (one : OneStore)
    (as_set : LegalAsSet) (is_within : ReachedIsWithin) (meaning : ReachedIsMeaning) (stopped_or_quiet : ReachedStoppedOrQuiet) (quiet_waits : QuietWaits)
  where
    pub for_every_schedule : ForEverySchedule storage
    for_every_schedule text core moves place is_created keeps leads =
        let g = graph core in
        let stood = created storage on both now reads held appends g rest text core refl is_created keeps in
        let it = holds storage on both now reads held appends one g as_set is_within meaning stopped_or_quiet quiet_waits moves place core refl stood leads in
        record { first = it.0; history = it.1; along = it.2; acknowledged = it.3 }
