-- What commits that come one after another make of the commit order, and what a crash leaves at each moment of them.
use Rattle.disk.specs.Storage.{Leaves}
use Rattle.disk.specs.declared.storage.Disk.{Ghosts}
use Rattle.std.proofs.Common.{◌≡◌, ◌∙◌, ◌↔◌, ap, refl, sym, subst, ℕ, false, List, [], ◌++◌, IsTrue}
use Rattle.std.proofs.lemmas.List.{append-nil, append_assoc}
use Rattle.disk.specs.Moments.{weakened}
use Rattle.disk.specs.Time.{Contents, MayLeaveNow}
use Rattle.terms.specs.declared.event.Event.{Event}
use Rattle.terms.specs.Commits.{Commit, events_of, facts_behind, environment_behind}
use Rattle.terms.specs.Sets.{AmongBoth, Facts}
use Rattle.graph.specs.Graph.{Graph}
use Rattle.machine.specs.State.{AreLegalFrom}
use Rattle.vault.specs.Commits.{AppendLeaves, HeldLeaves, StandsForBeginning}
use Rattle.vault.specs.Opened.{contents_of}
use Rattle.vault.specs.Stands.{Stands}
use Rattle.vault.specs.Store.{HasGates, nothing}
use Rattle.commit.specs.Core.{Core, graph, facts, environment, is_halted}
use Rattle.commit.specs.Kept.{Keeps}
use Rattle.commit.specs.Runs.{in_one}
use Rattle.commit.specs.Went.{Went}
use Rattle.commit.proofs.Acknowledged.{all_at_last}
use Rattle.commit.proofs.Lists.{environment_joined, events_in_one, events_joined, facts_joined, legal_joined}
use Rattle.moves.specs.Order.{History}
use Rattle.moves.specs.There.{MayStand}
use Rattle.moves.proofs.Calls.{LeavesAt, Stood, both_hold, gated, left_at_end}
use Rattle.moves.proofs.Known.{IsLegal, all, carried, given, legal_after, prefix_legal}

-- the order with these commits, and with the one in doubt after them
abbrev pub with_commits : History → List Commit → (doubt : List Event) → History
with_commits h commits doubt = record { made = h.made ++ commits; doubt = in_one doubt }

-- the same where none of them is known to be there
abbrev pub with_doubts : History → List Commit → History
with_doubts h commits = record { made = h.made; doubt = commits }

events_after : (made commits : List Commit) (doubt : List Event) → events_of (made ++ (commits ++ in_one doubt)) ≡ events_of made ++ (events_of commits ++ doubt)
events_after made commits doubt =
    events_joined made (commits ++ in_one doubt)
    ∙ ap (λ (list : List Event). events_of made ++ list) (events_joined commits (in_one doubt) ∙ ap (λ (list : List Event). events_of commits ++ list) (events_in_one doubt))

events_in_two : (made commits : List Commit) (doubt : List Event) → events_of (made ++ commits ++ in_one doubt) ≡ events_of made ++ (events_of commits ++ doubt)
events_in_two made commits doubt = ap events_of (append_assoc made commits (in_one doubt)) ∙ events_after made commits doubt

-- bytes that stand for a prefix of commits after what was made stand for it from the start
from_start : AmongBoth → (g : Graph) (made first later : List Commit) (contents : Contents) → StandsForBeginning g (environment_behind nothing made) (facts_behind nothing made) first later contents → StandsForBeginning g nothing nothing (made ++ first) later contents
from_start both g made first later contents it =
    let more = first ++ it.made in
    let of_given : Stands contents g (environment_behind nothing (made ++ more)) (facts_behind (facts_behind nothing made) more) =
    subst (λ (E : Facts). Stands contents g E (facts_behind (facts_behind nothing made) more)) (sym (environment_joined both nothing made more)) it.stands
    in
    let of_all : Stands contents g (environment_behind nothing (made ++ more)) (facts_behind nothing (made ++ more)) =
    subst (λ (X : Facts). Stands contents g (environment_behind nothing (made ++ more)) X) (sym (facts_joined both nothing made more)) of_given
    in
    record {
      made = it.made;
      later = it.later;
      beginning = it.beginning;
      stands = subst (λ (commits : List Commit). Stands contents g (environment_behind nothing commits) (facts_behind nothing commits)) (sym (append_assoc made first it.made)) of_all;
    }

module _
    {D : Type 0} (storage : Ghosts D) (on : (IsTrue storage.is_honest)) (both : AmongBoth)
    (now : (disk : D) (contents : Contents) → storage.left_at disk (storage.moment disk) contents ↔ MayLeaveNow (storage.files disk) contents) (reads : (disk : D) → MayLeaveNow (storage.files disk) (contents_of (storage.files disk)))
    (held : HeldLeaves storage) (appends : AppendLeaves storage) (g : Graph)
    (h : History) (old new : Core D) (commits : List Commit)
    (stood : Stood storage on both now reads held appends g h old) (keeps : Keeps storage new) (legal : IsLegal g h)
    (went : Went storage old new commits)
  where
    abbrev after : History
    after = with_commits h commits new.in_doubt

    abbrev in_part : History
    in_part = with_doubts h (commits ++ in_one new.in_doubt)

    both_legal : AreLegalFrom g nothing (events_of h.made ++ (events_of commits ++ new.in_doubt))
    both_legal =
        legal_joined both g nothing (events_of h.made) (events_of commits ++ new.in_doubt) (prefix_legal g h.made h.doubt (h.made ++ h.doubt) refl legal) (legal_after g h old stood.has (events_of commits ++ new.in_doubt) went.legal)

    pub after_legal : IsLegal g after
    after_legal = subst (λ (list : List Event). AreLegalFrom g nothing list) (sym (events_in_two h.made commits new.in_doubt)) both_legal

    pub part_legal : IsLegal g in_part
    part_legal = subst (λ (list : List Event). AreLegalFrom g nothing list) (sym (events_after h.made commits new.in_doubt)) both_legal

    -- at each moment a crash leaves a prefix of the commits
    pub leaving : LeavesAt storage on both now reads held appends g in_part old.vault.disk new.vault.disk
    leaving =
        let pending = commits ++ in_one new.in_doubt in
        let crashes =
        carried g h old stood.has (λ k E X. Leaves storage old.vault.disk new.vault.disk (StandsForBeginning k E X [] pending)) (went.crashes on)
        in
        both_hold storage on both now reads held appends g old.vault.disk new.vault.disk (MayStand g in_part) HasGates
        (weakened storage.moment storage.left_at old.vault.disk new.vault.disk (StandsForBeginning g (environment_behind nothing h.made) (facts_behind nothing h.made) [] pending) (MayStand g in_part) crashes
        (λ contents stands. subst (λ (commits : List Commit). StandsForBeginning g nothing nothing commits pending contents) (append-nil h.made) (from_start both g h.made [] pending contents stands)))
        (went.gates on (gated storage on both now reads held appends g h old.vault.disk stood.leaves))

    -- at the end it leaves all of them, perhaps with the one in doubt
    pub stood_after : (is_halted new ≡ false → new.in_doubt ≡ []) → Stood storage on both now reads held appends g after new
    stood_after settled = record {
      has = record {
        graph = went.graph ∙ stood.has.graph;
        facts = λ fact.
            went.facts fact ∙ ap (λ (X : Facts). facts_behind X commits fact) (all g h old stood.has) ∙ ap (λ (X : Facts). X fact) (sym (facts_joined both nothing h.made commits));
        environment = λ fact.
            went.environment fact ∙ ap (λ (E : Facts). environment_behind E commits fact) (given g h old stood.has) ∙ ap (λ (E : Facts). E fact) (sym (environment_joined both nothing h.made commits));
        doubt = refl;
        settled = λ works. ap in_one (settled works);
      };
      leaves = λ contents may.
          let was = (now new.vault.disk contents).1 may in
          let here = all_at_last (graph old) (environment old) (facts old) (storage.left_at new.vault.disk) (storage.moment new.vault.disk) (storage.moment old.vault.disk) [] commits (in_one new.in_doubt) (went.crashes on).later (went.acknowledged on) contents was in (
            from_start both g h.made commits (in_one new.in_doubt) contents
                (carried g h old stood.has (λ k E X. StandsForBeginning k E X commits (in_one new.in_doubt) contents) here),
            (left_at_end storage on both now reads held appends g in_part old.vault.disk new.vault.disk leaving contents may).1,
          );
      keeps = keeps;
    }
