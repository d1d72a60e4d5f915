-- Openings and crashes.
use Rattle.disk.specs.declared.storage.Disk.{Ghosts}
use Rattle.std.proofs.Common.{◌≡◌, ◌∙◌, ◌⊎◌, ◌↔◌, ap, sym, refl, subst, inl, inr, ℕ, List, [], ◌++◌, Ok, Err, IsTrue}
use Rattle.std.proofs.lemmas.List.{append-nil, append_assoc}
use Rattle.disk.specs.Time.{Contents, MayLeaveNow}
use Rattle.terms.specs.Commits.{Commit, events_of, facts_behind, environment_behind}
use Rattle.terms.specs.Sets.{AmongBoth}
use Rattle.graph.specs.Graph.{Graph}
use Rattle.machine.specs.State.{AreLegalFrom}
use Rattle.vault.specs.declared.error.VaultError.{VaultError}
use Rattle.vault.specs.declared.error.VaultError.TheVariants.{Device, NoMemory, Damaged, Full, NotAStore, Halted, Exists}
use Rattle.vault.specs.Commits.{AppendLeaves, GatesRest, HeldLeaves, IsLeft}
use Rattle.vault.specs.Opened.{IsOfOpening, OnlyReads, contents_of}
use Rattle.vault.specs.Stands.{OneStore}
use Rattle.vault.specs.Store.{SaysNothing, nothing}
use Rattle.commit.specs.Core.{Core, graph, facts, environment}
use Rattle.commit.specs.Created.{IsCreated}
use Rattle.commit.specs.Kept.{Keeps}
use Rattle.commit.specs.Opened.{OpensAs}
use Rattle.commit.specs.Runs.{in_one}
use Rattle.moves.specs.Order.{History, begun as begun_order}
use Rattle.moves.specs.There.{Has, LeavesThere}
use Rattle.moves.specs.Every.{OpensOrErrs}
use Rattle.moves.proofs.Calls.{LeavesAt, Stood, held_now}
use Rattle.moves.proofs.Known.{IsLegal, prefix_legal}

-- the order after an opening that found these commits
abbrev pub with_found : History → List Commit → History
with_found h found = record { made = h.made ++ found; doubt = [] }

module _
    {D : Type 0} (storage : Ghosts D) (on : (IsTrue storage.is_honest)) (both : AmongBoth)
    (now : (disk : D) (contents : Contents) → storage.left_at disk (storage.moment disk) contents ↔ MayLeaveNow (storage.files disk) contents) (reads : (disk : D) → MayLeaveNow (storage.files disk) (contents_of (storage.files disk)))
    (held : HeldLeaves storage) (appends : AppendLeaves storage) (g : Graph)
  where
    abbrev StoodHere : History → Core D → Type 0
    StoodHere = Stood storage on both now reads held appends g

    abbrev LeavesHere : History → D → D → Type 0
    LeavesHere = LeavesAt storage on both now reads held appends g

    -- a crash at a moment when a crash leaves what is known
    pub crashed : (h : History) (old new disk : D) → LeavesHere h old new → IsLeft storage old new disk → LeavesThere storage.files g h disk
    crashed h old new disk leaving left contents may = leaving.each left.struck contents left.begun left.ended (left.crash contents may)

    -- calls that only read
    pub only_read : (h : History) (disk new : D) → LeavesThere storage.files g h disk → OnlyReads storage disk new → LeavesThere storage.files g h new
    only_read h disk new leaves reading contents may = leaves contents (reading.left contents may)

    pub cut_reading : (h : History) (disk new left : D) → LeavesThere storage.files g h disk → OnlyReads storage disk new → IsLeft storage disk new left → LeavesThere storage.files g h left
    cut_reading h disk new left leaves reading was contents may = leaves contents (reading.any_moment.each was.struck contents was.begun was.ended (was.crash contents may))

    -- a new store
    pub created : GatesRest storage → (text : List ℕ) (core : Core D) → graph core ≡ g → IsCreated storage text core → Keeps storage core → StoodHere begun_order core
    created rest text core is is_created keeps =
        let opened = is_created.opened in
        let has : Has g begun_order core = record { graph = is; facts = is_created.facts; environment = is_created.environment; doubt = ap in_one (sym opened.in_doubt); settled = λ _. refl } in
        let gates = rest core.vault (graph core) (environment core) (facts core) ((keeps.kept on).holds opened.working) (is_created.gates on) in
        record {
          has = has;
          leaves = held_now storage on both now reads held appends g begun_order core has keeps opened.working
              (λ contents may. gates.each (storage.moment core.vault.disk) contents gates.later gates.later ((now core.vault.disk contents).1 may));
          keeps = keeps;
        }

    -- an opening that returned a core: it found a prefix of what was in doubt
    pub opened_well : OneStore → (h : History) (disk : D) (core : Core D) → LeavesThere storage.files g h disk → IsLegal g h → OpensAs storage disk (Ok core) → Keeps storage core
        → (found : List Commit) × (lost : List Commit) × (h.doubt ≡ found ++ lost) × StoodHere (with_found h found) core × IsLegal g (with_found h found)
    opened_well one h disk core leaves legal opens keeps =
        let before = leaves (contents_of (storage.files disk)) (reads disk) in
        let stands = before.0 in
        let made = h.made ++ stands.made in
        let same = one (contents_of (storage.files disk)) g (graph core) (environment_behind nothing made) (environment core) (facts_behind nothing made) (facts core) stands.stands (opens.finds on) in
        let working = opens.opened.working in
        let has : Has g (with_found h stands.made) core = record { graph = sym same.0; facts = λ fact. sym (same.2 fact); environment = λ fact. sym (same.1 fact); doubt = ap in_one (sym opens.opened.in_doubt); settled = λ _. refl } in
        let whole : h.made ++ h.doubt ≡ made ++ stands.later = ap (λ (doubt : List Commit). h.made ++ doubt) stands.beginning ∙ sym (append_assoc h.made stands.made stands.later) in (
          stands.made,
          stands.later,
          stands.beginning,
          record {
            has = has;
            leaves = held_now storage on both now reads held appends g (with_found h stands.made) core has keeps working
                (λ contents may. (leaves contents ((opens.only_reads on).left contents may)).1);
            keeps = keeps;
          },
          subst (λ (commits : List Commit). AreLegalFrom g nothing (events_of commits)) (sym (append-nil made)) (prefix_legal g made stands.later (h.made ++ h.doubt) whole legal),
        )

    -- ---- an opening that returned an error

    -- the errors that an opening may return, without those that say that there is nothing
    errs : (error : VaultError) → IsOfOpening error → (SaysNothing error → ⊥) → (error ≡ Device) ⊎ (error ≡ NoMemory)
    errs Device may something = inl refl
    errs NoMemory may something = inr refl
    errs (Damaged side place) may something = absurd (something (inr (side, place, refl)))
    errs NotAStore may something = absurd (something (inl refl))
    errs Full may something = absurd (may.0 refl)
    errs Halted may something = absurd (may.1 refl)
    errs Exists may something = absurd (may.2 refl)

    pub opens_or_errs : (h : History) (disk : D) → LeavesThere storage.files g h disk → OpensOrErrs storage disk
    opens_or_errs h disk leaves (Ok core) opens = tt
    opens_or_errs h disk leaves (Err refused) opens =
        errs refused.error opens.errors (λ says. (opens.tells on).nothing says _ _ _ (leaves (contents_of (storage.files disk)) (reads disk)).0.stands)
