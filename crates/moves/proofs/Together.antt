-- Several ends that are committed as one: what they make of the commit order, and what a crash leaves at each moment of them.
use Rattle.disk.specs.declared.storage.Disk.{Ghosts}
use Rattle.std.proofs.Common.{◌≡◌, ◌∙◌, ◌⊎◌, ◌↔◌, ◌<◌, ap, sym, refl, subst, inl, inr, ℕ, Bool, true, false, List, [], ◌∷◌, ◌++◌, length, Result, Ok, Err, arith, IsTrue}
use Rattle.std.proofs.lemmas.Bool.{false≢true}
use Rattle.std.proofs.lemmas.List.{append-nil}
use Rattle.disk.specs.Moments.{weakened}
use Rattle.disk.specs.Time.{Contents, MayLeaveNow}
use Rattle.terms.specs.declared.name.Inst.{Inst}
use Rattle.terms.specs.declared.event.Event.{Event}
use Rattle.terms.specs.Commits.{Commit, events_of}
use Rattle.terms.specs.Facts.{facts, environment}
use Rattle.terms.specs.Sets.{AmongBoth, Facts, with_facts}
use Rattle.graph.specs.Graph.{Graph}
use Rattle.machine.specs.declared.group.Ended.{Ended}
use Rattle.machine.specs.Group.{cut}
use Rattle.vault.specs.Commits.{AppendLeaves, HeldLeaves, StandsForBeginning}
use Rattle.vault.specs.Opened.{contents_of}
use Rattle.vault.specs.Stands.{Stands}
use Rattle.vault.specs.Store.{HasGates, nothing}
use Rattle.commit.specs.declared.error.CoreError.{CoreError}
use Rattle.commit.specs.Batch.{EndsAll}
use Rattle.commit.specs.Core.{Core, is_halted}
use Rattle.commit.specs.Kept.{Keeps}
use Rattle.commit.specs.Runs.{in_one}
use Rattle.commit.specs.Went.{Went}
use Rattle.commit.proofs.Lists.{events_joined}
use Rattle.commit.proofs.Went.{of_run}
use Rattle.moves.specs.Order.{HaltedBy, History}
use Rattle.moves.specs.There.{MayStand}
use Rattle.moves.proofs.Calls.{Comes, Leaving, LeavesAt, Stood, unchanged, with_commit, with_doubt}
use Rattle.moves.proofs.Going.{after_legal, leaving, part_legal, stood_after, with_commits, with_doubts}
use Rattle.moves.proofs.Known.{IsLegal}

-- ---- a commit without events

empty_front : (one two : List Event) → [] ≡ one ++ two → one ≡ []
empty_front [] two is = refl
empty_front (event ∷ one) two is = absurd (never is)
  where
    never : [] ≡ event ∷ (one ++ two) → ⊥
    never same = cc

-- what stands for a prefix of a commit without events stands for nothing more
none_pending : (g : Graph) (E X : Facts) (made : List Commit) (contents : Contents) → StandsForBeginning g E X made ([] ∷ []) contents → StandsForBeginning g E X made [] contents
none_pending g E X made contents it =
    let none : events_of it.made ≡ [] = empty_front (events_of it.made) (events_of it.later) (ap events_of it.beginning ∙ events_joined it.made it.later) in
    let same : events_of (made ++ it.made) ≡ events_of (made ++ []) = events_joined made it.made ∙ ap (λ (events : List Event). events_of made ++ events) none ∙ sym (events_joined made []) in
    record {
      made = [];
      later = [];
      beginning = refl;
      stands = subst (λ (events : List Event). Stands contents g (with_facts E (environment events)) (with_facts X (facts events))) same it.stands;
    }

-- a commit of some events is the one in doubt
in_one_of : (commit : Commit) → 0 < length commit → in_one commit ≡ commit ∷ []
in_one_of [] some = absurd (omega (arith, some))
in_one_of (event ∷ events) some = refl

module _
    {D : Type 0} (storage : Ghosts D) (on : (IsTrue storage.is_honest)) (both : AmongBoth)
    (now : (disk : D) (contents : Contents) → storage.left_at disk (storage.moment disk) contents ↔ MayLeaveNow (storage.files disk) contents) (reads : (disk : D) → MayLeaveNow (storage.files disk) (contents_of (storage.files disk)))
    (held : HeldLeaves storage) (appends : AppendLeaves storage) (g : Graph)
    (h : History) (old new : Core D) (tasks : List Inst) (ends : List Event)
    (stood : Stood storage on both now reads held appends g h old) (keeps : Keeps storage new) (legal : IsLegal g h)
  where
    abbrev StoodHere : History → Core D → Type 0
    StoodHere = Stood storage on both now reads held appends g

    abbrev LeavesHere : History → Type 0
    LeavesHere order = LeavesAt storage on both now reads held appends g order old.vault.disk new.vault.disk

    abbrev LeavingHere : Commit → Type 0
    LeavingHere commit = Leaving storage on both now reads held appends g h commit old new

    -- at `Ok` the commit is made, after all others
    pub came : (ended : Ended) → EndsAll storage old new tasks ends (Ok ended)
        → (is_halted new ≡ false) × StoodHere (with_commit h (cut ended ends)) new × IsLegal g (with_commit h (cut ended ends))
    came ended it =
        let commit = cut ended ends in
        let goes = it.finishes.answered.takes.working.0 in
        let works = it.finishes.answered.takes.working.1 in
        let went = of_run storage old new old.allowance (commit ∷ []) (it.runs goes) in
        let order : with_commits h (commit ∷ []) new.in_doubt ≡ with_commit h commit = λ i. record { made = h.made ++ commit ∷ []; doubt = (ap in_one it.halts.settled ∙ sym (stood.has.settled goes)) i } in (
          works,
          subst (λ (order : History). StoodHere order new) order (stood_after storage on both now reads held appends g h old new (commit ∷ []) stood keeps legal went keeps.settled),
          subst (λ (order : History). IsLegal g order) order (after_legal storage on both now reads held appends g h old new (commit ∷ []) stood keeps legal went),
        )

    -- an error that halted the core leaves in doubt what was tried, and another one leaves all as it was
    pub tried : (error : CoreError) → (it : EndsAll storage old new tasks ends (Err error))
        → ((HaltedBy old new → ⊥) × StoodHere h new) ⊎ (HaltedBy old new × (h.doubt ≡ []) × StoodHere (with_doubt h it.finishes.commit) new × IsLegal g (with_doubt h it.finishes.commit))
    tried error it = before (is_halted old) refl
      where
        before : (b : Bool) → is_halted old ≡ b → Comes storage on both now reads held appends g {T = Ended} h it.finishes.commit old new (Err error)
        before true is = inl (λ halted. false≢true (sym halted.0 ∙ is), (unchanged storage on both now reads held appends g {T = Ended} h old new error stood keeps it.err.stays it.halts (it.halts.halts.1 (inl is) ∙ sym is)).0)
        before false goes = after (is_halted new) refl
          where
            after : (b : Bool) → is_halted new ≡ b → Comes storage on both now reads held appends g {T = Ended} h it.finishes.commit old new (Err error)
            after false works = inl (λ halted. false≢true (sym works ∙ halted.1), (unchanged storage on both now reads held appends g {T = Ended} h old new error stood keeps it.err.stays it.halts (works ∙ sym goes)).0)
            after true stops =
                let went = of_run storage old new old.allowance [] (it.runs goes) in
                let doubt : in_one new.in_doubt ≡ it.finishes.commit ∷ [] = ap in_one (it.finishes.doubt.0 goes stops) ∙ in_one_of it.finishes.commit (it.finishes.doubt.1 goes stops) in
                let order : with_commits h [] new.in_doubt ≡ with_doubt h it.finishes.commit = λ i. record { made = append-nil h.made i; doubt = doubt i } in
                inr (
                  (goes, stops),
                  stood.has.settled goes,
                  subst (λ (order : History). StoodHere order new) order (stood_after storage on both now reads held appends g h old new [] stood keeps legal went keeps.settled),
                  subst (λ (order : History). IsLegal g order) order (after_legal storage on both now reads held appends g h old new [] stood keeps legal went),
                )

    -- ---- what a crash leaves

    -- a commit without events leaves what was there
    left_by : (commit : Commit) → is_halted old ≡ false → IsLegal g (with_doubt h commit) → LeavesHere (with_doubt h commit) → LeavesHere h ⊎ ((0 < length commit) × LeavingHere commit)
    left_by [] goes one leaves =
        inl
        (weakened storage.moment storage.left_at old.vault.disk new.vault.disk (λ contents. MayStand g (with_doubt h []) contents × HasGates contents) (λ contents. MayStand g h contents × HasGates contents) leaves
        (λ contents it. (subst (λ (doubt : List Commit). StandsForBeginning g nothing nothing h.made doubt contents) (sym (stood.has.settled goes)) (none_pending g nothing nothing h.made contents it.0), it.1)))
    left_by (event ∷ events) goes one leaves = inr (omega arith, inr (goes, stood.has.settled goes, one, leaves))

    -- what is left in part is what the one commit leaves
    in_part : (commits : List Commit) (commit : Commit) → commits ++ in_one new.in_doubt ≡ commit ∷ [] → Went storage old new commits → is_halted old ≡ false
        → LeavesHere h ⊎ ((0 < length commit) × LeavingHere commit)
    in_part commits commit is went goes =
        let order : with_doubts h (commits ++ in_one new.in_doubt) ≡ with_doubt h commit = ap (λ (doubt : List Commit). with_doubts h doubt) is in
        left_by commit goes
        (subst (λ (order : History). IsLegal g order) order (part_legal storage on both now reads held appends g h old new commits stood keeps legal went))
        (subst (λ (order : History). LeavesHere order) order (leaving storage on both now reads held appends g h old new commits stood keeps legal went))

    pub leaving_together : (result : Result Ended CoreError) → (it : EndsAll storage old new tasks ends result) → LeavesHere h ⊎ ((0 < length it.finishes.commit) × LeavingHere it.finishes.commit)
    leaving_together (Ok ended) it =
        let goes = it.finishes.answered.takes.working.0 in
        let went = of_run storage old new old.allowance (cut ended ends ∷ []) (it.runs goes) in
        in_part (cut ended ends ∷ []) it.finishes.commit (ap (λ (events : List Event). cut ended ends ∷ in_one events) it.halts.settled ∙ ap (λ (commit : Commit). commit ∷ []) (sym it.finishes.answered.commit_is)) went goes
    leaving_together (Err error) it = before (is_halted old) refl
      where
        before : (b : Bool) → is_halted old ≡ b → LeavesHere h ⊎ ((0 < length it.finishes.commit) × LeavingHere it.finishes.commit)
        before true is = inl (unchanged storage on both now reads held appends g {T = Ended} h old new error stood keeps it.err.stays it.halts (it.halts.halts.1 (inl is) ∙ sym is)).1
        before false goes = after (is_halted new) refl
          where
            after : (b : Bool) → is_halted new ≡ b → LeavesHere h ⊎ ((0 < length it.finishes.commit) × LeavingHere it.finishes.commit)
            after false works = inl (unchanged storage on both now reads held appends g {T = Ended} h old new error stood keeps it.err.stays it.halts (works ∙ sym goes)).1
            after true stops =
                let went = of_run storage old new old.allowance [] (it.runs goes) in
                in_part [] it.finishes.commit (ap in_one (it.finishes.doubt.0 goes stops) ∙ in_one_of it.finishes.commit (it.finishes.doubt.1 goes stops)) went goes
