-- What a store means after moves.
use Rattle.disk.specs.declared.storage.Disk.{Ghosts}
use Rattle.std.proofs.Common.{false, ◌≡◌, ◌∙◌, ◌⊎◌, ap, sym, refl, subst, inl, inr, ℕ, true, List, [], ◌++◌, Option, None, Some}
use Rattle.std.proofs.lemmas.Bool.{false≢true}
use Rattle.std.proofs.lemmas.List.{append_assoc}
use Rattle.std.specs.Prelude.{is_some}
use Rattle.terms.specs.declared.name.Addr.{Addr}
use Rattle.terms.specs.declared.name.Inst.{Inst}
use Rattle.terms.specs.Commits.{Commit, events_of, facts_behind, environment_behind}
use Rattle.terms.specs.Facts.{Fact, bad, done}
use Rattle.terms.specs.Sets.{Facts, stated}
use Rattle.graph.specs.Graph.{Graph}
use Rattle.graph.specs.Fits.{HasNoFault, IsPrescribed}
use Rattle.instances.specs.declared.state.State.{State}
use Rattle.instances.specs.declared.state.State.TheVariants.{Ready, Running, Waiting, Done}
use Rattle.machine.specs.Legal.{IsBlocked, IsQuiet}
use Rattle.machine.specs.Machine.{Machine, facts as facts_of, state_of}
use Rattle.machine.specs.Promise.{IsKept as KeepsMachine}
use Rattle.machine.specs.State.{Waits, AreLegalFrom, IsReached}
use Rattle.machine.specs.StateLaws.{LegalAsSet, QuietWaits, ReachedIsMeaning, ReachedIsWithin, ReachedStoppedOrQuiet}
use Rattle.machine.specs.Status.{NoneIsActive}
use Rattle.vault.specs.Stands.{OneStore}
use Rattle.vault.specs.Store.{nothing}
use Rattle.commit.specs.declared.status.Status.TheVariants.{Quiet}
use Rattle.commit.specs.Core.{Core, facts, environment}
use Rattle.commit.specs.Status.{TellsStatus}
use Rattle.moves.specs.Every.{StandsWithin, TellsMeaning}
use Rattle.moves.specs.Order.{History}
use Rattle.moves.specs.There.{Has, LeavesThere}
use Rattle.moves.proofs.Known.{IsLegal, prefix_legal}

-- a machine of which no instance is ready or runs, and which has no fault, is quiet
pub is_quiet : (m : Machine) → KeepsMachine m → HasNoFault (facts_of m) → NoneIsActive m → IsQuiet m.graph (facts_of m)
is_quiet m kept none idle = record { no_fault = none; done_or_blocked = λ instance prescribed. at instance (state_of m instance) refl ((kept.prescribed instance).1 prescribed) }
  where
    at : (instance : Inst) (state : Option State) → state_of m instance ≡ state → is_some (state_of m instance) ≡ true → (facts_of m (done instance) ≡ true) ⊎ IsBlocked m.graph (facts_of m) instance
    at instance None is has = absurd (false≢true (sym (ap is_some is) ∙ has))
    at instance (Some Ready) is has = absurd ((idle instance).0 is)
    at instance (Some Running) is has = absurd ((idle instance).1 is)
    at instance (Some (Waiting address)) is has = inr (address, (kept.waits instance address is).needs)
    at instance (Some Done) is has = inl ((kept.done instance).0 is)

-- an instance that is prescribed and not done waits, if none is ready or runs
waits_somewhere : (m : Machine) → KeepsMachine m → NoneIsActive m → (instance : Inst) → IsPrescribed m.graph (facts_of m) instance → facts_of m (done instance) ≡ false → (at : Addr) × (state_of m instance ≡ Some (Waiting at))
waits_somewhere m kept idle instance prescribed not_done = at (state_of m instance) refl
  where
    at : (state : Option State) → state_of m instance ≡ state → (at : Addr) × (state_of m instance ≡ Some (Waiting at))
    at None is = absurd (false≢true (sym (ap is_some is) ∙ (kept.prescribed instance).1 prescribed))
    at (Some Ready) is = absurd ((idle instance).0 is)
    at (Some Running) is = absurd ((idle instance).1 is)
    at (Some (Waiting address)) is = (address, is)
    at (Some Done) is = absurd (false≢true (sym not_done ∙ (kept.done instance).0 is))

module _ (as_set : LegalAsSet) (is_within : ReachedIsWithin) (meaning : ReachedIsMeaning) (stopped_or_quiet : ReachedStoppedOrQuiet) (quiet_waits : QuietWaits) (g : Graph) where
  -- the state after commits that are legal is reached
  reached : (made : List Commit) (E X : Facts) → AreLegalFrom g nothing (events_of made) → ((fact : Fact) → X fact ≡ facts_behind nothing made fact) → ((fact : Fact) → E fact ≡ environment_behind nothing made fact) → IsReached g E X
  reached made E X legal all given = record {
    events = events_of made;
    legal = (as_set g [] (events_of made)).1 legal;
    facts = λ fact. sym (all fact);
    environment = λ fact. sym (given fact);
  }

  pub means : {D : Type 0} (h : History) (c : Core D) → Has g h c → KeepsMachine c.machine → IsLegal g h → TellsMeaning g c
  means h c has kept legal =
      let made = prefix_legal g h.made h.doubt (h.made ++ h.doubt) refl legal in
      let here : IsReached g (environment c) (facts c) = reached h.made (environment c) (facts c) made has.facts has.environment in
      let quiet : (blocked : ℕ) → TellsStatus c (Quiet blocked) → IsQuiet g (facts c) = λ blocked told.
      subst (λ (k : Graph). IsQuiet k (facts c)) has.graph (is_quiet c.machine kept told.0 told.1) in
      record {
        within = is_within g (environment c) (facts c) here;
        quiet = λ blocked told. let it = quiet blocked told in let meant = meaning g (environment c) (facts c) here it in (it, meant.0, meant.1);
        waiting = λ blocked told instance address is.
            (quiet_waits g (environment c) (facts c) here (quiet blocked told) instance address).0 (subst (λ (k : Graph). Waits k (facts c) instance address) has.graph (kept.waits instance address is));
        unfinished = λ blocked told instance address left.
            let waits = (quiet_waits g (environment c) (facts c) here (quiet blocked told) instance address).1 left in
            waits_somewhere c.machine kept told.1 instance (subst (λ (k : Graph). IsPrescribed k (facts c) instance) (sym has.graph) waits.prescribed) waits.not_done;
        stopped = λ instance kind told. (
          is_within g (environment c) (facts c) here (bad instance kind) told,
          λ events other same none.
              stopped_or_quiet g (environment c) (facts c) (stated events) instance kind here told (record { events = events; legal = other; facts = λ fact. refl; environment = same }) none,
        );
      }

  pub stands_within : {D : Type 0} (storage : Ghosts D)
      → OneStore → (h : History) (disk : D) → LeavesThere storage.files g h disk → IsLegal g h → StandsWithin storage g disk
  stands_within storage one h disk leaves legal contents other E X may stands =
      let it = (leaves contents may).0 in
      let made = h.made ++ it.made in
      let same = one contents g other (environment_behind nothing made) E (facts_behind nothing made) X it.stands stands in
      let whole : h.made ++ h.doubt ≡ made ++ it.later = ap (λ (doubt : List Commit). h.made ++ doubt) it.beginning ∙ sym (append_assoc h.made it.made it.later) in
      let here = reached made E X (prefix_legal g made it.later (h.made ++ h.doubt) whole legal) (λ fact. sym (same.2 fact)) (λ fact. sym (same.1 fact)) in
      (sym same.0, is_within g E X here)
