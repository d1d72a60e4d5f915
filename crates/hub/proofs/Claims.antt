-- Several instances that are claimed one after another.
use Rattle.std.proofs.Common.{◌≡◌, ◌≢◌, ◌∙◌, ◌↔◌, ◌+◌, ◌-◌, ◌<◌, ◌≤◌, ◌++◌, ◌∷◌, [], ℕ, Bool, true, false, true≢false, List, length, length-append, arith, inl, inr, refl, sym, ap, subst, append_assoc, Ok, Err, Some}
use Rattle.std.proofs.lemmas.List.{append-nil}
use Rattle.std.specs.List.{AllByRecursion}
use Rattle.terms.specs.declared.name.Inst.{Inst}
use Rattle.vault.specs.declared.vault.Vault.{Vault}
use Rattle.commit.specs.declared.error.CoreError.{CoreError}
use Rattle.commit.specs.Core.{Core, is_halted}
use Rattle.commit.specs.Steps.{Claims, MayClaim, running_count}
use Rattle.passes.specs.Known.{Known, Made, commits, up_to_date}
use Rattle.passes.specs.Opening.{Opening}
use Rattle.passes.specs.Visits.{Shows}
use Rattle.passes.proofs.Gathered.{all_of_both}
use Rattle.hub.specs.Claims.{AddsClaimed, ClaimsOne, ClaimsSome, StartInTurn, Starts}
use Rattle.hub.specs.Opening.{AreLegalBehind}
use Rattle.hub.specs.Replies.{AddsNothing, MayRun, Sees}
use Rattle.hub.proofs.Telling.{tells_nothing}

-- a pass that was shown the history twice
pub shown_again : (history : List Made) (first old new : Known) → Shows history first old → Shows history old new → Shows history first new
shown_again history first old new one two = record { before = one.before; pass = two.pass ∙ ap (up_to_date history) one.pass }

-- it knows what it knew after the first time
pub known_again : (history : List Made) (first old new : Known) → Shows history first old → Shows history old new → old ≡ new
known_again history first old new one two = one.pass ∙ sym (shown_again history first old new one two).pass

-- ---- what starts one after another

pub started_by : {D : Type 0} (old new : Core D) (task : Inst) → Claims old new 0 (Ok (Some task)) → Starts old new task
started_by old new task claims = record { working = claims.none.0; may = claims.claimed.0; ready = claims.claimed.1; moves = claims.claimed.2 }

in_turn_more : {D : Type 0} (old mid new : Core D) (tasks : List Inst) (task : Inst) → StartInTurn old tasks mid → Starts mid new task → StartInTurn old (tasks ++ task ∷ []) new
in_turn_more old mid new [] task is starts = (new, subst (λ (c : Core _). Starts c new task) is starts, refl)
in_turn_more old mid new (first ∷ tasks) task in_turn starts = (in_turn.0, in_turn.1, in_turn_more in_turn.0 mid new tasks task in_turn.2 starts)

still_halted : {D : Type 0} (old last : Core D) (tasks : List Inst) → StartInTurn old tasks last → is_halted last ≡ is_halted old
still_halted old last [] is = ap is_halted is
still_halted old last (task ∷ tasks) in_turn = still_halted in_turn.0 last tasks in_turn.2 ∙ ap (λ (v : Vault _). v.halted) in_turn.1.moves.vault

-- a core in which one started was not halted
was_working : {D : Type 0} (old last : Core D) (tasks : List Inst) → 0 < length tasks → StartInTurn old tasks last → is_halted old ≡ false
was_working old last [] some in_turn = absurd (omega (arith, some))
was_working old last (task ∷ tasks) some in_turn = in_turn.1.working

halted_not : (is : Bool) → is ≡ false → is ≡ true → ⊥
halted_not is off on = true≢false (sym on ∙ off)

-- ---- in the midst of claims

-- The history is as it was at first, the pass has been shown it, these were claimed, and `left` are to be tried.
pub record Claiming {D : Type 0} (opening : Opening) (start here : List Made) (first known : Known) (share left : ℕ) (begun core : Core D) (old now : List Inst) : Type 0 where
  pub same : here ≡ start
  pub shows : Shows start first known
  pub sees : Sees opening first known × AddsNothing first known
  pub more : List Inst
  pub added : now ≡ old ++ more
  pub count : length more + left ≡ share
  pub may_run : AllByRecursion (MayRun opening known) more
  pub started : StartInTurn begun more core

pub none_claimed : {D : Type 0} (opening : Opening) (start here : List Made) (first known : Known) (share : ℕ) (begun core : Core D) (old : List Inst) → here ≡ start → AreLegalBehind opening (commits start) → Shows start first known → core ≡ begun
    → Claiming opening start here first known share share begun core old old
none_claimed opening start here first known share begun core old same legal shows is =
    record { same = same; shows = shows; sees = tells_nothing opening start first known legal shows; more = []; added = sym (append-nil old); count = omega arith; may_run = tt; started = is }

module _ {D : Type 0} (opening : Opening) (start here there : List Made) (first known next : Known) (share left most : ℕ) (begun core new : Core D) (old now then_ : List Inst) (claiming : Claiming opening start here first known share left begun core old now)
    (stays : there ≡ here) (shows : Shows here known next) where
  shown : Shows start known next
  shown = subst (λ (history : List Made). Shows history known next) claiming.same shows

  one : known ≡ next
  one = known_again start first known next claiming.shows shown

  still : AllByRecursion (MayRun opening next) claiming.more
  still = subst (λ (it : Known). AllByRecursion (MayRun opening it) claiming.more) one claiming.may_run

  -- the next claim leaves the history, and shows it to the pass
  pub history_after : (there ≡ start) × Shows start first next
  history_after = (stays ∙ claiming.same, shown_again start first known next claiming.shows shown)

  pub sees_after : Sees opening first next × AddsNothing first next
  sees_after = subst (λ (it : Known). Sees opening first it × AddsNothing first it) one claiming.sees

  -- one more is claimed by it
  pub one_claimed : 0 < left → ClaimsOne opening next core new now then_ (Ok true) → Claiming opening start there first next share (left - 1) begun new old then_
  one_claimed some claims =
      let task = claims.0 in record {
        same = history_after.0;
        shows = history_after.1;
        sees = sees_after;
        more = claiming.more ++ task ∷ [];
        added = claims.1 ∙ ap (λ (list : List Inst). list ++ task ∷ []) claiming.added ∙ append_assoc old claiming.more (task ∷ []);
        count = omega (arith, some, claiming.count, length-append claiming.more (task ∷ []));
        may_run = all_of_both (MayRun opening next) claiming.more (task ∷ []) still (claims.3, tt);
        started = in_turn_more begun core new claiming.more task claiming.started claims.2;
      }

  abbrev adds : share ≤ most → then_ ≡ now → AddsClaimed opening next most old then_
  adds few same = record { more = claiming.more; added = same ∙ claiming.added; few = omega (arith, claiming.count, few); may_run = still }

  -- or none
  pub none_left : (runs : Bool) → share ≤ most → ClaimsOne opening next core new now then_ (Ok false) → ((runs ≡ true) ↔ (running_count new ≢ 0))
      → (it : AddsClaimed opening next most old then_) × ClaimsSome begun new most it.more (Ok runs)
  none_left runs few claims says = (
    adds few claims.0,
    record {
      last = core;
      start = claiming.started;
      ok = (claims.1, says, λ none asked may. claims.3 (subst (λ (c : Core D). MayClaim c 0) (sym (subst (λ (tasks : List Inst). StartInTurn begun tasks core) none claiming.started)) may));
      err = tt;
      halted = λ is asked. absurd (halted_not (is_halted core) claims.2 (still_halted begun core claiming.more claiming.started ∙ is));
    },
  )

  -- or it is refused
  pub refused_then : (error : CoreError) → share ≤ most → ClaimsOne opening next core new now then_ (Err error) → (it : AddsClaimed opening next most old then_) × ClaimsSome begun new most it.more (Err error)
  refused_then error few claims = (
    adds few claims.0,
    record {
      last = core;
      start = claiming.started;
      ok = tt;
      err = claims.1;
      halted = λ is asked. elim claims.1 [
        | inl halted ↦ ap (λ (it : CoreError). Err it) halted.0
        | inr memory ↦ absurd (halted_not (is_halted core) memory.1.2.working (still_halted begun core claiming.more claiming.started ∙ is))
      ];
    },
  )

-- all that were to be tried were claimed
pub all_claimed : {D : Type 0} (opening : Opening) (start here : List Made) (first known : Known) (share left most : ℕ) (begun core : Core D) (old now : List Inst) (runs : Bool) → Claiming opening start here first known share left begun core old now → left ≡ 0
    → share ≤ most → (0 < most → 0 < share) → ((runs ≡ true) ↔ (running_count core ≢ 0)) → (it : AddsClaimed opening known most old now) × ClaimsSome begun core most it.more (Ok runs)
all_claimed opening start here first known share left most begun core old now runs claiming over few some says = (
  record { more = claiming.more; added = claiming.added; few = omega (arith, claiming.count, few); may_run = claiming.may_run },
  record {
    last = core;
    start = claiming.started;
    ok = (refl, says, λ none asked may. omega (arith, claiming.count, over, some asked, ap length none));
    err = tt;
    halted = λ is asked. absurd (halted_not (is_halted begun) (was_working begun core claiming.more (omega (arith, claiming.count, over, some asked)) claiming.started) is);
  },
)
