-- What a record of calls says after one more call.
use Rattle.std.proofs.Common.{◌≡◌, ◌≢◌, inl, inr, ℕ, zero, suc, ◌≤◌, Bool, true, false, ◌||◌, List, [], ◌∷◌, ◌++◌, length, take, if◌then◌else◌, refl, sym, ap, subst, ◌∙◌, arith}
use Rattle.std.proofs.lemmas.List.{length_push}
use Rattle.std.specs.Prelude.{Err, slice_get}
use Rattle.disk.specs.declared.side.Side.{Side}
use Rattle.disk.specs.declared.side.Side.TheVariants.{A, B}
use Rattle.disk.specs.declared.error.DiskError.{DiskError}
use Rattle.disk.specs.declared.error.DiskError.TheVariants.{Device, NoMemory}
use Rattle.disk.specs.declared.record.Call.{Call}
use Rattle.disk.specs.declared.record.Change.{Change}
use Rattle.disk.specs.declared.record.Change.TheVariants.{Nothing, Write, Cut}
use Rattle.disk.specs.Side.{is_side, pick, which}
use Rattle.disk.specs.File.{Durable, File, MayLeave, Changes, settled, touching, write_touches, cut_touches}
use Rattle.disk.specs.Time.{OtherStays, Elapses}
use Rattle.disk.specs.Calls.{changed, durable_after, durable_of, files_after, Kept, LeftAt}
use Rattle.disk.proofs.Left.{touching_left}

pub durable_after-append : (side : Side) (calls more : List Call) (d : Durable) → durable_after side (calls ++ more) d ≡ durable_after side more (durable_after side calls d)
durable_after-append side [] more d = refl
durable_after-append side (call ∷ calls) more d = durable_after-append side calls more _

pub durable_of-push : (calls : List Call) (call : Call) (side : Side) → durable_of (calls ++ call ∷ []) side ≡ (if is_side call.side side then changed call.change (durable_of calls side) else durable_of calls side)
durable_of-push calls call side = durable_after-append side calls (call ∷ []) (settled [])

take_front : (calls : List Call) (call : Call) (k : ℕ) → k ≤ length calls → take k (calls ++ call ∷ []) ≡ take k calls
take_front calls call zero le = refl
take_front [] call (suc k) le = absurd (omega arith)
take_front (c ∷ calls) call (suc k) le = ap (λ (l : List Call). c ∷ l) (take_front calls call k (omega arith))

-- one more call: what a crash at an earlier moment may have left stays what it was
pub elapses_push : (calls : List Call) (call : Call) → Elapses (length calls) (length (calls ++ call ∷ [])) (LeftAt calls) (LeftAt (calls ++ call ∷ []))
elapses_push calls call = record {
  later = omega (arith, length_push calls call);
  by_one = omega (arith, length_push calls call);
  stays = λ t contents le. (
    λ left side. subst (λ (l : List Call). MayLeave (durable_of l side) (contents side)) (take_front calls call t le) (left side),
    λ left side. subst (λ (l : List Call). MayLeave (durable_of l side) (contents side)) (sym (take_front calls call t le)) (left side),
  );
}

-- ---- a call that was begun

is_same : (side : Side) → is_side side side ≡ true
is_same A = refl
is_same B = refl

is_other : (side other : Side) → other ≢ side → is_side side other ≡ false
is_other A A differs = absurd (differs refl)
is_other A B differs = refl
is_other B A differs = refl
is_other B B differs = absurd (differs refl)

either_false : (b : Bool) → b ≡ (b || false)
either_false true = refl
either_false false = refl

-- a change that only touches positions
abbrev pub Touches : Change → Type 0
Touches change = (d : Durable) → (touches : ℕ → Bool) × (changed change d ≡ touching touches d)

pub untouched : (d : Durable) → d ≡ touching (λ _. false) d
untouched d i = record { synced = d.synced; touched = λ at. either_false (d.touched at) i }

pub nothing_touches : Touches Nothing
nothing_touches d = (λ _. false, untouched d)

pub write_only_touches : (at count : ℕ) → Touches (Write at count)
write_only_touches at count d = (write_touches d at count, refl)

pub cut_only_touches : (count : ℕ) → Touches (Cut count)
cut_only_touches count d = (cut_touches count, refl)

pub elapses_kept : (error : DiskError) (call : Call) (calls after : List Call) → Kept error call calls after → Elapses (length calls) (length after) (LeftAt calls) (LeftAt after)
elapses_kept Device call calls after is =
    subst (λ (l : List Call). Elapses (length calls) (length l) (LeftAt calls) (LeftAt l)) (sym is) (elapses_push calls call)
elapses_kept NoMemory call calls after is =
    subst (λ (l : List Call). Elapses (length calls) (length l) (LeftAt calls) (LeftAt l)) (sym is)
    (record { later = omega arith; by_one = omega arith; stays = λ t contents le. (λ left. left, λ left. left) })

module _ (call : Call) (calls after : List Call) where
  push_same : after ≡ calls ++ call ∷ [] → durable_of after call.side ≡ changed call.change (durable_of calls call.side)
  push_same is =
      ap (λ (l : List Call). durable_of l call.side) is ∙ durable_of-push calls call call.side
      ∙ ap (λ (b : Bool). if b then changed call.change (durable_of calls call.side) else durable_of calls call.side) (is_same call.side)

  push_other : after ≡ calls ++ call ∷ [] → (other : Side) → other ≢ call.side → durable_of after other ≡ durable_of calls other
  push_other is other differs =
      ap (λ (l : List Call). durable_of l other) is ∙ durable_of-push calls call other
      ∙ ap (λ (b : Bool). if b then changed call.change (durable_of calls other) else durable_of calls other) (is_other call.side other differs)

  pub kept_file : (T : Type 0) (a b : List ℕ) (done : File → File) (touches : ℕ → Bool) → changed call.change (durable_of calls call.side) ≡ touching touches (durable_of calls call.side)
      → (error : DiskError) → Kept error call calls after → Changes {T = T} done touches (Err error) (files_after a b calls call.side) (files_after a b after call.side)
  kept_file T a b done touches changes Device is = record {
    durable = push_same is ∙ changes;
    content = record { elsewhere = λ at h. refl; length_stays = λ h. refl };
  }
  kept_file T a b done touches changes NoMemory is = record {
    touched = λ _. false;
    within = λ at h. cc;
    fails = record {
      durable = ap (λ (l : List Call). durable_of l call.side) is ∙ untouched (durable_of calls call.side);
      content = record { elsewhere = λ at h. refl; length_stays = λ h. refl };
    };
  }

  pub kept_other : (a b : List ℕ) (error : DiskError) → Kept error call calls after → OtherStays call.side (files_after a b calls) (files_after a b after)
  kept_other a b Device is other differs = λ i. record { content = pick a b other; durable = push_other is other differs i }
  kept_other a b NoMemory is other differs = ap (λ (l : List Call). files_after a b l other) is

  pub kept_left : (content : Side → List ℕ) → Touches call.change → ((each : Side) → MayLeave (durable_of calls each) (content each))
      → (error : DiskError) → Kept error call calls after → (each : Side) → MayLeave (durable_of after each) (content each)
  kept_left content touches left Device is each = subst (λ (d : Durable). MayLeave d (content each)) (sym (ap (λ (l : List Call). durable_of l each) is ∙ durable_of-push calls call each)) (by (is_side call.side each))
    where
      by : (b : Bool) → MayLeave (if b then changed call.change (durable_of calls each) else durable_of calls each) (content each)
      by true = subst (λ (d : Durable). MayLeave d (content each)) (sym (touches (durable_of calls each)).1) (touching_left (durable_of calls each) (content each) (left each) (touches (durable_of calls each)).0)
      by false = left each
  kept_left content touches left NoMemory is each = subst (λ (l : List Call). MayLeave (durable_of l each) (content each)) (sym is) (left each)

  -- a call that changes nothing
  pub quiet_file : (a b : List ℕ) → call.change ≡ Nothing → (error : DiskError) → Kept error call calls after → (each : Side) → files_after a b after each ≡ files_after a b calls each
  quiet_file a b quiet Device is each = λ i. record { content = pick a b each; durable = same i }
    where
      by : (b : Bool) → (if b then changed call.change (durable_of calls each) else durable_of calls each) ≡ durable_of calls each
      by true = ap (λ (c : Change). changed c (durable_of calls each)) quiet
      by false = refl

      same : durable_of after each ≡ durable_of calls each
      same = ap (λ (l : List Call). durable_of l each) is ∙ durable_of-push calls call each ∙ by (is_side call.side each)
  quiet_file a b quiet NoMemory is each = ap (λ (l : List Call). files_after a b l each) is

  -- a call that did what it was to do
  pub done_file : (a b a' b' : List ℕ) (done : File → File) → after ≡ calls ++ call ∷ []
      → (pick a' b' call.side ≡ (done (files_after a b calls call.side)).content) → (changed call.change (durable_of calls call.side) ≡ (done (files_after a b calls call.side)).durable)
      → files_after a' b' after call.side ≡ done (files_after a b calls call.side)
  done_file a b a' b' done is content durable = λ i. record { content = content i; durable = (push_same is ∙ durable) i }

  pub done_other : (a b a' b' : List ℕ) → after ≡ calls ++ call ∷ [] → ((other : Side) → other ≢ call.side → pick a' b' other ≡ pick a b other) → OtherStays call.side (files_after a b calls) (files_after a' b' after)
  done_other a b a' b' is same other differs = λ i. record { content = same other differs i; durable = push_other is other differs i }

  pub done_left : (content content' : Side → List ℕ) → after ≡ calls ++ call ∷ [] → ((each : Side) → MayLeave (durable_of calls each) (content each))
      → MayLeave (changed call.change (durable_of calls call.side)) (content' call.side) → ((other : Side) → other ≢ call.side → content' other ≡ content other)
      → (each : Side) → MayLeave (durable_of after each) (content' each)
  done_left content content' is left here same each = elim (which call.side each) [
    | inl it ↦ subst (λ (s : Side). MayLeave (durable_of after s) (content' s)) it (subst (λ (d : Durable). MayLeave d (content' call.side)) (sym (push_same is)) here)
    | inr differs ↦ subst (λ (d : Durable). MayLeave d (content' each)) (sym (push_other is each differs)) (subst (MayLeave (durable_of calls each)) (sym (same each differs)) (left each))
  ]

-- what one of two files has after a change of one of them
pub chosen_same : (a b : List ℕ) (side : Side) (x : List ℕ) → (if is_side side side then x else pick a b side) ≡ x
chosen_same a b A x = refl
chosen_same a b B x = refl

pub chosen_other : (side other : Side) (x y : List ℕ) → other ≢ side → (if is_side side other then x else y) ≡ y
chosen_other side other x y differs = ap (λ (b : Bool). if b then x else y) (is_other side other differs)

-- a call that was begun and ended is recorded after those before it
pub ended : (old mid new : List Call) (side : Side) (kept change : Change) → new ≡ mid ++ record { side = side; change = kept; failed = false } ∷ [] → mid ≡ old → kept ≡ change
    → new ≡ old ++ record { side = side; change = change; failed = false } ∷ []
ended old mid new side kept change end same is =
    end ∙ ap (λ (calls : List Call). calls ++ record { side = side; change = kept; failed = false } ∷ []) same
    ∙ ap (λ (c : Change). old ++ record { side = side; change = c; failed = false } ∷ []) is

-- a write for whose bytes memory was refused
pub refused_file : (T : Type 0) (a b a' b' : List ℕ) (calls after : List Call) (side : Side) (done : File → File) (touches : ℕ → Bool) → after ≡ calls → pick a' b' side ≡ pick a b side
    → Changes {T = T} done touches (Err NoMemory) (files_after a b calls side) (files_after a' b' after side)
refused_file T a b a' b' calls after side done touches same content = record {
  touched = λ _. false;
  within = λ at h. cc;
  fails = record {
    durable = ap (λ (l : List Call). durable_of l side) same ∙ untouched (durable_of calls side);
    content = record { elsewhere = λ at h. ap (λ (l : List ℕ). slice_get l at) content; length_stays = λ h. ap length content };
  };
}
