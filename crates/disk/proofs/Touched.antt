-- The durable state of a file, computed from the calls since its last sync.
use Rattle.std.proofs.Common.{◌≡◌, ℕ, ◌+◌, ◌≤◌, ◌<◌, Bool, true, false, ◌||◌, ◌&&◌, List, [], ◌∷◌, ◌++◌, length, take, drop, if◌then◌else◌, refl, sym, ap, subst, ◌∙◌, arith, get_or, length-take, Some, None}
use Rattle.std.proofs.lemmas.List.{take_more, drop_all, drop-append-le}
use Rattle.std.proofs.lemmas.List.Folds.{list_any-append}
use Rattle.disk.specs.declared.side.Side.{Side}
use Rattle.disk.specs.declared.record.Call.{Call}
use Rattle.disk.specs.declared.record.Change.{Change}
use Rattle.disk.specs.declared.record.Change.TheVariants.{Nothing, Write, Cut, Sync}
use Rattle.disk.specs.Side.{is_side}
use Rattle.disk.specs.File.{Durable, settled, write_touches, cut_touches}
use Rattle.disk.specs.Calls.{changed, durable_of}
use Rattle.disk.specs.Crash.{change_syncs, call_syncs, change_touches, call_touches, calls_touch, TouchedSince}
use Rattle.disk.proofs.Calls.{durable_of-push}

or_false : (b : Bool) → (b || false) ≡ b
or_false true = refl
or_false false = refl

calls_touch-push : (synced : List ℕ) (side : Side) (calls : List Call) (call : Call) (at : ℕ) → calls_touch synced side (calls ++ call ∷ []) at ≡ (calls_touch synced side calls at || call_touches synced side call at)
calls_touch-push synced side calls call at =
    list_any-append (λ (c : Call). call_touches synced side c at) calls (call ∷ []) ∙ ap (λ b. calls_touch synced side calls at || b) (or_false (call_touches synced side call at))

-- the durable state of this side's file after one more call
abbrev step : Side → Call → Durable → Durable
step side call durable = if is_side call.side side then changed call.change durable else durable

step_sync : (side : Side) (call : Call) (d : Durable) (content : List ℕ) → call_syncs side call ≡ Some content → step side call d ≡ settled content
step_sync side call d content = by (is_side call.side side) call.change
  where
    by : (on : Bool) (change : Change) → (if on then change_syncs change else None) ≡ Some content → (if on then changed change d else d) ≡ settled content
    by false change e = cc
    by true Nothing e = cc
    by true (Write from count) e = cc
    by true (Cut end) e = cc
    by true (Sync bytes) e = let same : bytes.items ≡ content = cc in ap (λ (l : List ℕ). settled l) same

step_other : (side : Side) (call : Call) (d : Durable) (synced : List ℕ) (calls : List Call) → call_syncs side call ≡ None → TouchedSince d side synced calls → TouchedSince (step side call d) side synced (calls ++ call ∷ [])
step_other side call d synced calls none since = record {
  synced_is = by (is_side call.side side) call.change none;
  touched_is = λ at. touched at (is_side call.side side) call.change none ∙ sym (calls_touch-push synced side calls call at);
}
  where
    by : (on : Bool) (change : Change) → (if on then change_syncs change else None) ≡ None → (if on then changed change d else d).synced ≡ synced
    by false change e = since.synced_is
    by true Nothing e = since.synced_is
    by true (Write from count) e = since.synced_is
    by true (Cut end) e = since.synced_is
    by true (Sync bytes) e = cc

    touched : (at : ℕ) (on : Bool) (change : Change) → (if on then change_syncs change else None) ≡ None → (if on then changed change d else d).touched at ≡ (calls_touch synced side calls at || (on && change_touches synced change at))
    touched at false change e = since.touched_is at ∙ sym (or_false (calls_touch synced side calls at))
    touched at true Nothing e = since.touched_is at ∙ sym (or_false (calls_touch synced side calls at))
    touched at true (Write from count) e =
        ap (λ (b : Bool). b || write_touches d from count at) (since.touched_is at)
        ∙ ap (λ (l : List ℕ). calls_touch synced side calls at || write_touches (settled l) from count at) since.synced_is
    touched at true (Cut end) e = ap (λ (b : Bool). b || cut_touches end at) (since.touched_is at)
    touched at true (Sync bytes) e = cc

-- after the first calls, and one more at this index
module _ (calls : List Call) (index : ℕ) (call : Call) (within : index < length calls) (is : call ≡ get_or calls index call) (side : Side) where
  one_more : take (index + 1) calls ≡ take index calls ++ call ∷ []
  one_more = take_more calls index call within ∙ ap (λ (c : Call). take index calls ++ c ∷ []) (sym is)

  durable_more : durable_of (take (index + 1) calls) side ≡ step side call (durable_of (take index calls) side)
  durable_more = ap (λ (l : List Call). durable_of l side) one_more ∙ durable_of-push (take index calls) call side

  pub since_sync : (content : List ℕ) → Some content ≡ call_syncs side call → TouchedSince (durable_of (take (index + 1) calls) side) side content (drop (index + 1) (take (index + 1) calls))
  since_sync content syncs =
      let durable = durable_more ∙ step_sync side call (durable_of (take index calls) side) content (sym syncs) in
      let none : drop (index + 1) (take (index + 1) calls) ≡ [] = drop_all (index + 1) (take (index + 1) calls) (omega (arith, length-take (index + 1) calls)) in
      record {
        synced_is = ap (λ (d : Durable). d.synced) durable;
        touched_is = λ at. ap (λ (d : Durable). d.touched at) durable ∙ sym (ap (λ (l : List Call). calls_touch content side l at) none);
      }

  pub since_other : (synced : List ℕ) (behind : ℕ) → behind ≤ index → None ≡ call_syncs side call → TouchedSince (durable_of (take index calls) side) side synced (drop behind (take index calls))
      → TouchedSince (durable_of (take (index + 1) calls) side) side synced (drop behind (take (index + 1) calls))
  since_other synced behind le none since =
      let rest : drop behind (take (index + 1) calls) ≡ drop behind (take index calls) ++ call ∷ [] =
      ap (drop behind) one_more ∙ drop-append-le behind (take index calls) (call ∷ []) (omega (arith, length-take index calls)) in
      subst (λ (d : Durable). TouchedSince d side synced (drop behind (take (index + 1) calls))) (sym durable_more)
      (subst (TouchedSince (step side call (durable_of (take index calls) side)) side synced) (sym rest)
      (step_other side call (durable_of (take index calls) side) synced (drop behind (take index calls)) (sym none) since))
