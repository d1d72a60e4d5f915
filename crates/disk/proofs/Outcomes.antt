-- Exactly what a crash may leave after one write or one cut, after another crash, and after a failure.
use Rattle.std.proofs.Common.{◌≡◌, ◌⊎◌, inl, inr, ℕ, ◌+◌, ◌≤◌, ◌<◌, Bool, false, List, [], ◌∷◌, length, max, sym, subst, ◌∙◌, arith, All}
use Rattle.std.specs.Prelude.{slice_get, ◌↔◌}
use Rattle.std.proofs.lemmas.Bool.{cases_lt, or_parts}
use Rattle.std.proofs.lemmas.Bool.Decides.{nat_tests}
use Rattle.std.proofs.lemmas.List.Elements.{All-nil, All-cons, All-head, All-tail}
use Rattle.disk.specs.File.{Durable, File, AreBytes, MayLeave, Fails, WriteLeaves, settled, write_touches, cut_touches}
use Rattle.disk.specs.Crash.{crashed}
use Rattle.disk.specs.Laws.{Crashes, DiffersWithin, BeginsAs, after_write, after_cut}
use Rattle.disk.proofs.Left.{alone, short, touching_left}
use Rattle.disk.specs.Settled.{same_places}
use Rattle.disk.proofs.Fronts.{front_from_places, places_from_front, back_from_places, places_from_back, reaches_from_front}

-- ---- one write

module _ (synced : List ℕ) (from count : ℕ) (bytes : List ℕ) where
  in_front : from ≤ length synced → (at : ℕ) → at < from → write_touches (settled synced) from count at ≡ false
  in_front le at lt = grind (arith, nat_tests)

  behind_it : from + count ≤ length synced → (at : ℕ) → from + count ≤ at → write_touches (settled synced) from count at ≡ false
  behind_it le at ge = grind (arith, nat_tests)

  pub within_differs : from + count ≤ length synced → MayLeave (after_write synced from count) bytes → DiffersWithin from (from + count) synced bytes
  within_differs le left = record {
    are_bytes = left.are_bytes;
    same_length = left.agrees.length_stays (λ at ge. behind_it le at (omega arith));
    front = front_from_places bytes synced from (λ at lt. left.agrees.elsewhere at (in_front (omega arith) at lt));
    behind = back_from_places bytes synced (from + count) (λ at ge. left.agrees.elsewhere at (behind_it le at ge));
  }

  pub differs_within : DiffersWithin from (from + count) synced bytes → MayLeave (after_write synced from count) bytes
  differs_within differs = record {
    are_bytes = differs.are_bytes;
    agrees = record { elsewhere = λ at h. same at (alone (settled synced) from count at h); length_stays = λ h. differs.same_length };
  }
    where
      same : (at : ℕ) → (at < from) ⊎ (from + count ≤ at) → slice_get bytes at ≡ slice_get synced at
      same at (inl before) = places_from_front bytes synced from differs.front at before
      same at (inr after) = places_from_back bytes synced (from + count) differs.behind at after

  pub past_begins : from ≤ length synced → MayLeave (after_write synced from count) bytes → BeginsAs from synced bytes
  past_begins le left =
      let front = front_from_places bytes synced from (λ at lt. left.agrees.elsewhere at (in_front le at lt)) in
      record { are_bytes = left.are_bytes; reaches = reaches_from_front bytes synced from front le; front = front }

  pub begins_past : length synced < from + count → BeginsAs from synced bytes → MayLeave (after_write synced from count) bytes
  begins_past past begins = record {
    are_bytes = begins.are_bytes;
    agrees = record {
      elsewhere = λ at h. places_from_front bytes synced from begins.front at (before at h);
      length_stays = λ h. let end = short (settled synced) from count h in absurd (omega arith);
    };
  }
    where
      before : (at : ℕ) → write_touches (settled synced) from count at ≡ false → at < from
      before at h = grind (arith, nat_tests)

  pub write_leaves_exactly : from ≤ length synced → MayLeave (after_write synced from count) bytes ↔ (AreBytes bytes × WriteLeaves synced from count bytes)
  write_leaves_exactly le = elim (cases_lt (length synced) (from + count)) [
    | inl past ↦ (
      λ left. let begins = past_begins le left in (begins.are_bytes, record { front = begins.front; reaches = begins.reaches; length_stays = λ within. absurd (omega arith); back = λ within. absurd (omega arith) }),
      λ that. begins_past past (record { are_bytes = that.0; reaches = that.1.reaches; front = that.1.front }),
    )
    | inr within ↦ (
      λ left.
          let differs = within_differs within left in
          (differs.are_bytes, record { front = differs.front; reaches = (past_begins le left).reaches; length_stays = λ h. differs.same_length; back = λ h. differs.behind }),
      λ that. differs_within (record { are_bytes = that.0; same_length = that.1.length_stays within; front = that.1.front; behind = that.1.back within }),
    )
  ]

-- ---- one cut

module _ (synced : List ℕ) (end : ℕ) (bytes : List ℕ) where
  pub cut_begins : end ≤ length synced → MayLeave (after_cut synced end) bytes → BeginsAs end synced bytes
  cut_begins le left =
      let front = front_from_places bytes synced end (λ at lt. left.agrees.elsewhere at (before at lt)) in
      record { are_bytes = left.are_bytes; reaches = reaches_from_front bytes synced end front le; front = front }
    where
      before : (at : ℕ) → at < end → cut_touches end at ≡ false
      before at lt = grind (arith, nat_tests)

  pub begins_cut : BeginsAs end synced bytes → MayLeave (after_cut synced end) bytes
  begins_cut begins = record {
    are_bytes = begins.are_bytes;
    agrees = record {
      elsewhere = λ at h. places_from_front bytes synced end begins.front at (before at h);
      length_stays = λ h. let far = before (max end (length synced)) (h (max end (length synced)) (omega arith)) in absurd (omega arith);
    };
  }
    where
      before : (at : ℕ) → cut_touches end at ≡ false → at < end
      before at h = grind (arith, nat_tests)

-- ---- crashes one after another

pub each_may : (file : File) (left : List (List ℕ)) → Crashes file left → All (MayLeave file.durable) left
each_may file [] crashes = All-nil (MayLeave file.durable)
each_may file (bytes ∷ later) crashes = All-cons (MayLeave file.durable) bytes later crashes.0 (each_may (crashed bytes file) later crashes.1)

pub may_each : (file : File) (left : List (List ℕ)) → All (MayLeave file.durable) left → Crashes file left
may_each file [] all = tt
may_each file (bytes ∷ later) all = (All-head (MayLeave file.durable) bytes later all, may_each (crashed bytes file) later (All-tail (MayLeave file.durable) bytes later all))

-- if nothing is touched, a crash can leave only one content
pub untouched_only : (d : Durable) → ((at : ℕ) → d.touched at ≡ false) → (one other : List ℕ) → MayLeave d one → MayLeave d other → other ≡ one
untouched_only d none one other left also = same_places other one (λ at. also.agrees.elsewhere at (none at) ∙ sym (left.agrees.elsewhere at (none at)))

-- ---- a write or a cut that failed

module _ (touches : ℕ → Bool) (old new : File) (fails : Fails touches old new) where
  pub failure_leaves_more : (bytes : List ℕ) → MayLeave old.durable bytes → MayLeave new.durable bytes
  failure_leaves_more bytes left = subst (λ (d : Durable). MayLeave d bytes) (sym fails.durable) (touching_left old.durable bytes left touches)

  pub failure_keeps_reads : AreBytes new.content → MayLeave old.durable old.content → MayLeave new.durable new.content
  failure_keeps_reads are left = subst (λ (d : Durable). MayLeave d new.content) (sym fails.durable) (record {
    are_bytes = are;
    agrees = record {
      elsewhere = λ at h. let parts = or_parts (old.durable.touched at) (touches at) h in fails.content.elsewhere at parts.1 ∙ left.agrees.elsewhere at parts.0;
      length_stays = λ h.
          let before = left.agrees.length_stays (λ at le. (or_parts (old.durable.touched at) (touches at) (h at le)).0) in
          fails.content.length_stays (λ at le. (or_parts (old.durable.touched at) (touches at) (h at (omega arith))).1) ∙ before;
    };
  })
