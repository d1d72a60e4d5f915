-- How a list of calls goes on, one call at a time.
use Rattle.std.proofs.Common.{ℕ, ◌≤◌, inl, inr, subst, arith}
use Rattle.std.proofs.lemmas.Bool.{cases_lt}
use Rattle.std.specs.Prelude.{◌↔◌}
use Rattle.disk.specs.declared.side.Side.{Side}
use Rattle.disk.specs.File.{File, MayLeave}
use Rattle.disk.specs.Time.{Contents, MayLeaveNow, OtherStays, OtherMayBe, Elapses, LeavesOnly, LeavesSince}

module _ {D : Type 0} (moment : D → ℕ) (left_at : D → ℕ → Contents → Type 0) where
  -- before the first call
  pub begun : (old : D) (P : Contents → Type 0) → ((c : Contents) → left_at old (moment old) c → P c) → LeavesOnly moment left_at old old P
  begun old P now = record {
    later = omega arith;
    each = λ t c from to left. now c (subst (λ (n : ℕ). left_at old n c) (omega (arith, from, to)) left);
    stays = λ t c le. (λ left. left, λ left. left);
  }

  -- after one more call, if what a crash may then leave has P
  pub goes_on : (old mid new : D) (P : Contents → Type 0) → LeavesOnly moment left_at old mid P → Elapses (moment mid) (moment new) (left_at mid) (left_at new)
      → ((c : Contents) → left_at new (moment new) c → P c) → LeavesOnly moment left_at old new P
  goes_on old mid new P so_far time now = record {
    later = omega (arith, so_far.later, time.later);
    each = λ t c from to left. elim (cases_lt (moment mid) t) [
      | inl after ↦ now c (subst (λ (n : ℕ). left_at new n c) (omega (arith, after, to, time.by_one)) left)
      | inr before ↦ so_far.each t c from before ((time.stays t c before).0 left)
    ];
    stays = λ t c le.
        let last = time.stays t c (omega (arith, le, so_far.later)) in
        let first = so_far.stays t c le in
        (λ left. first.0 (last.0 left), λ left. last.1 (first.1 left));
  }

  -- the same for a weaker property Q
  pub weakened : (old new : D) (P Q : Contents → Type 0) → LeavesOnly moment left_at old new P → ((c : Contents) → P c → Q c) → LeavesOnly moment left_at old new Q
  weakened old new P Q only so = record { later = only.later; each = λ t c from to left. so c (only.each t c from to left); stays = only.stays }

  -- two lists of calls, one after the other; the first is given by the moment when it began and what a crash might have left until then
  pub joined_since : (from : ℕ) (left : ℕ → Contents → Type 0) (mid new : D) (P Q R : Contents → Type 0) → LeavesSince moment left_at from left mid P → LeavesOnly moment left_at mid new Q
      → ((c : Contents) → P c → R c) → ((c : Contents) → Q c → R c) → LeavesSince moment left_at from left new R
  joined_since from left mid new P Q R first second from_first from_second = record {
    later = omega (arith, first.later, second.later);
    each = λ t c after_from to was. elim (cases_lt (moment mid) t) [
      | inl after ↦ from_second c (second.each t c (omega (arith, after)) to was)
      | inr before ↦ from_first c (first.each t c after_from before ((second.stays t c before).0 was))
    ];
    stays = λ t c le.
        let last = second.stays t c (omega (arith, le, first.later)) in
        let early = first.stays t c le in
        (λ was. early.0 (last.0 was), λ was. last.1 (early.1 was));
  }

  -- what holds since the beginning holds of the last moment by itself
  pub leaves_at_last : (from : ℕ) (left : ℕ → Contents → Type 0) (mid : D) (P : Contents → Type 0) → LeavesSince moment left_at from left mid P → LeavesOnly moment left_at mid mid P
  leaves_at_last from left mid P first = record {
    later = omega arith;
    each = λ t c after to was. first.each t c (omega (arith, after, first.later)) to was;
    stays = λ t c le. (λ was. was, λ was. was);
  }

  pub joined : (old mid new : D) (P Q R : Contents → Type 0) → LeavesOnly moment left_at old mid P → LeavesOnly moment left_at mid new Q
      → ((c : Contents) → P c → R c) → ((c : Contents) → Q c → R c) → LeavesOnly moment left_at old new R
  joined old = joined_since (moment old) (left_at old)

  -- at each moment of one call a crash may leave what it may leave both before the call and after it
  pub call_keeps : (files : D → Side → File) (at_now : (disk : D) (c : Contents) → left_at disk (moment disk) c ↔ MayLeaveNow (files disk) c) (old new : D)
      → Elapses (moment old) (moment new) (left_at old) (left_at new) → (c : Contents) → MayLeaveNow (files old) c → MayLeaveNow (files new) c
      → (k : ℕ) → moment old ≤ k → k ≤ moment new → left_at new k c
  call_keeps files at_now old new time c before after k from to = elim (cases_lt (moment old) k) [
    | inl late ↦ subst (λ (n : ℕ). left_at new n c) (omega (arith, late, to, time.by_one)) ((at_now new c).1 after)
    | inr early ↦ (time.stays k c early).1 (subst (λ (n : ℕ). left_at old n c) (omega (arith, early, from)) ((at_now old c).1 before))
  ]

-- of the other file a crash now leaves only what it might have left before calls on this one
pub other_before : (side : Side) (old new : Side → File) → OtherStays side old new → (c : Contents) → OtherMayBe side new c → OtherMayBe side old c
other_before side old new stays c left other differs = subst (λ (f : File). MayLeave f.durable (c other)) (stays other differs) (left other differs)
