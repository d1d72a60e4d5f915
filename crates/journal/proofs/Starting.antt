-- What the start of a journal leaves.
use Rattle.std.proofs.Common.{inl, ℕ, ◌≤◌, List, length, refl, subst, arith}
use Rattle.std.specs.Prelude.{◌↔◌, Ok, Err}
use Rattle.disk.specs.declared.side.Side.{Side}
use Rattle.disk.specs.declared.storage.Disk.{Ghosts}
use Rattle.disk.specs.File.{File, MayLeave}
use Rattle.disk.specs.Settled.{settled_only}
use Rattle.disk.specs.Time.{Contents, MayLeaveNow, KeepsAll}
use Rattle.disk.specs.Storage.{WritesSynced}
use Rattle.disk.specs.Moments.{begun}
use Rattle.disk.proofs.Durability.{touches_before}
use Rattle.journal.proofs.Appending.{unwritten}

module _ {D : Type 0} (storage : Ghosts D) where
  -- no call of the disk was made
  pub nothing_written : {T E : Type 0} (at_now : (disk : D) (contents : Contents) → storage.left_at disk (storage.moment disk) contents ↔ MayLeaveNow (storage.files disk) contents)
      (side : Side) (at : ℕ) (bytes : List ℕ) (disk : D) (error : E) → at ≤ length (storage.files disk side).content → WritesSynced {T = T} storage side at bytes disk disk (Err error)
  nothing_written at_now side at bytes disk error within = record {
    ok = tt;
    other = λ other differs. refl;
    touches = begun storage.moment storage.left_at disk _ (λ contents left. touches_before side at (length bytes) (storage.files disk) contents ((at_now disk contents).0 left));
    any_moment = λ content is. begun storage.moment storage.left_at disk _ (λ contents left.
        let now = (at_now disk contents).0 left in
        let here = settled_only content (contents side) (subst (λ (f : File). MayLeave f.durable (contents side)) is (now side)) in
        (unwritten content at (length bytes) (subst (λ (f : File). at ≤ length f.content) is within) (contents side) here, λ other differs. now other));
    at_once = λ t from to. inl (λ k begins ends contents left. keeps k contents begins (omega (arith, to, ends)) left);
    err = λ contents left. left;
    err_moments = keeps;
  }
    where
      keeps : KeepsAll storage.files storage.moment storage.left_at disk disk
      keeps k contents begins ends left = subst (λ (n : ℕ). storage.left_at disk n contents) (omega (arith, begins, ends)) ((at_now disk contents).1 left)

  -- the result of a write as that of another call
  pub failed_as : {S T E F : Type 0} (side : Side) (at : ℕ) (bytes : List ℕ) (old new : D) (one : E) (two : F) → WritesSynced {T = S} storage side at bytes old new (Err one) → WritesSynced {T = T} storage side at bytes old new (Err two)
  failed_as side at bytes old new one two writes = record {
    ok = tt;
    other = writes.other;
    touches = writes.touches;
    any_moment = writes.any_moment;
    at_once = writes.at_once;
    err = writes.err;
    err_moments = writes.err_moments;
  }

  pub went_as : {S T E F : Type 0} (side : Side) (at : ℕ) (bytes : List ℕ) (old new : D) (one : S) (two : T) → WritesSynced {E = E} storage side at bytes old new (Ok one) → WritesSynced {E = F} storage side at bytes old new (Ok two)
  went_as side at bytes old new one two writes = record {
    ok = writes.ok;
    other = writes.other;
    touches = writes.touches;
    any_moment = writes.any_moment;
    at_once = writes.at_once;
    err = tt;
    err_moments = tt;
  }
