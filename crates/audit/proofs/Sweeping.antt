-- A loop that tries one instance after another.
use Rattle.std.proofs.Common.{◌≡◌, ◌⊎◌, ◌∙◌, Bool, true, false, List, [], ◌∷◌, inl, inr, refl, sym, subst}
use Rattle.std.proofs.lemmas.Bool.{false≢true}
use Rattle.terms.specs.declared.name.Inst.{Inst}
use Rattle.terms.specs.Facts.{done}
use Rattle.terms.specs.Sets.{OneFact}
use Rattle.instances.specs.Listed.{AreTheDone}
use Rattle.machine.specs.Machine.{Machine, facts}
use Rattle.machine.specs.Marked.{Marks, marked}
use Rattle.machine.specs.Promise.{IsKept}
use Rattle.audit.specs.Replayed.{AreStuck, IsReplayed, IsStuck, ReplaysAs, ReplaysOne, StaysAs}
use Rattle.audit.proofs.Left.{Left, none_left, one_done, the_next}
use Rattle.audit.proofs.Listed.{IsDoneIn, all_done_left}

-- it is marked, or nothing more comes of it
abbrev pub IsOver : Machine → Marks → Inst → Type 0
IsOver store m instance = (marked m (done instance) ≡ true) ⊎ IsStuck store m instance

-- Of this list, each is done in the store, and still to be tried. If one was replayed since the first moment, what was marked still is; if none, nothing has changed.
pub record Sweeping (store : Machine) (first now : Marks) (is_one : Bool) (list : List Inst) : Type 0 where
  pub replayed : IsReplayed store now
  pub left : Left (IsDoneIn store) (λ instance. (is_one ≡ false) → IsOver store now instance) list
  pub some : is_one ≡ true → ReplaysOne store first now
  pub none : is_one ≡ false → now ≡ first

pub begins_sweep : OneFact → (store : Machine) (m : Marks) (list : List Inst) → IsKept store → AreTheDone store.memory.instances list → IsReplayed store m → Sweeping store m m false list
begins_sweep told store m list kept are replayed = record {
  replayed = replayed;
  left = all_done_left told store (λ instance. (false ≡ false) → IsOver store m instance) list kept are;
  some = λ is. absurd (false≢true is);
  none = λ is. refl;
}

pub is_done : (store : Machine) (first now : Marks) (is_one : Bool) (instance : Inst) (list : List Inst) → Sweeping store first now is_one (instance ∷ list) → facts store (done instance) ≡ true
is_done store first now is_one instance list sweeping = the_next (IsDoneIn store) (λ i. (is_one ≡ false) → IsOver store now i) instance list sweeping.left

true_or_false : {A : Type 0} → true ≡ false → A
true_or_false same = absurd (false≢true (sym same))

-- one more was replayed
pub sweeps_on : (store : Machine) (first now new : Marks) (is_one : Bool) (instance : Inst) (list : List Inst) → Sweeping store first now is_one (instance ∷ list) → IsReplayed store new → ReplaysAs now new instance → Sweeping store first new true list
sweeps_on store first now new is_one instance list sweeping replayed replays = record {
  replayed = replayed;
  left = record { rest = λ i is. inl (λ same. true_or_false same); there = λ i is. sweeping.left.there i (inr is) };
  some = λ is. at is_one refl;
  none = λ same. true_or_false same;
}
  where
    at : (b : Bool) → is_one ≡ b → ReplaysOne store first new
    at true is =
        let one = sweeping.some is in record {
          instance = one.instance;
          of_store = one.of_store;
          replays = record { before = one.replays.before; after = replays.grows (done one.instance) one.replays.after; grows = λ fact there. replays.grows fact (one.replays.grows fact there) };
        }
    at false is = record {
      instance = instance;
      of_store = is_done store first now is_one instance list sweeping;
      replays = subst (λ (m : Marks). ReplaysAs m new instance) (sweeping.none is) replays;
    }

-- it was not
pub sweeps_past : (store : Machine) (first now new : Marks) (is_one : Bool) (instance : Inst) (list : List Inst) → Sweeping store first now is_one (instance ∷ list) → StaysAs store now new instance → Sweeping store first new is_one list
sweeps_past store first now new is_one instance list sweeping stays =
    subst (λ (m : Marks). Sweeping store first m is_one list) (sym stays.0) (record {
      replayed = sweeping.replayed;
      left = one_done (IsDoneIn store) (λ i. (is_one ≡ false) → IsOver store now i) instance list sweeping.left (λ same. stays.1);
      some = sweeping.some;
      none = sweeping.none;
    })

-- at the end of one that replayed none
pub all_stuck : (store : Machine) (first now : Marks) (is_one : Bool) → is_one ≡ false → Sweeping store first now is_one [] → AreStuck store now
all_stuck store first now is_one none sweeping instance there unmarked =
    elim (none_left (IsDoneIn store) (λ i. (is_one ≡ false) → IsOver store now i) sweeping.left instance there none) [
      | inl is ↦ absurd (false≢true (sym unmarked ∙ is))
      | inr stuck ↦ stuck
    ]
