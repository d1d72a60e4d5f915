-- Waiting instances become ready one after another.
use Rattle.std.proofs.Common.{◌≡◌, ◌≢◌, ◌∙◌, ap, sym, refl, subst, ℕ, zero, suc, ◌<◌, ◌≤◌, Bool, true, false, cond, ◌||◌, List, [], ◌∷◌, ◌+◌, take, drop, length, get_or, Option, Some, None, arith}
use Rattle.std.proofs.lemmas.Bool.{false≢true}
use Rattle.std.proofs.lemmas.List.Folds.{list_any_more}
use Rattle.std.specs.FinMap.{IsAntisymmetric}
use Rattle.std.specs.Ordering.{eq_by_cmp, is_eq}
use Rattle.std.proofs.lemmas.Cmp.{tied_itself}
use Rattle.std.specs.Cmp.{IsTotalOrder, Equal-is}
use Rattle.terms.specs.declared.name.Inst.{Inst}
use Rattle.terms.specs.Name.{inst_cmp}
use Rattle.items.specs.Once.{is_one_of}
use Rattle.instances.specs.declared.state.State.{State}
use Rattle.instances.specs.declared.state.State.TheVariants.{Ready, Running, Waiting, Done}
use Rattle.instances.specs.OfStep.{IsWaiting, is_running, one_if}
use Rattle.instances.specs.Known.{Known, state_at, MovesOne}
use Rattle.machine.specs.Waking.{EachWaits, Wakes}

-- what is left of a list at an index begins with the element there
pub left_at : {X : Type 0} (n : ℕ) (xs : List X) (x : X) → n < length xs → x ≡ get_or xs n x → drop n xs ≡ x ∷ drop (suc n) xs
left_at n [] x within is = absurd (omega (arith, within))
left_at zero (first ∷ xs) x within is = ap (λ y. y ∷ xs) (sym is)
left_at (suc n) (first ∷ xs) x within is = left_at n xs x (omega (arith, within)) is

-- at the end nothing is left
pub left_none : {X : Type 0} (n : ℕ) (xs : List X) → length xs ≤ n → drop n xs ≡ []
left_none zero [] past = refl
left_none zero (x ∷ xs) past = absurd (omega (arith, past))
left_none (suc n) [] past = refl
left_none (suc n) (x ∷ xs) past = left_none n xs (omega (arith, past))

-- nothing is woken
pub wakes_none : (known : Known) → Wakes known known []
wakes_none known = record { tags = refl; states = λ i. refl; prescribers = λ n. refl; running = refl; room = λ c. refl }

-- one that waits does not run
runs_not : (state : Option State) → IsWaiting state → one_if is_running state ≡ 0
runs_not None waits = absurd waits
runs_not (Some Ready) waits = absurd waits
runs_not (Some Running) waits = absurd waits
runs_not (Some (Waiting address)) waits = refl
runs_not (Some Done) waits = absurd waits

-- if a disjunction is false, both its parts are
neither : (a b : Bool) → (a || b) ≡ false → (a ≡ false) × (b ≡ false)
neither true b none = absurd (false≢true (sym none))
neither false b none = (refl, none)

module _ (total : IsTotalOrder inst_cmp) (tie : IsAntisymmetric inst_cmp) where
  -- instances that compare as equal are equal
  pub one_instance : (a b : Inst) → eq_by_cmp inst_cmp a b ≡ true → a ≡ b
  one_instance a b is = tie a b ((Equal-is (inst_cmp a b)).0 is)

  pub itself : (i : Inst) → eq_by_cmp inst_cmp i i ≡ true
  itself i = ap is_eq (tied_itself total i)

  unlike : (a b : Inst) → eq_by_cmp inst_cmp a b ≡ false → eq_by_cmp inst_cmp b a ≡ false
  unlike a b not = other (eq_by_cmp inst_cmp b a) refl
    where
      other : (c : Bool) → eq_by_cmp inst_cmp b a ≡ c → c ≡ false
      other true is = absurd (false≢true (sym not ∙ ap (eq_by_cmp inst_cmp a) (one_instance b a is) ∙ itself a))
      other false is = refl

  -- an instance is among the first `k + 1` if it is among the first `k`, or is the next
  one_more : (i : Inst) (k : ℕ) (ws : List Inst) (next : Inst) → k < length ws → next ≡ get_or ws k next → is_one_of i (take (suc k) ws) ≡ (is_one_of i (take k ws) || eq_by_cmp inst_cmp i next)
  one_more i k ws next within is =
      let more : k + 1 ≡ suc k = omega arith in
      subst (λ m. is_one_of i (take m ws) ≡ (is_one_of i (take k ws) || eq_by_cmp inst_cmp i next)) more
      (list_any_more (eq_by_cmp inst_cmp i) ws k next within ∙ ap (λ one. is_one_of i (take k ws) || eq_by_cmp inst_cmp i one) (sym is))

  -- the last of the waiting instances, which does not appear before, and those before it
  pub last_waits : (known : Known) (k : ℕ) (ws : List Inst) (last : Inst) → k < length ws → last ≡ get_or ws k last → EachWaits known (take (suc k) ws)
      → IsWaiting (state_at known last) × (is_one_of last (take k ws) ≡ false) × EachWaits known (take k ws)
  last_waits known k [] last within is waits = absurd (omega (arith, within))
  last_waits known zero (first ∷ ws) last within is waits = (subst (λ one. IsWaiting (state_at known one)) (sym is) waits.0, refl, tt)
  last_waits known (suc k) (first ∷ ws) last within is waits =
      let inside : k < length ws = omega (arith, within) in
      let behind = last_waits known k ws last inside is waits.2 in
      let apart = neither (is_one_of first (take k ws)) (eq_by_cmp inst_cmp first last) (sym (one_more first k ws last inside is) ∙ waits.1) in
      (behind.0, ap (λ b. b || is_one_of last (take k ws)) (unlike first last apart.1) ∙ behind.1, (waits.0, apart.0, behind.2))

  -- waking the last, and then those before it, is waking them all
  pub wakes_more : (old mid new : Known) (k : ℕ) (ws : List Inst) (last : Inst) → k < length ws → last ≡ get_or ws k last → IsWaiting (state_at old last) → MovesOne old mid last Ready
      → Wakes mid new (take k ws) → Wakes old new (take (suc k) ws)
  wakes_more old mid new k ws last within is waits moves wakes = record {
    tags = wakes.tags ∙ moves.tags;
    states = λ i.
        wakes.states i
        ∙ merged (is_one_of i (take k ws)) (eq_by_cmp inst_cmp i last) (Some Ready) (state_at mid i) (state_at old i) (λ same. ap (state_at mid) (one_instance i last same) ∙ moves.here)
        (λ other. moves.others i (λ same. false≢true (sym other ∙ ap (λ (j : Inst). eq_by_cmp inst_cmp j last) same ∙ itself last)))
        ∙ ap (λ b. cond b (Some Ready) (state_at old i)) (sym (one_more i k ws last within is));
    prescribers = λ n. wakes.prescribers n ∙ moves.prescribers n;
    running = omega (arith, wakes.running, moves.counts is_running, runs_not (state_at old last) waits);
    room = λ c. wakes.room c ∙ moves.room c;
  }
    where
      merged : (a b : Bool) (ready mid old : Option State) → (b ≡ true → mid ≡ ready) → (b ≡ false → mid ≡ old) → cond a ready mid ≡ cond (a || b) ready old
      merged true b ready mid old here others = refl
      merged false true ready mid old here others = here refl
      merged false false ready mid old here others = others refl

  -- the others still wait
  pub still_wait : (old mid : Known) (one : Inst) (others : List Inst) → MovesOne old mid one Ready → is_one_of one others ≡ false → EachWaits old others → EachWaits mid others
  still_wait old mid one [] moves none waits = tt
  still_wait old mid one (other ∷ others) moves none waits =
      let apart = neither (eq_by_cmp inst_cmp one other) (is_one_of one others) none in
      let another : other ≢ one = λ same. false≢true (sym apart.0 ∙ ap (eq_by_cmp inst_cmp one) same ∙ itself one) in
      (subst IsWaiting (sym (moves.others other another)) waits.0, waits.1, still_wait old mid one others moves apart.1 waits.2)
