-- Two threads that put one item each.
use Rattle.std.proofs.Common.{◌≡◌, ◌≢◌, ◌⊎◌, ◌∙◌, ◌≤◌, ℕ, zero, suc, ℤ, Bool, true, false, true≢false, eqb, eq-eqb, ne_eqb, if◌then◌else◌, List, [], ◌∷◌, ◌++◌, length, Result, Ok, Err, refl, sym, ap, subst, inl, inr, arith}
use Rattle.std.proofs.lemmas.Bool.Decides.{nat_tests}
use Rattle.std.specs.List.{AllByRecursion}
use Rattle.terms.specs.declared.name.Addr.{Addr}
use Rattle.terms.specs.Commits.{Commit}
use Rattle.commit.specs.declared.error.CoreError.{CoreError}
use Rattle.commit.specs.Core.{Core}
use Rattle.passes.specs.Known.{Known, Made, commits, made_by, newcomer}
use Rattle.passes.specs.Rule.{IsInHistory}
use Rattle.passes.specs.Opening.{Opening}
use Rattle.hub.specs.Opening.{AreLegalBehind, IsBehind, WasTurned}
use Rattle.passes.specs.Roll.{mine_of}
use Rattle.hub.specs.Whole.{IsWhole}
use Rattle.hub.specs.Both.{BothPut, IsRefused, Puts, put_by}

-- ---- lists of what was made

number_is : (a b : ℕ) → eqb a b ≡ true → a ≡ b
number_is a b is = grind (arith, nat_tests)

apart : (a b : ℕ) → eqb a b ≡ false → a ≢ b
apart a b is same = true≢false (sym (eq-eqb a b same) ∙ is)

fewer : (made : Made) (number : ℕ) (history : List Made) → made_by number (made ∷ history) ≡ [] → made_by number history ≡ []
fewer made number history none = by_case (eqb made.pass number) none
  where
    by_case : (same : Bool) → (if same then made.commit ∷ made_by number history else made_by number history) ≡ [] → made_by number history ≡ []
    by_case true is = absurd (some (ap length is))
      where
        some : length (made.commit ∷ made_by number history) ≡ 0 → ⊥
        some is = omega (arith, is)
    by_case false is = is

made_own : (made : Made) (history : List Made) → made_by made.pass (made ∷ history) ≡ [] → ⊥
made_own made history none =
    let is : length (made.commit ∷ made_by made.pass history) ≡ 0 =
    ap length (sym (ap (λ (same : Bool). if same then made.commit ∷ made_by made.pass history else made_by made.pass history) (eq-eqb made.pass made.pass refl)) ∙ none) in
    omega (arith, is)

none_left : (list : List Commit) → length list ≡ 0 → list ≡ []
none_left [] is = refl
none_left (commit ∷ list) is = absurd (omega (arith, is))

-- ---- what was put

-- a history that has commits of one pass only has just those
of_one : (only : ℕ) (history : List Made) → ((number : ℕ) → number ≢ only → made_by number history ≡ []) → commits history ≡ made_by only history
of_one only [] none = refl
of_one only (made ∷ history) none = by_case (of_one only history (λ number other. fewer made number history (none number other))) (eqb made.pass only) refl
  where
    by_case : commits history ≡ made_by only history → (same : Bool) → eqb made.pass only ≡ same → made.commit ∷ commits history ≡ (if same then made.commit ∷ made_by only history else made_by only history)
    by_case rest true is = ap (λ (list : List Commit). made.commit ∷ list) rest
    by_case rest false is = absurd (made_own made history (none made.pass (apart made.pass only is)))

-- if each of two passes has at most one commit, these are all, in one order or the other
pub of_both : (history : List Made) (ones twos : List Commit) → ((number : ℕ) → number ≢ 0 → number ≢ 1 → made_by number history ≡ []) → made_by 0 history ≡ ones → made_by 1 history ≡ twos → length ones ≤ 1 → length twos ≤ 1
    → (commits history ≡ ones ++ twos) ⊎ (commits history ≡ twos ++ ones)
of_both [] ones twos none first second few_ones few_twos = inl (ap (λ (list : List Commit). list ++ []) first ∙ ap (λ (list : List Commit). ones ++ list) second)
of_both (made ∷ history) ones twos none first second few_ones few_twos = by_case (eqb made.pass 0) (eqb made.pass 1) refl refl first second
  where
    by_case : (zeroth other : Bool) → eqb made.pass 0 ≡ zeroth → eqb made.pass 1 ≡ other → (if zeroth then made.commit ∷ made_by 0 history else made_by 0 history) ≡ ones → (if other then made.commit ∷ made_by 1 history else made_by 1 history) ≡ twos
        → (made.commit ∷ commits history ≡ ones ++ twos) ⊎ (made.commit ∷ commits history ≡ twos ++ ones)
    by_case true other is_zero is_one firsts seconds = inl (
        ap (λ (list : List Commit). made.commit ∷ list) (of_one 1 history (λ number apart_one. others number apart_one) ∙ seconds_are other is_one seconds)
        ∙ ap (λ (list : List Commit). list ++ twos) (ap (λ (list : List Commit). made.commit ∷ list) (sym no_more) ∙ firsts))
      where
        no_more : made_by 0 history ≡ []
        no_more = none_left (made_by 0 history) (omega (arith, few_ones, ap length firsts))

        others : (number : ℕ) → number ≢ 1 → made_by number history ≡ []
        others zero apart_one = no_more
        others (suc number) apart_one = fewer made (suc number) history (none (suc number) (λ is. omega (arith, is)) apart_one)

        not_both : ◌≡◌ {A = ℕ} 0 1 → ⊥
        not_both is = omega (arith, is)

        seconds_are : (o : Bool) → eqb made.pass 1 ≡ o → (if o then made.commit ∷ made_by 1 history else made_by 1 history) ≡ twos → made_by 1 history ≡ twos
        seconds_are true is list = absurd (not_both (sym (number_is made.pass 0 is_zero) ∙ number_is made.pass 1 is))
        seconds_are false is list = list
    by_case false true is_zero is_one firsts seconds = inr (
        ap (λ (list : List Commit). made.commit ∷ list) (of_one 0 history (λ number apart_zero. others number apart_zero) ∙ firsts)
        ∙ ap (λ (list : List Commit). list ++ ones) (ap (λ (list : List Commit). made.commit ∷ list) (sym no_more) ∙ seconds))
      where
        no_more : made_by 1 history ≡ []
        no_more = none_left (made_by 1 history) (omega (arith, few_twos, ap length seconds))

        others : (number : ℕ) → number ≢ 0 → made_by number history ≡ []
        others zero apart_zero = absurd (apart_zero refl)
        others (suc zero) apart_zero = no_more
        others (suc (suc number)) apart_zero = fewer made (suc (suc number)) history (none (suc (suc number)) (λ is. omega (arith, is)) (λ is. omega (arith, is)))
    by_case false false is_zero is_one firsts seconds = absurd (made_own made history (none made.pass (apart made.pass 0 is_zero) (apart made.pass 1 is_one)))

-- ---- both

-- what is made with the pass of a thread that puts an item
made_with : (opening : Opening) (old new : Known) (put : Addr × ℤ) (result : Result (Unit {0}) CoreError) → old.mine ≡ [] → Puts opening old new put result → new.mine ≡ put_by put result
made_with opening old new put (Ok done) none puts = puts.ok.mine ∙ ap (λ (list : List Commit). list ++ put_by put (Ok done)) none
made_with opening old new put (Err error) none puts = puts.err ∙ none

few : (put : Addr × ℤ) (result : Result (Unit {0}) CoreError) → length (put_by put result) ≤ 1
few put (Ok done) = omega arith
few put (Err error) = omega arith

refused : (opening : Opening) (history : List Made) (old new : Known) (put : Addr × ℤ) (result : Result (Unit {0}) CoreError) → IsInHistory history new → Puts opening old new put result → IsRefused opening history put result
refused opening history old new put (Ok done) is puts = tt
refused opening history old new put (Err error) is puts = (new.seen, is.seen, puts.refused)

-- of two passes, whose numbers are 0 and 1
first_of : (one two : Known) → one.number ≡ 0 → mine_of 0 (one ∷ two ∷ []) ≡ one.mine
first_of one two is = ap (λ (same : Bool). if same then one.mine else mine_of 0 (two ∷ [])) (eq-eqb one.number 0 is)

second_of : (one two : Known) → one.number ≡ 0 → two.number ≡ 1 → mine_of 1 (one ∷ two ∷ []) ≡ two.mine
second_of one two is_zero is_one =
    ap (λ (same : Bool). if same then one.mine else mine_of 1 (two ∷ [])) (ne_eqb one.number 1 (λ is. omega (arith, is, is_zero)))
    ∙ ap (λ (same : Bool). if same then two.mine else []) (eq-eqb two.number 1 is_one)

none_of : (one two : Known) (number : ℕ) → one.number ≡ 0 → two.number ≡ 1 → number ≢ 0 → number ≢ 1 → mine_of number (one ∷ two ∷ []) ≡ []
none_of one two number is_zero is_one not_zero not_one =
    ap (λ (same : Bool). if same then one.mine else mine_of number (two ∷ [])) (ne_eqb one.number number (λ is. not_zero (sym is ∙ is_zero)))
    ∙ ap (λ (same : Bool). if same then two.mine else []) (ne_eqb two.number number (λ is. not_one (sym is ∙ is_one)))

pub both_put : {D : Type 0} (Ran : List Commit → Core D → Type 0) (opening opened : Opening) (new : Core D) (one two : Addr × ℤ) (first second first_later second_later : Known) (first_answer second_answer : Result (Unit {0}) CoreError)
    (envs workers : List Known) (whole : (history : List Made) × IsWhole Ran opening envs workers new history) → opening ≡ opened → first ≡ newcomer 0 → second ≡ newcomer 1 → envs ≡ first_later ∷ second_later ∷ [] → workers ≡ []
    → Puts opening first first_later one first_answer → Puts opening second second_later two second_answer → BothPut opened new one two first_answer second_answer
both_put Ran opening opened new one two first second first_later second_later first_answer second_answer envs workers whole same is_first is_second are none puts_one puts_two =
    let history = whole.0 in
    let these : envs ++ workers ≡ first_later ∷ second_later ∷ [] = ap (λ (list : List Known). envs ++ list) none ∙ ap (λ (list : List Known). list ++ []) are in
    let each = subst (λ (list : List Known). AllByRecursion (IsInHistory history) list) these whole.1.each in
    let zeroth : first_later.number ≡ 0 = puts_one.seen.same.0 ∙ ap (λ (known : Known). known.number) is_first in
    let next : second_later.number ≡ 1 = puts_two.seen.same.0 ∙ ap (λ (known : Known). known.number) is_second in
    let made : (number : ℕ) → made_by number history ≡ mine_of number (first_later ∷ second_later ∷ []) = λ number. whole.1.made number ∙ ap (mine_of number) these in
    record {
      history = history;
      legal = subst (λ (o : Opening). AreLegalBehind o (commits history)) same whole.1.legal;
      behind = subst (λ (o : Opening). IsBehind o (commits history) new) same whole.1.behind;
      just = of_both history (put_by one first_answer) (put_by two second_answer)
          (λ number not_zero not_one. made number ∙ none_of first_later second_later number zeroth next not_zero not_one)
          (made 0 ∙ first_of first_later second_later zeroth ∙ made_with opening first first_later one first_answer (ap (λ (known : Known). known.mine) is_first) puts_one)
          (made 1 ∙ second_of first_later second_later zeroth next ∙ made_with opening second second_later two second_answer (ap (λ (known : Known). known.mine) is_second) puts_two)
          (few one first_answer) (few two second_answer);
      refused_one = subst (λ (o : Opening). IsRefused o history one first_answer) same (refused opening history first first_later one first_answer each.0 puts_one);
      refused_two = subst (λ (o : Opening). IsRefused o history two second_answer) same (refused opening history second second_later two second_answer each.1.0 puts_two);
      turned = λ turned. subst WasTurned same (whole.1.turned turned);
    }
