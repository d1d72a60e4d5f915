-- Whether a call of the disk returned an error, in one of two calls.
use Rattle.std.proofs.Common.{◌≡◌, ◌≢◌, ◌≤◌, ◌⊎◌, inl, inr, ℕ, zero, suc, refl, sym, ap, subst, ◌∙◌, arith}
use Rattle.std.specs.Prelude.{Result, Ok, Err, IsErrOf}
use Rattle.disk.specs.Time.{Contents, HasCauses, HasErred}
use Rattle.vault.specs.declared.error.VaultError.{VaultError}
use Rattle.vault.specs.declared.error.VaultError.TheVariants.{Device, NoMemory}
use Rattle.vault.specs.Opened.{TellsWhy}
use Rattle.vault.proofs.HeadsFaults.{same_error}

-- two numbers that do not differ are equal
pub one_number : (m n : ℕ) → (m ≢ n → ⊥) → m ≡ n
one_number zero zero never = refl
one_number zero (suc n) never = absurd (never (λ same. absurd (omega (arith, same))))
one_number (suc m) zero never = absurd (never (λ same. absurd (omega (arith, same))))
one_number (suc m) (suc n) never = ap suc (one_number m n (λ differ. never (λ same. differ (omega (arith, same)))))

module _ {D : Type 0} (failures refusals : D → ℕ) (old mid new : D) where
  -- if the first refused no memory, an error in the second is an error in the two
  pub erred_behind : failures old ≤ failures mid → refusals mid ≡ refusals old → HasErred failures refusals mid new → HasErred failures refusals old new
  erred_behind later same (inl failed) = inl (omega (arith, later, failed))
  erred_behind later same (inr refused) = inr (λ is. refused (is ∙ sym same))

  -- and what the second says of files that the first left as they were, the two say
  pub tells_behind : failures old ≤ failures mid → refusals mid ≡ refusals old → {T : Type 0} (before after : Contents) → after ≡ before → (result : Result T VaultError)
      → TellsWhy after (HasErred failures refusals mid new) result → TellsWhy before (HasErred failures refusals old new) result
  tells_behind later same {T} before after is result tells =
      let it = subst (λ (contents : Contents). TellsWhy contents (HasErred failures refusals mid new) result) is tells in
      record {
        nothing = it.nothing;
        heads = λ fault heads. elim (it.heads fault heads) [ inl told ↦ inl told | inr erred ↦ inr (erred_behind later same erred) ];
        cause = it.cause;
      }

-- `Ok` is no error
pub ok_is_no_error : {T : Type 0} (value : T) (error : VaultError) → IsErrOf (Ok value) error → ⊥
ok_is_no_error value error is = absurd (cc)

-- a call that returned `Ok` counts no refusal
pub none_refused : {D T : Type 0} (failures refusals : D → ℕ) (old new : D) (value : T) → HasCauses failures refusals Device NoMemory old new (Ok value) → refusals new ≡ refusals old
none_refused failures refusals old new value causes = one_number (refusals new) (refusals old) (λ changed. ok_is_no_error value NoMemory (causes.refused changed))

pub none_erred : {D T : Type 0} (failures refusals : D → ℕ) (old new : D) (value : T) → HasCauses failures refusals Device NoMemory old new (Ok value) → HasErred failures refusals old new → ⊥
none_erred failures refusals old new value causes (inl failed) = ok_is_no_error value Device (causes.device.1 failed)
none_erred failures refusals old new value causes (inr changed) = ok_is_no_error value NoMemory (causes.refused changed)

-- what counts for one value counts for another
pub causes_of_ok : {D S T : Type 0} (failures refusals : D → ℕ) (old new : D) (found : S) (value : T) → HasCauses failures refusals Device NoMemory old new (Ok found)
    → HasCauses failures refusals Device NoMemory old new (Ok value)
causes_of_ok failures refusals old new found value causes = record {
  device = (λ is. absurd (ok_is_no_error value Device is), λ failed. absurd (ok_is_no_error found Device (causes.device.1 failed)));
  refused = λ changed. absurd (ok_is_no_error found NoMemory (causes.refused changed));
  later = causes.later;
}

-- ---- the result with its disk

-- the same error, in a result of another type
pub other_error : {S T : Type 0} (error fault : VaultError) → IsErrOf {T = S} (Err error) fault → IsErrOf {T = T} (Err error) fault
other_error {S} {T} error fault is = ap (λ (it : VaultError). Err it) (same_error {T = S} error fault is)

only_error : {S T : Type 0} (erred : Type 0) (found : S) (value : T) (fault : VaultError) → IsErrOf {T = S} (Ok found) fault ⊎ erred → IsErrOf {T = T} (Ok value) fault ⊎ erred
only_error erred found value fault (inl is) = absurd (ok_is_no_error found fault is)
only_error erred found value fault (inr it) = inr it

carried : {S T : Type 0} (erred : Type 0) (error fault : VaultError) → IsErrOf {T = S} (Err error) fault ⊎ erred → IsErrOf {T = T} (Err error) fault ⊎ erred
carried {S} {T} erred error fault (inl is) = inl (other_error {S = S} {T = T} error fault is)
carried erred error fault (inr it) = inr it

-- what a result says, another one says that returns another value, or the same error
pub tells_ok : {S T : Type 0} (contents : Contents) (erred : Type 0) (found : S) (value : T) → TellsWhy contents erred (Ok found) → TellsWhy contents erred (Ok value)
tells_ok contents erred found value told = record { nothing = tt; heads = λ fault it. only_error erred found value fault (told.heads fault it); cause = tt }

pub tells_err : {S T : Type 0} (contents : Contents) (erred : Type 0) (error : VaultError) → TellsWhy {T = S} contents erred (Err error) → TellsWhy {T = T} contents erred (Err error)
tells_err {S} {T} contents erred error told =
    record { nothing = told.nothing; heads = λ fault it. carried {S = S} {T = T} erred error fault (told.heads fault it); cause = told.cause }
