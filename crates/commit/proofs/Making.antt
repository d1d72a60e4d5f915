-- What a creation returns, by the vault that it makes.
use Rattle.std.proofs.Common.{◌≡◌, ◌∙◌, ◌↔◌, ap, refl, sym, subst, inl, List, [], ◌∷◌, ℕ, Result, Ok, Err, arith}
use Rattle.disk.specs.Storage.{Leaves, ReportsAs}
use Rattle.disk.specs.declared.storage.Disk.{Ghosts}
use Rattle.disk.specs.declared.side.Side.{Side}
use Rattle.disk.specs.declared.side.Side.TheVariants.{A, B}
use Rattle.disk.specs.File.{File, MayLeave, at_rest}
use Rattle.disk.specs.Moments.{begun}
use Rattle.disk.specs.Settled.{settled_only}
use Rattle.disk.specs.Time.{Contents, MayLeaveNow}
use Rattle.vault.specs.Calls.{LeavesNonEmpty}
use Rattle.vault.specs.Opened.{contents_of}
use Rattle.vault.specs.Store.{BComesFirst, HasGates}
use Rattle.vault.specs.declared.error.VaultError.{VaultError}
use Rattle.vault.specs.declared.error.VaultError.TheVariants.{Device, NoMemory}
use Rattle.commit.specs.declared.creation.CreateError.{CreateError}
use Rattle.commit.specs.declared.creation.CreateError.TheVariants.{Store}
use Rattle.commit.specs.Created.{LeavesOthers}

-- ---- results

no_error : {T E : Type 0} {value : T} {error : E} → ◌≡◌ {A = Result T E} (Ok value) (Err error) → ⊥
no_error is = cc

-- an error of the store that is made, as one of the creation
inside : {T : Type 0} {one two : VaultError} → ◌≡◌ {A = Result T CreateError} (Err (Store one)) (Err (Store two)) → ◌≡◌ {A = Result T VaultError} (Err one) (Err two)
inside is = cc

outside : {T : Type 0} {one two : VaultError} → ◌≡◌ {A = Result T VaultError} (Err one) (Err two) → ◌≡◌ {A = Result T CreateError} (Err (Store one)) (Err (Store two))
outside is = cc

-- the same result with a value of another type
module _ {D T U E : Type 0} (storage : Ghosts D) (failed no_memory : E) (old new : D) where
  pub made : {value : T} {other : U} → ReportsAs {T = T} storage failed no_memory old new (Ok value) → ReportsAs {T = U} storage failed no_memory old new (Ok other)
  made told = record { device = (λ is. absurd (no_error is), λ grew. absurd (no_error (told.device.1 grew))); refused = λ changed. absurd (no_error (told.refused changed)); later = told.later }

  pub refused_alike : {error : E} → ReportsAs {T = T} storage failed no_memory old new (Err error) → ReportsAs {T = U} storage failed no_memory old new (Err error)
  refused_alike told = record { device = (λ is. told.device.0 (alike is), λ grew. alike (told.device.1 grew)); refused = λ changed. alike (told.refused changed); later = told.later }
    where
      alike : {V W : Type 0} {one two : E} → ◌≡◌ {A = Result V E} (Err one) (Err two) → ◌≡◌ {A = Result W E} (Err one) (Err two)
      alike is = cc

-- ---- causes

module _ {D T : Type 0} (storage : Ghosts D) (old new : D) where
  pub causes : {error : VaultError} → ReportsAs {T = T} storage Device NoMemory old new (Err error) → ReportsAs {T = T} storage (Store Device) (Store NoMemory) old new (Err (Store error))
  causes told = record { device = (λ is. told.device.0 (inside is), λ grew. outside (told.device.1 grew)); refused = λ changed. outside (told.refused changed); later = told.later }

  pub causes_ok : {value : T} → ReportsAs {T = T} storage Device NoMemory old new (Ok value) → ReportsAs {T = T} storage (Store Device) (Store NoMemory) old new (Ok value)
  causes_ok told = record { device = (λ is. absurd (no_error is), λ grew. absurd (no_error (told.device.1 grew))); refused = λ changed. absurd (no_error (told.refused changed)); later = told.later }

-- nothing was asked of the disk
pub unasked : {D T E : Type 0} (storage : Ghosts D) (failed no_memory error : E) (disk : D) → (◌≡◌ {A = Result T E} (Err error) (Err failed) → ⊥) → ReportsAs {T = T} storage failed no_memory disk disk (Err error)
unasked storage failed no_memory error disk other =
    record { device = (λ is. absurd (other is), λ grew. absurd (omega (arith, grew))); refused = λ changed. absurd (changed refl); later = omega arith }

-- ---- files

module _ {D T : Type 0} (storage : Ghosts D) (old new : D) where
  pub others : {error : VaultError} → LeavesNonEmpty {T = T} storage old new (Err error) → LeavesOthers {T = T} storage old new (Err (Store error))
  others told = record { were_empty = tt; exists = λ is. told.exists (inside is); kept = told.kept; moments = told.moments }

  pub others_ok : {value : T} → LeavesNonEmpty {T = T} storage old new (Ok value) → LeavesOthers {T = T} storage old new (Ok value)
  others_ok told = record { were_empty = told.were_empty; exists = λ is. absurd (no_error is); kept = told.kept; moments = told.moments }

module _ {D : Type 0} (storage : Ghosts D) (now : (disk : D) (contents : Contents) → storage.left_at disk (storage.moment disk) contents ↔ MayLeaveNow (storage.files disk) contents) (disk : D) where
  -- a crash leaves what one might have left before
  pub untouched : Leaves storage disk disk (MayLeaveNow (storage.files disk))
  untouched = begun storage.moment storage.left_at disk (MayLeaveNow (storage.files disk)) (λ contents left. (now disk contents).0 left)

  -- file A is empty and stays so
  pub left_empty : storage.files disk A ≡ at_rest [] → Leaves storage disk disk BComesFirst
  left_empty empty = begun storage.moment storage.left_at disk BComesFirst (λ contents left. inl (settled_only [] (contents A) (subst (λ (f : File). MayLeave f.durable (contents A)) empty ((now disk contents).0 left A))))

-- both files of a new store have a byte
pub at_rest_gates : {D : Type 0} (files : D → Side → File) (disk : D) (bytes : List ℕ) → files disk A ≡ at_rest (1 ∷ bytes) → files disk B ≡ at_rest (0 ∷ []) → HasGates (contents_of (files disk))
at_rest_gates files disk bytes a b A none = absurd (filled (sym (ap (λ (f : File). f.content) a) ∙ none))
  where
    filled : ◌≡◌ {A = List ℕ} (1 ∷ bytes) [] → ⊥
    filled is = cc
at_rest_gates files disk bytes a b B none = absurd (filled (sym (ap (λ (f : File). f.content) b) ∙ none))
  where
    filled : ◌≡◌ {A = List ℕ} (0 ∷ []) [] → ⊥
    filled is = cc
