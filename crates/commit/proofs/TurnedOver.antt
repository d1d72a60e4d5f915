-- The whole of what a turnover of a core promises, from what its vault's turnover promises.
use Rattle.disk.specs.Storage.{ReportsAs}
use Rattle.disk.specs.declared.storage.Disk.{Ghosts}
use Rattle.std.proofs.Common.{◌≡◌, ◌∙◌, ◌⊎◌, ◌+◌, ap, refl, subst, inl, inr, ℕ, true, false, List, [], Result, Ok, Err, IsTrue}
use Rattle.disk.specs.File.{at_rest}
use Rattle.terms.specs.declared.event.Event.{Event}
use Rattle.codec.specs.declared.image.Image.{Image}
use Rattle.codec.specs.Image.{IsListed, Lists}
use Rattle.codec.specs.Spelling.{image_bytes}
use Rattle.machine.specs.Machine.{Machine, environment as environment_of, facts as facts_of}
use Rattle.vault.specs.declared.vault.Vault.{Vault}
use Rattle.vault.specs.declared.error.VaultError.{VaultError}
use Rattle.vault.specs.declared.error.VaultError.TheVariants.{Device, NoMemory, Damaged, Full, NotAStore, Halted, Exists}
use Rattle.vault.specs.Calls as calls
use Rattle.vault.specs.Store.{IsLast, IsTooLong, new_side}
use Rattle.commit.specs.declared.error.CoreError.{CoreError}
use Rattle.commit.specs.declared.error.CoreError.TheVariants.{Store}
use Rattle.commit.specs.Core.{Core, is_halted}
use Rattle.commit.specs.Kept.{IsKept}
use Rattle.commit.specs.Turning.{IsImageOf, IsTooLongWith, RefusesTurn, LeavesWhileTurning, TurnsAs}
use Rattle.commit.proofs.Roomy.{unhalted}

-- an error of the vault, as one of the core
store : (one two : VaultError) → ◌≡◌ {A = Result ℕ VaultError} (Err one) (Err two) → ◌≡◌ {A = Result ℕ CoreError} (Err (Store one)) (Err (Store two))
store one two is = cc

back : (one two : VaultError) → ◌≡◌ {A = Result ℕ CoreError} (Err (Store one)) (Err (Store two)) → ◌≡◌ {A = Result ℕ VaultError} (Err one) (Err two)
back one two is = cc

no_error : (generation : ℕ) (error : VaultError) → ◌≡◌ {A = Result ℕ VaultError} (Ok generation) (Err error) → ⊥
no_error generation error is = cc

not_ok : (generation : ℕ) (error : CoreError) → ◌≡◌ {A = Result ℕ CoreError} (Ok generation) (Err error) → ⊥
not_ok generation error is = cc

-- the answer of the core, by that of its vault
abbrev pub answer_of : Result ℕ VaultError → Result ℕ CoreError
answer_of (Ok generation) = Ok generation
answer_of (Err error) = Err (Store error)

module _ {D : Type 0} (storage : Ghosts D) (before after : D) where
  causes_ok : (generation : ℕ) → ReportsAs {T = ℕ} storage Device NoMemory before after (Ok generation) → ReportsAs {T = ℕ} storage (Store Device) (Store NoMemory) before after (Ok generation)
  causes_ok generation told = record {
    device = (λ is. absurd (not_ok generation (Store Device) is), λ grew. absurd (no_error generation Device (told.device.1 grew)));
    refused = λ changed. absurd (no_error generation NoMemory (told.refused changed));
    later = told.later;
  }

  causes : (error : VaultError) → ReportsAs {T = ℕ} storage Device NoMemory before after (Err error) → ReportsAs {T = ℕ} storage (Store Device) (Store NoMemory) before after (Err (Store error))
  causes error told = record {
    device = (λ is. told.device.0 (back error Device is), λ grew. store error Device (told.device.1 grew));
    refused = λ changed. store error NoMemory (told.refused changed);
    later = told.later;
  }

module _
    {D : Type 0} (storage : Ghosts D)
    (v w : Vault D) (m : Machine) (doubt latest : List Event) (allowance : ℕ) (image : Image) (listed : IsListed image) (lists : Lists image (environment_of m) (facts_of m)) (working : v.halted ≡ false)
  where
    abbrev old : Core D
    old = record { vault = v; machine = m; in_doubt = doubt; latest = latest; allowance = allowance }

    abbrev new : Core D
    new = record { vault = w; machine = m; in_doubt = doubt; latest = latest; allowance = allowance }

    -- why the vault says that it is full
    abbrev IsCause : Type 0
    IsCause = IsLast v.generation ⊎ IsTooLong (v.generation + 1) v.text.items (image_bytes image)

    cause_of : IsLast v.generation ⊎ ((each : Image) → IsImageOf old each → IsTooLongWith old each) → IsCause
    cause_of (inl last) = inl last
    cause_of (inr long) = inr (long image (listed, lists))

    turned : (generation : ℕ) → calls.TurnsOver v w (image_bytes image) (Ok generation) → (IsTrue storage.is_honest → calls.WritesSide storage.files v w (image_bytes image) (Ok generation)) → calls.IsFullWhere {T = ℕ} v.halted IsCause (Ok generation)
        → calls.Halts {T = ℕ} storage v w (Ok generation) → (IsTrue storage.is_honest → IsKept storage.files old) → doubt ≡ [] → (IsTrue storage.is_honest → LeavesWhileTurning storage old new) → TurnsAs storage old new (Ok generation)
    turned generation over writes full halting kept settled moments = record {
      ok = record { greater = over.side.0; live = (over.side.1, over.side.2); working = over.working; machine = refl; allowance = refl; latest = refl };
      ends = (image, (listed, lists), over.end);
      written = λ on. (image, (listed, lists), (writes on).written ∙ ap (λ (text : List ℕ). at_rest (new_side generation text (image_bytes image))) ((kept on).holds working).text);
      live = λ on. (writes on).live;
      err = tt;
      refused = tt;
      full = λ _ cause. elim (full.told working (cause_of cause)) [ inl is ↦ absurd (no_error generation Full is) | inr is ↦ absurd (no_error generation NoMemory is) ];
      halts = record {
        halts = halting.halts;
        halted = (λ is. absurd (not_ok generation (Store Halted) is), λ is. absurd (no_error generation Halted (halting.halted.1 is)));
        disk = causes_ok storage v.disk w.disk generation halting.disk;
        same = tt;
        settled = settled;
      };
      doubt = refl;
      moments = λ on _. moments on;
    }

    refuses : (error : VaultError) → calls.IsOfCall error → (◌≡◌ {A = Result ℕ VaultError} (Err error) (Err Full) → IsCause) → (◌≡◌ {A = Result ℕ VaultError} (Err error) (Err Halted) → v.halted ≡ true) → RefusesTurn old (Store error)
    refuses Halted may why halted = halted refl
    refuses Full may why halted = (working, elim (why refl) [ inl last ↦ inl last | inr long ↦ inr (image, (listed, lists), long) ])
    refuses Device may why halted = working
    refuses NoMemory may why halted = working
    refuses (Damaged side place) may why halted = none may
      where
        none : calls.IsOfCall (Damaged side place) → ⊥
        none (inl is) = cc
        none (inr (inl is)) = cc
        none (inr (inr (inl is))) = cc
        none (inr (inr (inr is))) = cc
    refuses NotAStore may why halted = none may
      where
        none : calls.IsOfCall NotAStore → ⊥
        none (inl is) = cc
        none (inr (inl is)) = cc
        none (inr (inr (inl is))) = cc
        none (inr (inr (inr is))) = cc
    refuses Exists may why halted = none may
      where
        none : calls.IsOfCall Exists → ⊥
        none (inl is) = cc
        none (inr (inl is)) = cc
        none (inr (inr (inl is))) = cc
        none (inr (inr (inr is))) = cc

    refused : (error : VaultError) → (IsTrue storage.is_honest → calls.WritesSide storage.files v w (image_bytes image) (Err error)) → calls.IsFullWhere {T = ℕ} v.halted IsCause (Err error) → calls.Halts {T = ℕ} storage v w (Err error) → (IsTrue storage.is_honest → LeavesWhileTurning storage old new)
        → TurnsAs storage old new (Err (Store error))
    refused error writes full halting moments = record {
      ok = tt;
      ends = tt;
      written = λ _. tt;
      live = λ on. (writes on).live;
      err = record { stays = record { graph = refl; facts = λ _. refl; environment = λ _. refl; allowance = refl; latest = refl }; states = λ _. refl };
      refused = refuses error halting.causes full.why halting.halted.0;
      full = λ _ cause. elim (full.told working (cause_of cause)) [ inl is ↦ inl (store error Full is) | inr is ↦ inr (store error NoMemory is) ];
      halts = record {
        halts = halting.halts;
        halted = (λ is. halting.halted.0 (back error Halted is), λ is. store error Halted (halting.halted.1 is));
        disk = causes storage v.disk w.disk error halting.disk;
        same = λ is. (halting.same is, refl);
        settled = tt;
      };
      doubt = refl;
      moments = λ on _. moments on;
    }

    -- both together, for bytes that spell the image
    pub either : (bytes : List ℕ) → bytes ≡ image_bytes image → (result : Result ℕ VaultError) → calls.TurnsOver v w bytes result → (IsTrue storage.is_honest → calls.WritesSide storage.files v w bytes result)
        → calls.IsFullWhere v.halted (IsLast v.generation ⊎ IsTooLong (v.generation + 1) v.text.items bytes) result → calls.Halts storage v w result
        → (IsTrue storage.is_honest → IsKept storage.files old) → doubt ≡ [] → (IsTrue storage.is_honest → LeavesWhileTurning storage old new) → TurnsAs storage old new (answer_of result)
    either bytes spelled result over writes full halting kept settled moments =
        by_image result (subst (λ (spelling : List ℕ). calls.TurnsOver v w spelling result) spelled over) (λ on. subst (λ (spelling : List ℕ). calls.WritesSide storage.files v w spelling result) spelled (writes on))
        (subst (λ (spelling : List ℕ). calls.IsFullWhere v.halted (IsLast v.generation ⊎ IsTooLong (v.generation + 1) v.text.items spelling) result) spelled full) halting kept settled moments
      where
        by_image : (result : Result ℕ VaultError) → calls.TurnsOver v w (image_bytes image) result → (IsTrue storage.is_honest → calls.WritesSide storage.files v w (image_bytes image) result) → calls.IsFullWhere v.halted IsCause result → calls.Halts storage v w result
            → (IsTrue storage.is_honest → IsKept storage.files old) → doubt ≡ [] → (IsTrue storage.is_honest → LeavesWhileTurning storage old new) → TurnsAs storage old new (answer_of result)
        by_image (Ok generation) over writes full halting kept settled moments = turned generation over writes full halting kept settled moments
        by_image (Err error) over writes full halting kept settled moments = refused error writes full halting moments

memory_halts : Store NoMemory ≡ Store Halted → ⊥
memory_halts is = cc

memory_device : Store NoMemory ≡ Store Device → ⊥
memory_device is = cc

-- memory was refused first, so the core is as it was
pub unlisted : {D : Type 0} (storage : Ghosts D) (old now : Core D) → old ≡ now → is_halted old ≡ false
    → (IsTrue storage.is_honest → LeavesWhileTurning storage old old) → TurnsAs storage now now (Err (Store NoMemory))
unlisted {D} storage old now same working moments =
    subst (λ (core : Core D). TurnsAs storage core core (Err (Store NoMemory))) same
    (record {
      ok = tt;
      ends = tt;
      written = λ _. tt;
      live = λ _. refl;
      err = record { stays = record { graph = refl; facts = λ _. refl; environment = λ _. refl; allowance = refl; latest = refl }; states = λ _. refl };
      refused = working;
      full = λ _ cause. inr refl;
      halts = unhalted {T = ℕ} storage old old (Store NoMemory) working refl refl memory_halts memory_device;
      doubt = refl;
      moments = λ on _. moments on;
    })
