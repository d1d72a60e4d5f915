-- What an opening finds, and why it is refused.
use Rattle.std.proofs.Common.{◌≡◌, ◌∙◌, ap, sym, refl, subst, inl, inr, Result, Ok, Err, IfOk, IfErr, IsErrOf}
use Rattle.disk.specs.Storage.{Errs, ReportsAs}
use Rattle.disk.specs.declared.storage.Disk.{Ghosts}
use Rattle.disk.specs.declared.side.Side.{Side}
use Rattle.disk.specs.File.{File}
use Rattle.disk.specs.Time.{Contents}
use Rattle.codec.specs.Image.{environment_in, facts_in}
use Rattle.holdings.specs.Holdings.{image_of}
use Rattle.vault.specs.declared.opening.Recovered.{Recovered}
use Rattle.vault.specs.declared.refused.Refused.{Refused}
use Rattle.vault.specs.declared.error.VaultError.{VaultError}
use Rattle.vault.specs.declared.error.VaultError.TheVariants.{Device, NoMemory, Full, Halted, Exists}
use Rattle.vault.specs.Opened.{IsOfOpening, contents_of, TellsWhy}
use Rattle.vault.specs.Stands.{Stands}
use Rattle.vault.specs.Store.{Holds, SaysNothing, answer_of}
use Rattle.commit.specs.Core.{Core, graph, facts, environment}
use Rattle.commit.specs.Opened.{Finds, IsCoreOf, disk_of}
use Rattle.commit.proofs.Taken.{holds_alike}

-- the files stand for what the core has
pub finds : {D : Type 0} (files : D → Side → File) (disk : D) (recovered : Recovered D) (c : Core D) → IsCoreOf recovered c → Holds files recovered.vault recovered.graph (environment_in (image_of recovered.holdings)) (facts_in (image_of recovered.holdings))
    → ((side : Side) → (files recovered.vault.disk side).content ≡ (files disk side).content) → Finds files disk c
finds files disk recovered c is holds reads =
    let here = holds_alike files recovered.vault recovered.graph (graph c) (environment_in (image_of recovered.holdings)) (environment c) (facts_in (image_of recovered.holdings)) (facts c) is.graph
    (λ fact. sym (is.lists.environment fact)) (λ fact. sym (is.lists.facts fact)) holds
    in
    let same : here.contents ≡ contents_of (files disk) = λ i side. (ap (λ (file : File). file.content) (sym (here.rests side)) ∙ reads side) i in
    subst (λ (contents : Contents). Stands contents (graph c) (environment c) (facts c)) same (recovered.vault.journal.side, recovered.vault.generation, here.is_live)

-- `NoMemory` after an opening that found a store says nothing of the files
pub tells : {D : Type 0} (contents : Contents) (erred : Type 0) (recovered : Recovered D) → TellsWhy {T = Recovered D} contents erred (Ok recovered) → (T : Type 0) → TellsWhy {T = T} contents erred (Err NoMemory)
tells {D} contents erred recovered told T = record {
  nothing = λ says. absurd (silent says);
  heads = λ error fault. elim (told.heads error fault) [ inl is ↦ absurd (apart error is) | inr there ↦ inr there ];
  cause = λ says. absurd (silent says);
}
  where
    silent : SaysNothing NoMemory → ⊥
    silent (inl is) = cc
    silent (inr is) = let same = is.2 in cc

    apart : (error : VaultError) → IsErrOf {T = Recovered D} {E = VaultError} (Ok recovered) error → ⊥
    apart error is = cc

pub causes : {D : Type 0} (storage : Ghosts D) (old new : D) (recovered : Recovered D) → ReportsAs {T = Recovered D} storage Device NoMemory old new (Ok recovered) → (T : Type 0) → ReportsAs {T = T} storage Device NoMemory old new (Err NoMemory)
causes {D} storage old new recovered told T = record {
  device = (λ is. absurd (other is), λ grew. absurd (apart (told.device.1 grew)));
  refused = λ changed. refl;
  later = told.later;
}
  where
    other : ◌≡◌ {A = Result T VaultError} (Err NoMemory) (Err Device) → ⊥
    other is = cc

    apart : IsErrOf {T = Recovered D} {E = VaultError} (Ok recovered) Device → ⊥
    apart is = cc

-- the same for either result
pub finds_if_ok : {D : Type 0} (files : D → Side → File) (disk : D) (recovered : Recovered D) (result : Result (Core D) (Refused D)) → IfOk result (IsCoreOf recovered) → Holds files recovered.vault recovered.graph (environment_in (image_of recovered.holdings)) (facts_in (image_of recovered.holdings))
    → ((side : Side) → (files recovered.vault.disk side).content ≡ (files disk side).content) → IfOk result (Finds files disk)
finds_if_ok files disk recovered (Ok core) is holds reads = finds files disk recovered core is holds reads
finds_if_ok files disk recovered (Err refused) is holds reads = tt

same_error : {T U : Type 0} (one two : VaultError) → ◌≡◌ {A = Result T VaultError} (Err one) (Err two) → ◌≡◌ {A = Result U VaultError} (Err one) (Err two)
same_error one two is = cc

-- an error says the same of the files in results of other types
pub tells_alike : {T U : Type 0} (contents : Contents) (erred : Type 0) (error : VaultError) → TellsWhy {T = T} contents erred (Err error) → TellsWhy {T = U} contents erred (Err error)
tells_alike contents erred error told = record {
  nothing = told.nothing;
  heads = λ other fault. elim (told.heads other fault) [ inl is ↦ inl (same_error error other is) | inr there ↦ inr there ];
  cause = told.cause;
}

module _ {D : Type 0} (storage : Ghosts D) (old : D) (recovered : Recovered D) where
  pub tells_either : (contents : Contents) (result : Result (Core D) (Refused D)) → disk_of result ≡ recovered.vault.disk → IfErr result (λ refused. refused.error ≡ NoMemory)
      → TellsWhy {T = Recovered D} contents (Errs storage old recovered.vault.disk) (Ok recovered) → TellsWhy contents (Errs storage old (disk_of result)) (answer_of result)
  tells_either contents (Ok core) disk error told = record {
    nothing = tt;
    heads = λ other fault. elim (told.heads other fault) [ inl is ↦ absurd (apart other is) | inr there ↦ inr (subst (λ d. Errs storage old d) (sym disk) there) ];
    cause = tt;
  }
    where
      apart : (other : VaultError) → IsErrOf {T = Recovered D} {E = VaultError} (Ok recovered) other → ⊥
      apart other is = cc
  tells_either contents (Err refused) disk error told =
      subst (λ e. TellsWhy {T = Core D} contents (Errs storage old refused.disk) (Err e)) (sym error)
      (subst (λ d. TellsWhy {T = Core D} contents (Errs storage old d) (Err NoMemory)) (sym disk)
      (tells contents (Errs storage old recovered.vault.disk) recovered told (Core D)))

  pub causes_either : (result : Result (Core D) (Refused D)) → disk_of result ≡ recovered.vault.disk → IfErr result (λ refused. refused.error ≡ NoMemory)
      → ReportsAs {T = Recovered D} storage Device NoMemory old recovered.vault.disk (Ok recovered) → ReportsAs storage Device NoMemory old (disk_of result) (answer_of result)
  causes_either (Ok core) disk error told =
      subst (λ d. ReportsAs {T = Core D} storage Device NoMemory old d (Ok core)) (sym disk) (record {
        device = (λ is. absurd (none is), λ grew. absurd (apart Device (told.device.1 grew)));
        refused = λ changed. absurd (apart NoMemory (told.refused changed));
        later = told.later;
      })
    where
      apart : (other : VaultError) → IsErrOf {T = Recovered D} {E = VaultError} (Ok recovered) other → ⊥
      apart other is = cc

      none : IsErrOf {T = Core D} {E = VaultError} (Ok core) Device → ⊥
      none is = cc
  causes_either (Err refused) disk error told =
      subst (λ e. ReportsAs {T = Core D} storage Device NoMemory old refused.disk (Err e)) (sym error)
      (subst (λ d. ReportsAs {T = Core D} storage Device NoMemory old d (Err NoMemory)) (sym disk)
      (causes storage old recovered.vault.disk recovered told (Core D)))

-- an opening may be refused memory
pub of_memory : IsOfOpening NoMemory
of_memory = (no_full, no_halted, no_exists)
  where
    no_full : NoMemory ≡ Full → ⊥
    no_full is = cc

    no_halted : NoMemory ≡ Halted → ⊥
    no_halted is = cc

    no_exists : NoMemory ≡ Exists → ⊥
    no_exists is = cc
