-- Vaults of which nothing has changed that their promises speak of.
use Rattle.std.proofs.Common.{◌≡◌, ◌∙◌, ap, refl}
use Rattle.vault.specs.declared.vault.Vault.{Vault}
use Rattle.vault.specs.Store.{IsSame}

module _ {D : Type 0} where
  pub alike : (v : Vault D) → IsSame v v
  alike v = record { disk = refl; side = refl; end = refl; generation = refl; text = refl; halted = refl }

  pub same_vault : (v w : Vault D) → w ≡ v → IsSame v w
  same_vault v w same = record {
    disk = ap (λ (x : Vault D). x.disk) same;
    side = ap (λ (x : Vault D). x.journal.side) same;
    end = ap (λ (x : Vault D). x.journal.end) same;
    generation = ap (λ (x : Vault D). x.generation) same;
    text = ap (λ (x : Vault D). x.text) same;
    halted = ap (λ (x : Vault D). x.halted) same;
  }

  pub alike_on : (first second third : Vault D) → IsSame second third → IsSame first second → IsSame first third
  alike_on first second third two one = record {
    disk = two.disk ∙ one.disk;
    side = two.side ∙ one.side;
    end = two.end ∙ one.end;
    generation = two.generation ∙ one.generation;
    text = two.text ∙ one.text;
    halted = two.halted ∙ one.halted;
  }
