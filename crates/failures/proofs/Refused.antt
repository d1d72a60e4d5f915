-- A call that is refused memory before it is made changes nothing.
use Rattle.std.proofs.Common.{◌≡◌, ℕ, Bool, false, refl}
use Rattle.std.specs.Prelude.{Result, Err}
use Rattle.std.proofs.lemmas.Bool.{false≢true}
use Rattle.disk.specs.declared.error.DiskError.{DiskError}
use Rattle.disk.specs.declared.error.DiskError.TheVariants.{NoMemory}
use Rattle.disk.specs.File.{File, Changes, FailsWithin}
use Rattle.disk.proofs.Calls.{untouched}

nothing_failed : (touches : ℕ → Bool) (file : File) → FailsWithin touches file file
nothing_failed touches file = record {
  touched = λ _. false;
  within = λ at touched. absurd (false≢true touched);
  fails = record { durable = untouched file.durable; content = record { elsewhere = λ at untouched. refl; length_stays = λ untouched. refl } };
}

pub refused_before : {T : Type 0} (done : File → File) (touches : ℕ → Bool) (result : Result T DiskError) (old new : File) → result ≡ Err NoMemory → new ≡ old → Changes done touches result old new
refused_before done touches result old new refused same = rw (refused, same) (nothing_failed touches old)
