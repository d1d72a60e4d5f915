-- The errors of a vault.
use Rattle.disk.specs.declared.error.DiskError.{DiskError}
use Rattle.disk.specs.declared.error.DiskError.TheVariants as Disk
use Rattle.vault.specs.declared.error.VaultError.{VaultError}
use Rattle.vault.specs.declared.error.VaultError.TheVariants.{Device, NoMemory}

-- the same cause, as the vault names it
abbrev pub vault_error : DiskError → VaultError
vault_error Disk.Device = Device
vault_error Disk.NoMemory = NoMemory
