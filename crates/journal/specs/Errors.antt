-- The errors of a journal.
use Rattle.disk.specs.declared.error.DiskError.{DiskError}
use Rattle.disk.specs.declared.error.DiskError.TheVariants as Disk
use Rattle.journal.specs.declared.error.JournalError.{JournalError}
use Rattle.journal.specs.declared.error.JournalError.TheVariants.{Device, NoMemory}
use Rattle.journal.specs.declared.error.AppendError.{AppendError}
use Rattle.journal.specs.declared.error.AppendError.TheVariants.{Before, Within}

-- the same cause, as an error of the journal
abbrev pub journal_error : DiskError → JournalError
journal_error Disk.Device = Device
journal_error Disk.NoMemory = NoMemory

-- why an append was refused, without the point at which it was
abbrev pub cause_of : AppendError → JournalError
cause_of (Before cause) = cause
cause_of (Within cause) = journal_error cause
