-- What the words of a command line come to.
use Rattle.std.specs.Prelude.{◌≤◌, ⊤, ℕ, List, codes}
use Rattle.clap.specs.declared.error.kind.ErrorKind.{ErrorKind}
use Rattle.clap.specs.declared.error.kind.ErrorKind.TheVariants as kind
use Rattle.report.specs.declared.format.Format.{Format}
use Rattle.report.specs.declared.format.Format.TheVariants.{Text, Csv, Json}
use Rattle.cli.specs.declared.words.Command.{Command}
use Rattle.cli.specs.declared.words.Command.TheVariants.{Create, Run, Report, ReportAt, Log, Turn, Verify, Draw, DrawStore}
use Rattle.cli.specs.declared.words.TheConstants.{MOST_LIMIT, MOST_WORKERS}

-- the limit of a run is at most the greatest, and the number of its workers is from 1 to the greatest
abbrev pub IsInRange : Command → Type 0
IsInRange (Run directory script limit workers) = (limit ≤ MOST_LIMIT) × (1 ≤ workers) × (workers ≤ MOST_WORKERS)
IsInRange (Create graph directory) = ⊤
IsInRange (Report directory format) = ⊤
IsInRange (ReportAt directory format count) = ⊤
IsInRange (Log directory) = ⊤
IsInRange (Turn directory) = ⊤
IsInRange (Verify directory) = ⊤
IsInRange (Draw graph) = ⊤
IsInRange (DrawStore directory all) = ⊤

-- the word for a format of a report
abbrev pub format_word : Format → List ℕ
format_word Text = codes "text"
format_word Csv = codes "csv"
format_word Json = codes "json"

-- the status of words that ask for no command: 0 if help was asked for, 5 if memory was refused, else 2
abbrev pub usage_status_of : ErrorKind → ℕ
usage_status_of kind.DisplayHelp = 0
usage_status_of kind.DisplayVersion = 0
usage_status_of kind.OutOfMemory = 5
usage_status_of _ = 2
