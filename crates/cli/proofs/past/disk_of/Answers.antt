use Rattle.std.proofs.Common.{◌≢◌, ap, refl, ◌∙◌}
use Rattle.disk.specs.File.{File}
use Rattle.disk.specs.declared.side.Side.TheVariants.{A, B}
use Rattle.cli.proofs.past.disk_of.Goals as goal

apart : B ≢ A
apart same = cc

pub returns-in-Ok-clause-second : goal.returns-in-Ok-clause-second
returns-in-Ok-clause-second c = ap (λ (file : File). file.content) (c.write_at.ensures.other refl B apart) ∙ ap (λ (file : File). file.content) (c.new-disk.ensures.empty B)
