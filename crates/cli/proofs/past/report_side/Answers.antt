use Rattle.std.proofs.Common.{inl, inr, refl}
use Rattle.cli.proofs.past.report_side.Goals as goal

pub returns-in-Ok : goal.returns-in-Ok
returns-in-Ok g c = inl (
  c.in-Ok.copy,
  λ read. c.in-Ok.ensures read,
  record { answer = c.write_report_in.result; written = c.write_report_in.ensures; told = c.reported.ensures },
)

pub returns-in-Err : goal.returns-in-Err
returns-in-Err g c = inr (refl, refl)
