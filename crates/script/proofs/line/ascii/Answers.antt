use Rattle.std.proofs.lemmas.Str.{IsUtf8-from_ascii}
use Rattle.script.proofs.line.ascii.Goals as goal

pub returns-in-Err : goal.returns-in-Err
returns-in-Err c = λ all. c.in-Err.ensures.cases.0 (IsUtf8-from_ascii c.args.line.now all)
