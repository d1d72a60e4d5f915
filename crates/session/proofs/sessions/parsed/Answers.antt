use Rattle.std.proofs.Common.{subst, sym}
use Rattle.session.specs.Fails.{IsRefusedAs}
use Rattle.session.proofs.Failing.{refused_as}
use Rattle.session.proofs.sessions.parsed.Goals as goal

pub returns-in-Err-clause-refused : goal.returns-in-Err-clause-refused
returns-in-Err-clause-refused c = subst (IsRefusedAs c.args.graph.now c.args.text.now) (sym c.of_script.ensures) (refused_as c.args.graph.now c.args.text.now c.in-Err.error c.in-Err.ensures.refused)
