use Rattle.std.proofs.Common.{subst}
use Rattle.std.specs.Fmt.{WritesOnOk}
use Rattle.steptree.specs.Names.{Text}
use Rattle.graph.specs.Canonical.{in_rounds}
use Rattle.report.specs.Named.{with_key}
use Rattle.report.proofs.named.NamedInstanceDisplay.fmt.Goals as goal

pub returns-clause-writes : goal.returns-clause-writes
returns-clause-writes g c =
    subst (λ (name : Text). WritesOnOk g.W.Write.write_str_gives c.args.f.now c.write.result (in_rounds (with_key name c.args.self.now.instance.key)) c.write.new.self) c.step_name_of-name.ensures c.write.ensures.writes
