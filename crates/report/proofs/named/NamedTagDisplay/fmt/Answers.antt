use Rattle.std.proofs.Common.{subst}
use Rattle.std.specs.Fmt.{WritesOnOk}
use Rattle.steptree.specs.Names.{Text}
use Rattle.graph.specs.Canonical.{in_angles}
use Rattle.report.specs.Named.{with_key}
use Rattle.report.proofs.named.NamedTagDisplay.fmt.Goals as goal

pub returns-clause-writes : goal.returns-clause-writes
returns-clause-writes g c =
    subst (λ (name : Text). WritesOnOk g.W.Write.write_str_gives c.args.f.now c.write.result (in_angles (with_key name c.args.self.now.tag.key)) c.write.new.self) c.tag_name_of-name.ensures c.write.ensures.writes
