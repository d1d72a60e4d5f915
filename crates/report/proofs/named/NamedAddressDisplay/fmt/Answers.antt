use Rattle.std.proofs.Common.{subst}
use Rattle.std.specs.Fmt.{WritesOnOk}
use Rattle.steptree.specs.Names.{Text}
use Rattle.graph.specs.Canonical.{in_brackets}
use Rattle.report.specs.Named.{with_key}
use Rattle.report.proofs.named.NamedAddressDisplay.fmt.Goals as goal

pub returns-clause-writes : goal.returns-clause-writes
returns-clause-writes g c =
    subst (λ (name : Text). WritesOnOk g.W.Write.write_str_gives c.args.f.now c.write.result (in_brackets (with_key name c.args.self.now.address.key)) c.write.new.self) c.name_of-name.ensures c.write.ensures.writes
