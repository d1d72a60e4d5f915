use Rattle.std.proofs.Common.{◌≡◌, ◌∙◌, ap, map}
use Rattle.std.proofs.lemmas.Result.{on_ok_weaker}
use Rattle.graph.specs.Graph.{Graph}
use Rattle.commit.specs.Core.{facts, graph}
use Rattle.report.specs.Got.{Named}
use Rattle.report.specs.TableText.{most_components}
use Rattle.report.proofs.Reports.{is_table}
use Rattle.report.proofs.table.write_table.Goals as goal

pub returns-clause-written : goal.returns-clause-written
returns-clause-written g c =
    let core = c.args.core.now in
    let collections = map (λ (one : Named). one.1) c.args.collections.now in
    let again : c.deref.result.now ≡ graph core = cc (c.deref.ensures, c.graph.ensures) in
    let most = c.most_components-columns.ensures ∙ ap (λ (of : Graph). most_components of collections) again in
    on_ok_weaker c.write_collections.result
    (λ wrote. is_table (graph core) (facts core) collections c.most_components-columns.result (g.S.Sink.contents c.args.out.now) (g.S.Sink.contents c.write_header.new.out) (g.S.Sink.contents c.write_collections.new.out) c.requires most c.in_ok-write_header.ensures.written wrote)
    c.write_collections.ensures.written
