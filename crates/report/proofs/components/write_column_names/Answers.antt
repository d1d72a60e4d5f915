use Rattle.std.proofs.Common.{◌+◌, ◌++◌, codes, refl}
use Rattle.std.proofs.lemmas.Grind.{put_two}
use Rattle.std.specs.Fmt.{decimal}
use Rattle.report.specs.TableText.{column_names}
use Rattle.report.proofs.Lines.{one_name_more}
use Rattle.report.proofs.components.write_column_names.Goals as goal

pub loop-before-preserved : goal.loop-before-preserved
loop-before-preserved g c plain =
    let columns = c.loop-before.before in
    let before = c.loop-before.invariant plain in
    put_two g.W.Write.write_str_gives c.args.f.now c.loop-before.f c.write.new.self (column_names columns) (codes ",k" ++ decimal (columns + 1)) (column_names (columns + 1)) before
    (c.in_ok-write.ensures.writes before.plain refl) (one_name_more columns)
