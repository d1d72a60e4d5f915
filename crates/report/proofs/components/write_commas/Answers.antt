use Rattle.std.proofs.Common.{◌+◌, codes, refl, sym}
use Rattle.std.proofs.lemmas.Grind.{put_two}
use Rattle.report.specs.TableText.{commas}
use Rattle.report.proofs.Lines.{one_comma_more}
use Rattle.report.proofs.components.write_commas.Goals as goal

pub loop-cell-preserved : goal.loop-cell-preserved
loop-cell-preserved g c plain =
    let cell = c.loop-cell._cell in
    let before = c.loop-cell.invariant plain in
    put_two g.W.Write.write_str_gives c.args.f.now c.loop-cell.f c.write_str.new.self (commas cell) (codes ",") (commas (cell + 1)) before (c.in_ok-write_str.ensures.writes before.plain refl) (sym (one_comma_more cell))
