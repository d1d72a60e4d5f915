use Rattle.report.proofs.Columns.{each_key}
use Rattle.report.proofs.law.keys_have_columns.Goals as goal

pub returns : goal.returns
returns c = λ g X collections items of_graph are. each_key c.orders_are_total.ensures.addresses g X of_graph collections items are
