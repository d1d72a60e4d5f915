use Rattle.report.proofs.OneReport.{one_in_format}
use Rattle.report.proofs.law.formats_once.Goals as goal

pub returns : goal.returns
returns c =
    let order = c.orders_are_total.ensures in
    one_in_format order.addresses order.addresses_tie order.tags order.tags_tie order.instances order.instances_tie
