use Rattle.script.proofs.Puts.{put_answered}
use Rattle.script.proofs.names.command_of.Goals as goal

pub returns-in-Put : goal.returns-in-Put
returns-in-Put c =
    put_answered c.args.graph.now c.args.request.now c.in-Put.name c.in-Put.key c.in-Put.value c.put_item.result c.in-Put.is c.put_item.ensures
