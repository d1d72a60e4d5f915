use Rattle.audit.proofs.Replaying.{end_marked}
use Rattle.audit.proofs.marking.mark_end.Goals as goal

pub returns : goal.returns
returns c = end_marked c.facts_are_told_apart.ensures.among c.args.marks.now c.mark_done.new.self c.mark_puts.new.marks c.args.inst c.args.puts.now c.requires.done c.requires.all c.mark_done.ensures.after c.mark_puts.ensures
