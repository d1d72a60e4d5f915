use Rattle.std.proofs.Common.{◌∙◌, sym, ap, refl, is_some}
use Rattle.machine.specs.declared.memory.Memory.{Memory}
use Rattle.machine.specs.Producers.{is_environment}
use Rattle.machine.proofs.Tagging.{no_mark, tag_comes, tag_again}
use Rattle.machine.proofs.memory.Memory.put_tag.Goals as goal

pub returns-then-is_none : goal.returns-then-is_none
returns-then-is_none c =
    let old = c.args.self.now in
    let new : Memory = record { items = old.items; instances = c.prescribe.new.self; fault = old.fault } in
    tag_comes old new c.args.tag c.is_environment.result c.requires.listed (sym c.mark.ensures ∙ no_mark c.mark.result c.if-is_none.ensures) (λ i is. c.are_there_together.ensures.together c.args.tag i is) c.prescribe.ensures refl refl
    c.args.producer (λ is. c.is_environment.ensures ∙ ap is_environment is) (λ i n is. c.is_environment.ensures ∙ ap is_environment is)

pub returns-else-is_none : goal.returns-else-is_none
returns-else-is_none c = tag_again c.args.self.now c.args.tag c.args.producer c.requires.listed c.requires.new (ap is_some (sym c.mark.ensures) ∙ c.if-is_none.ensures)
