use Rattle.std.proofs.Common.{◌∙◌, Bool, true, sym, ap, if◌then◌else◌}
use Rattle.passes.specs.Roll.{has_number}
use Rattle.passes.proofs.Gathered.{has_of_both}
use Rattle.passes.proofs.roll.is_among.Goals as goal

pub returns-then-is_here : goal.returns-then-is_here
returns-then-is_here g c =
    c.if-is_here.true ∙ sym (has_of_both c.args.number c.args.envs.now c.args.workers.now ∙ ap (λ (here : Bool). if here then true else has_number c.args.number c.args.workers.now) (sym c.is_here.ensures ∙ c.if-is_here.true))

pub returns-else-is_here : goal.returns-else-is_here
returns-else-is_here g c =
    c.is_here-else-is_here.ensures
    ∙ sym (has_of_both c.args.number c.args.envs.now c.args.workers.now ∙ ap (λ (here : Bool). if here then true else has_number c.args.number c.args.workers.now) (sym c.is_here.ensures ∙ c.if-is_here.false))
