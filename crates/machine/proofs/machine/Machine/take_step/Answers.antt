use Rattle.std.proofs.Common.{◌≡◌, ◌∙◌, sym, subst, List}
use Rattle.terms.specs.declared.put.Put.{Put}
use Rattle.terms.specs.declared.event.Event.{Event}
use Rattle.terms.specs.declared.event.Event.TheVariants.{Done}
use Rattle.machine.specs.Legal.{IsLegal}
use Rattle.machine.specs.Machine.{Ends, HasRoom, facts, puts_of}
use Rattle.machine.proofs.machine.Machine.take_step.Goals as goal

pub take_end-requires-clause-legal : goal.take_end-requires-clause-legal
take_end-requires-clause-legal c =
    let old = c.args.self.now in
    let ended = subst (λ (e : Event). Ends e c.args.task) c.in-Done.is c.requires.ends in
    let same : Done c.in-Done.field-0 c.in-Done.puts ≡ Done c.args.task c.as_slice.result.now = λ i. Done (ended i) (sym c.as_slice.ensures i) in
    subst (λ (e : Event). IsLegal old.graph (facts old) e) (c.in-Done.is ∙ same) c.requires.legal

pub take_end-requires-clause-room : goal.take_end-requires-clause-room
take_end-requires-clause-room c =
    subst (λ (puts : List Put). HasRoom c.args.self.now puts) (sym c.as_slice.ensures)
    (subst (λ (e : Event). HasRoom c.args.self.now (puts_of e)) c.in-Done.is c.requires.room)
