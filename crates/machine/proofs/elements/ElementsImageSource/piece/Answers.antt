use Rattle.std.proofs.Common.{◌-◌, ◌∙◌, ap, sym, drop, length, take}
use Rattle.std.proofs.lemmas.List.{take_rest}
use Rattle.machine.proofs.Pieces.{some_given}
use Rattle.machine.proofs.elements.ElementsImageSource.piece.Goals as goal

pub returns-clause-gives : goal.returns-clause-gives
returns-clause-gives g c =
    let next = c.next_bytes-begin in
    let begin = next.result in
    let bytes = c.deref.result.now in
    some_given c.args.self.now next.new.pending.items (g.W.Spelling.rest next.new.walk) c.copied-count.new.out (take (length bytes - begin) (drop begin bytes)) begin c.copied-count.result (sym c.self.view_is ∙ sym next.ensures.same)
    (take_rest bytes begin ∙ ap (drop begin) c.deref.ensures.value) c.copied-count.ensures.copied
