use Rattle.std.proofs.Common.{◌∙◌, ◌<◌, ◌≤◌, ap, sym, arith, length}
use Rattle.std.specs.FinMap.{get}
use Rattle.maps.specs.Marked.{marked_there, with_mark}
use Rattle.maps.proofs.MarkedAll.{get_at, get_past, marked_at, read_marks}
use Rattle.maps.proofs.marked_collections.MarkedCollections.mark.Goals as goal

pub returns-then-number-len-clause-before : goal.returns-then-number-len-clause-before
returns-then-number-len-clause-before g c =
    let past : length c.self.inside.maps.items ≤ c.args.number = omega (arith, c.if-number-len.true, c.len.ensures, c.self.inside.maps.ok.0) in
    sym (get_past c.self.inside.maps.items c.args.number c.args.key past) ∙ ap (λ m. get m (c.args.number, c.args.key)) c.self.view_is

pub returns-then-number-len-clause-after : goal.returns-then-number-len-clause-after
returns-then-number-len-clause-after g c =
    let past : length c.self.inside.maps.items ≤ c.args.number = omega (arith, c.if-number-len.true, c.len.ensures, c.self.inside.maps.ok.0) in
    sym (ap (marked_there c.args.self.now (c.args.number, c.args.key)) (sym (ap (λ m. get m (c.args.number, c.args.key)) c.self.view_is) ∙ get_past c.self.inside.maps.items c.args.number c.args.key past))

pub returns-clause-before : goal.returns-clause-before
returns-clause-before g c =
    let within : c.args.number < length c.self.inside.maps.items = omega (arith, c.if-number-len.false, c.len.ensures, c.self.inside.maps.ok.0) in
    c.mark.ensures.before ∙ sym (get_at c.self.inside.maps.items c.args.number c.args.key c.index_mut.result.now (read_marks c.self.inside.maps.items c.args.number c.index_mut.result.now within c.index_mut.ensures.value))
    ∙ ap (λ m. get m (c.args.number, c.args.key)) c.self.view_is

pub returns-clause-after : goal.returns-clause-after
returns-clause-after g c =
    let within : c.args.number < length c.self.inside.maps.items = omega (arith, c.if-number-len.false, c.len.ensures, c.self.inside.maps.ok.0) in
    marked_at c.self.inside.maps.items c.args.number c.index_mut.result.now c.mark.new.self within c.index_mut.ensures.value c.args.key c.mark.ensures.after ∙ ap (λ m. with_mark m (c.args.number, c.args.key)) c.self.view_is
