use Rattle.std.proofs.Common.{◌∙◌, ◌<◌, ◌≤◌, ap, sym, arith, length}
use Rattle.std.specs.FinMap.{get}
use Rattle.std.proofs.lemmas.Bool.Decides.{nat_tests}
use Rattle.maps.specs.Marked.{marked_places}
use Rattle.maps.proofs.MarkedAll.{get_at, get_past, read_marks}
use Rattle.maps.proofs.marked_collections.MarkedCollections.get.Goals as goal

pub returns-in-Some : goal.returns-in-Some
returns-in-Some g c =
    let within : c.args.number < length c.deref.result.now = grind (arith, nat_tests, c.in-Some.ensures.lookup.0) in
    let there = read_marks c.deref.result.now c.args.number c.in-Some.marks.now within c.in-Some.ensures.lookup.1 in
    c.get-in-Some.ensures ∙ sym (get_at c.deref.result.now c.args.number c.args.key c.in-Some.marks.now there) ∙ ap (λ maps. get (marked_places maps) (c.args.number, c.args.key)) c.deref.ensures.value ∙ ap (λ m. get m (c.args.number, c.args.key)) c.self.view_is

pub returns-in-None : goal.returns-in-None
returns-in-None g c =
    let past : length c.self.inside.maps.items ≤ c.args.number = grind (arith, nat_tests, c.in-None.ensures.lookup.0, c.deref.ensures.value) in
    sym (get_past c.self.inside.maps.items c.args.number c.args.key past) ∙ ap (λ m. get m (c.args.number, c.args.key)) c.self.view_is
