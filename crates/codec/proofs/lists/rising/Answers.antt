use Rattle.std.proofs.Common.{◌≡◌, ◌∙◌, ◌++◌, ap, inr, sym, subst, List, ℕ, Ok}
use Rattle.std.proofs.lemmas.List.{append-nil}
use Rattle.codec.specs.Lists.{HandsOut, ListRead, with_end}
use Rattle.codec.proofs.lists.rising.Goals as goal

pub returns : goal.returns
returns g c =
    let items = c.loop-elements.elements.items in
    let none = subst (λ found. HandsOut c.loop-elements.list c.next.new.self (Ok found)) c.in_default.is c.in_ok-element.ensures in
    let after : c.rest-reader.result.now ≡ none.0 = c.rest-reader.ensures none.0 (none.2 ∙ none.1) in
    let elements : c.in_ok-list.list.elements ≡ items = c.loop-elements.invariant.0 ∙ ap (λ list. items ++ list.elements) none.1 ∙ append-nil items in
    let ends : c.in_ok-list.list.ends ≡ Ok none.0 = c.loop-elements.invariant.1 ∙ ap (λ list. list.ends) none.1 in
    let read : (let whole : ListRead g.row.T.Denot = Ok (items, c.rest-reader.result.now) in whole) ≡ with_end c.in_ok-list.list.elements c.in_ok-list.list.ends =
    ap (λ (rest : List ℕ). Ok (items, rest)) after ∙ sym (λ i. with_end (elements i) (ends i)) in
    inr (read ∙ c.in_ok-list.ensures.read)
