use Rattle.std.proofs.Common.{◌∙◌, ◌-◌, ap, sym, length, slice_get, List}
use Rattle.std.specs.Option.{option_copied}
use Rattle.std.specs.Ordering.{is_lt}
use Rattle.std.proofs.lemmas.List.{length-map}
use Rattle.terms.specs.Key.{key_cmp}
use Rattle.maps.specs.declared.mark.Mark.{Mark}
use Rattle.maps.specs.Marks.{IsWithin, entries_in, entry_of}
use Rattle.maps.proofs.Amid.{less_at, less_by_last}
use Rattle.maps.proofs.Entered.{held_at, seen_at}
use Rattle.maps.proofs.Places.{lesser}
use Rattle.maps.proofs.page.Page.ends_before.Goals as goal

pub key-requires : goal.key-requires
key-requires g c =
    let items = c.deref.ensures.value ∙ ap (λ p. p.1) c.self.view_is in
    let there = ap (λ (ms : List Mark). slice_get ms (length ms - 1)) (sym items) ∙ sym c.last.ensures.value ∙ ap option_copied c.in-Some.is in
    held_at (IsWithin g.V.Stored.MOST c.args.words.now) c.args.self.now.1 (length c.args.self.now.1 - 1) _ there c.requires.page.within

pub returns-in-Some : goal.returns-in-Some
returns-in-Some g c =
    let es = entries_in g.V.Stored.said c.args.words.now c.args.self.now in
    let f = entry_of g.V.Stored.said c.args.words.now in
    let items = c.deref.ensures.value ∙ ap (λ p. p.1) c.self.view_is in
    let there = ap (λ (ms : List Mark). slice_get ms (length ms - 1)) (sym items) ∙ sym c.last.ensures.value ∙ ap option_copied c.in-Some.is in
    let last = ap (λ n. slice_get es (n - 1)) (length-map c.args.self.now.1 f) ∙ seen_at f c.args.self.now.1 (length c.args.self.now.1 - 1) _ there in
    let order = c.lt.ensures ∙ ap (λ k. is_lt (key_cmp k c.args.key)) c.key.ensures in
    (λ less. less_by_last es _ _ c.requires.sorted last (lesser _ (sym order ∙ less)), λ all. order ∙ ap is_lt (less_at es c.args.key (length es - 1) _ all last))
