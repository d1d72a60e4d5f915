use Rattle.std.proofs.Common.{◌∙◌, ap, sym, arith, Some}
use Rattle.std.specs.FinMap.{get}
use Rattle.std.proofs.lemmas.List.{get_or_read}
use Rattle.maps.specs.Marked.{is_marked}
use Rattle.maps.proofs.Marking.{has_word, is_absent, is_there, place_fits, there}
use Rattle.maps.proofs.marked_map.MarkedMap.get.Goals as goal

pub index-requires : goal.index-requires
index-requires g c = omega (arith, has_word c.self.inside.pages.now.pages c.self.inside.words.items c.in-At.page c.self.invariant c.in-At.ensures.page_within, c.self.inside.words.ok.0)

pub is_marked-requires : goal.is_marked-requires
is_marked-requires g c = place_fits c.self.inside.pages.now.pages c.self.inside.words.items c.self.invariant c.args.key c.in-At.page c.in-At.place c.in-At.ensures

pub returns-in-At : goal.returns-in-At
returns-in-At g c =
    let pages = c.self.inside.pages.now.pages in
    let words = c.self.inside.words.items in
    let it = c.in-At.ensures in
    let word = get_or_read words c.in-At.page c.index.result.now (has_word pages words c.in-At.page c.self.invariant it.page_within) c.index.ensures 0 in
    let here = there pages c.args.key c.in-At.page c.in-At.place c.value_at-value.result it c.value_at-value.ensures in
    (λ i. Some (c.value_at-value.result, (c.is_marked.ensures ∙ ap (λ w. is_marked w c.in-At.place) word) i))
    ∙ sym (is_there pages words c.self.invariant c.in-At.page c.in-At.place c.args.key c.value_at-value.result it.page_within it.place_within here) ∙ ap (λ m. get m c.args.key) c.self.view_is

pub returns-in-Gap : goal.returns-in-Gap
returns-in-Gap g c = sym (is_absent c.self.inside.pages.now.pages c.self.inside.words.items c.self.invariant c.args.key c.in-Gap.ensures.absent) ∙ ap (λ m. get m c.args.key) c.self.view_is

pub returns-in-Behind : goal.returns-in-Behind
returns-in-Behind g c = sym (is_absent c.self.inside.pages.now.pages c.self.inside.words.items c.self.invariant c.args.key c.in-Behind.ensures.absent) ∙ ap (λ m. get m c.args.key) c.self.view_is
