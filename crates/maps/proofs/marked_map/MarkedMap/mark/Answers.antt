use Rattle.std.proofs.Common.{◌∙◌, ap, sym, arith, Some}
use Rattle.std.specs.FinMap.{get}
use Rattle.std.proofs.lemmas.List.{get_or_read}
use Rattle.maps.specs.Marked.{is_marked, marked_there, with_mark}
use Rattle.maps.proofs.Marking.{has_word, is_absent, is_marked_now, is_there, place_fits, still, there}
use Rattle.maps.proofs.marked_map.MarkedMap.mark.Goals as goal

pub index-word-requires : goal.index-word-requires
index-word-requires g c = omega (arith, has_word c.self.inside.pages.now.pages c.self.inside.words.items c.in-At.page c.self.invariant c.in-At.ensures.page_within, c.self.inside.words.ok.0)

pub with_mark-requires : goal.with_mark-requires
with_mark-requires g c = place_fits c.self.inside.pages.now.pages c.self.inside.words.items c.self.invariant c.args.key c.in-At.page c.in-At.place c.in-At.ensures

pub index_mut-requires : goal.index_mut-requires
index_mut-requires g c = omega (arith, has_word c.self.inside.pages.now.pages c.self.inside.words.items c.in-At.page c.self.invariant c.in-At.ensures.page_within, c.self.inside.words.ok.0)

pub is_marked-requires : goal.is_marked-requires
is_marked-requires g c = place_fits c.self.inside.pages.now.pages c.self.inside.words.items c.self.invariant c.args.key c.in-At.page c.in-At.place c.in-At.ensures

pub invariant_of-self : goal.invariant_of-self
invariant_of-self g c =
    let pages = c.self.inside.pages.now.pages in
    let words = c.self.inside.words.items in
    let it = c.in-At.ensures in
    let word = get_or_read words c.in-At.page c.index-word.result.now (has_word pages words c.in-At.page c.self.invariant it.page_within) c.index-word.ensures 0 in
    let here = there pages c.args.key c.in-At.page c.in-At.place c.value_at-value.result it c.value_at-value.ensures in
    still pages words c.self.invariant c.in-At.page c.in-At.place c.args.key c.value_at-value.result it.page_within it.place_within here c.with_mark.result c.with_mark.ensures.marked
    (λ other low differs. c.with_mark.ensures.others other low differs ∙ ap (λ w. is_marked w other) word) (omega (arith, c.with_mark.ensures.less, word))

pub returns-in-At-clause-before : goal.returns-in-At-clause-before
returns-in-At-clause-before g c =
    let pages = c.self.inside.pages.now.pages in
    let words = c.self.inside.words.items in
    let it = c.in-At.ensures in
    let word = get_or_read words c.in-At.page c.index-word.result.now (has_word pages words c.in-At.page c.self.invariant it.page_within) c.index-word.ensures 0 in
    let here = there pages c.args.key c.in-At.page c.in-At.place c.value_at-value.result it c.value_at-value.ensures in
    (λ i. Some (c.value_at-value.result, (c.is_marked.ensures ∙ ap (λ w. is_marked w c.in-At.place) word) i))
    ∙ sym (is_there pages words c.self.invariant c.in-At.page c.in-At.place c.args.key c.value_at-value.result it.page_within it.place_within here) ∙ ap (λ m. get m c.args.key) c.self.view_is

pub returns-in-At-clause-after : goal.returns-in-At-clause-after
returns-in-At-clause-after g c =
    let pages = c.self.inside.pages.now.pages in
    let words = c.self.inside.words.items in
    let it = c.in-At.ensures in
    let word = get_or_read words c.in-At.page c.index-word.result.now (has_word pages words c.in-At.page c.self.invariant it.page_within) c.index-word.ensures 0 in
    let here = there pages c.args.key c.in-At.page c.in-At.place c.value_at-value.result it c.value_at-value.ensures in
    is_marked_now pages words c.self.invariant c.in-At.page c.in-At.place c.args.key c.value_at-value.result it.page_within it.place_within here c.with_mark.result c.with_mark.ensures.marked
    (λ other low differs. c.with_mark.ensures.others other low differs ∙ ap (λ w. is_marked w other) word) (omega (arith, c.with_mark.ensures.less, word)) ∙ ap (λ m. with_mark m c.args.key) c.self.view_is

pub returns-in-Gap-clause-before : goal.returns-in-Gap-clause-before
returns-in-Gap-clause-before g c = sym (is_absent c.self.inside.pages.now.pages c.self.inside.words.items c.self.invariant c.args.key c.in-Gap.ensures.absent) ∙ ap (λ m. get m c.args.key) c.self.view_is

pub returns-in-Gap-clause-after : goal.returns-in-Gap-clause-after
returns-in-Gap-clause-after g c = sym (ap (marked_there c.args.self.now c.args.key) (sym (ap (λ m. get m c.args.key) c.self.view_is) ∙ is_absent c.self.inside.pages.now.pages c.self.inside.words.items c.self.invariant c.args.key c.in-Gap.ensures.absent))

pub returns-in-Behind-clause-before : goal.returns-in-Behind-clause-before
returns-in-Behind-clause-before g c = sym (is_absent c.self.inside.pages.now.pages c.self.inside.words.items c.self.invariant c.args.key c.in-Behind.ensures.absent) ∙ ap (λ m. get m c.args.key) c.self.view_is

pub returns-in-Behind-clause-after : goal.returns-in-Behind-clause-after
returns-in-Behind-clause-after g c = sym (ap (marked_there c.args.self.now c.args.key) (sym (ap (λ m. get m c.args.key) c.self.view_is) ∙ is_absent c.self.inside.pages.now.pages c.self.inside.words.items c.self.invariant c.args.key c.in-Behind.ensures.absent))
