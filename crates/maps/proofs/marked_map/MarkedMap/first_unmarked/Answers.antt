use Rattle.std.proofs.Common.{◌<◌, ◌∙◌, ap, sym, subst, arith, length}
use Rattle.std.proofs.lemmas.List.{get_or_read}
use Rattle.maps.specs.Marked.{AreAllMarked, IsLeft, is_marked}
use Rattle.maps.proofs.Marking.{all_marked, first_left, left_within}
use Rattle.maps.proofs.marked_map.MarkedMap.first_unmarked.Goals as goal

pub key_at-requires-clause-page : goal.key_at-requires-clause-page
key_at-requires-clause-page g c =
    let words = c.self.inside.words.items in
    let within : c.loop-page.page < length words = omega (arith, c.loop-page-test.true, c.len-page-end.ensures, c.self.inside.words.ok.0) in
    let left = sym (ap (λ w. is_marked w c.first_unmarked.result) (get_or_read words c.loop-page.page c.index-word.result.now within c.index-word.ensures 0)) ∙ c.first_unmarked.ensures in
    (left_within c.self.inside.pages.now.pages words c.loop-page.page c.first_unmarked.result c.self.invariant within left).0

pub key_at-requires-clause-place : goal.key_at-requires-clause-place
key_at-requires-clause-place g c =
    let words = c.self.inside.words.items in
    let within : c.loop-page.page < length words = omega (arith, c.loop-page-test.true, c.len-page-end.ensures, c.self.inside.words.ok.0) in
    let left = sym (ap (λ w. is_marked w c.first_unmarked.result) (get_or_read words c.loop-page.page c.index-word.result.now within c.index-word.ensures 0)) ∙ c.first_unmarked.ensures in
    (left_within c.self.inside.pages.now.pages words c.loop-page.page c.first_unmarked.result c.self.invariant within left).1

pub returns-then-word-ne0-clause-some : goal.returns-then-word-ne0-clause-some
returns-then-word-ne0-clause-some g c =
    let words = c.self.inside.words.items in
    let within : c.loop-page.page < length words = omega (arith, c.loop-page-test.true, c.len-page-end.ensures, c.self.inside.words.ok.0) in
    let left = sym (ap (λ w. is_marked w c.first_unmarked.result) (get_or_read words c.loop-page.page c.index-word.result.now within c.index-word.ensures 0)) ∙ c.first_unmarked.ensures in
    subst (λ m. IsLeft m c.key_at.result) c.self.view_is (first_left c.self.inside.pages.now.pages words c.loop-page.page c.first_unmarked.result c.key_at.result c.self.invariant within left c.key_at.ensures)

pub returns-clause-none : goal.returns-clause-none
returns-clause-none g c = λ _.
    subst AreAllMarked c.self.view_is
    (all_marked c.self.inside.pages.now.pages c.self.inside.words.items c.self.invariant (λ n within. c.loop-page.invariant n (omega (arith, within, c.loop-page-test.false, c.len-page-end.ensures, c.self.inside.words.ok.0))))
