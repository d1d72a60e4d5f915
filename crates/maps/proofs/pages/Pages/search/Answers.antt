use Rattle.std.proofs.Common.{◌≡◌, ◌-◌, ◌<◌, ◌∙◌, ap, subst, sym, length, List, T, arith}
use Rattle.std.specs.FinMap.{is_sorted}
use Rattle.terms.specs.Key.{key_cmp}
use Rattle.maps.specs.Marks.{IsPage, entries_in, seen_pages}
use Rattle.maps.specs.Paged.{AreLess, Entry, last_page, page_at}
use Rattle.maps.proofs.Entered.{as_many, page_held, seen_read}
use Rattle.maps.proofs.Joined.{last_is, page_sorted}
use Rattle.maps.proofs.pages.Pages.search.Goals as goal

pub ends_before-requires-clause-page : goal.ends_before-requires-clause-page
ends_before-requires-clause-page g c =
    let raw = c.self.inside.pages.items in
    let within : c.len-count.result - 1 < length raw = omega (arith, c.len-count.ensures, c.if-count-eq0.false, c.self.inside.pages.ok.0) in
    subst (λ ws. IsPage g.V.Stored.said g.V.Stored.MOST ws c.index.result.now) (sym c.deref.ensures.value) (page_held g.V.Stored.said g.V.Stored.MOST c.self.inside.words.items raw (c.len-count.result - 1) c.index.result.now within c.index.ensures c.self.invariant.1.each)

pub ends_before-requires-clause-sorted : goal.ends_before-requires-clause-sorted
ends_before-requires-clause-sorted g c =
    let raw = c.self.inside.pages.items in
    let within : c.len-count.result - 1 < length raw = omega (arith, c.len-count.ensures, c.if-count-eq0.false, c.self.inside.pages.ok.0) in
    let read = ap (λ ws. entries_in g.V.Stored.said ws c.index.result.now) c.deref.ensures.value ∙ seen_read g.V.Stored.said g.V.Stored.MOST c.self.inside.words.items raw (c.len-count.result - 1) c.index.result.now within c.index.ensures in
    subst (λ (es : List (Entry g.row.V.Denot)). T (is_sorted key_cmp es)) (sym read) (page_sorted (seen_pages g.V.Stored.said c.self.inside.words.items raw) (c.len-count.result - 1) c.self.invariant.0.sorted)

pub returns-then-ends_before : goal.returns-then-ends_before
returns-then-ends_before g c =
    let raw = c.self.inside.pages.items in
    let pages = seen_pages g.V.Stored.said c.self.inside.words.items raw in
    let within : c.len-count.result - 1 < length raw = omega (arith, c.len-count.ensures, c.if-count-eq0.false, c.self.inside.pages.ok.0) in
    let last : c.len-count.result - 1 ≡ length pages - 1 = omega (arith, c.len-count.ensures, c.self.inside.pages.ok.0, as_many g.V.Stored.said g.V.Stored.MOST c.self.inside.words.items raw) in
    let read = ap (λ ws. entries_in g.V.Stored.said ws c.index.result.now) c.deref.ensures.value ∙ seen_read g.V.Stored.said g.V.Stored.MOST c.self.inside.words.items raw (c.len-count.result - 1) c.index.result.now within c.index.ensures in
    let page = read ∙ ap (page_at pages) last ∙ last_is pages ∙ ap (λ s. last_page s.pages) c.self.view_is in
    c.end.ensures c.args.key (subst (λ (es : List (Entry g.row.V.Denot)). AreLess es c.args.key) page (c.ends_before.ensures.0 c.if-ends_before.true))
