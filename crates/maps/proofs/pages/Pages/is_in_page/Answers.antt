use Rattle.std.proofs.Common.{◌≡◌, ◌<◌, ◌∙◌, ap, subst, sym, length, T, List, arith}
use Rattle.std.specs.FinMap.{is_sorted}
use Rattle.terms.specs.Key.{key_cmp}
use Rattle.maps.specs.Keyed.{IsAt}
use Rattle.maps.specs.Marks.{IsPage, entries_in, seen_pages}
use Rattle.maps.specs.Paged.{Entry, IsInPage, IsPageFor}
use Rattle.maps.proofs.Amid.{is_in_page}
use Rattle.maps.proofs.Entered.{as_many, page_held, seen_read}
use Rattle.maps.proofs.Joined.{page_sorted}
use Rattle.maps.proofs.pages.Pages.is_in_page.Goals as goal

pub has_at-requires-clause-page : goal.has_at-requires-clause-page
has_at-requires-clause-page g c =
    let raw = c.self.inside.pages.items in
    let within : c.args.page < length raw = omega (arith, c.requires.within, ap (λ s. length s.pages) c.self.view_is, as_many g.V.Stored.said g.V.Stored.MOST c.self.inside.words.items raw) in
    subst (λ ws. IsPage g.V.Stored.said g.V.Stored.MOST ws c.index.result.now) (sym c.deref.ensures.value) (page_held g.V.Stored.said g.V.Stored.MOST c.self.inside.words.items raw c.args.page c.index.result.now within c.index.ensures c.self.invariant.1.each)

pub has_at-requires-clause-sorted : goal.has_at-requires-clause-sorted
has_at-requires-clause-sorted g c =
    let raw = c.self.inside.pages.items in
    let within : c.args.page < length raw = omega (arith, c.requires.within, ap (λ s. length s.pages) c.self.view_is, as_many g.V.Stored.said g.V.Stored.MOST c.self.inside.words.items raw) in
    subst (λ (es : List (Entry g.row.V.Denot)). T (is_sorted key_cmp es)) (sym (ap (λ ws. entries_in g.V.Stored.said ws c.index.result.now) c.deref.ensures.value ∙ seen_read g.V.Stored.said g.V.Stored.MOST c.self.inside.words.items raw c.args.page c.index.result.now within c.index.ensures))
    (page_sorted (seen_pages g.V.Stored.said c.self.inside.words.items raw) c.args.page c.self.invariant.0.sorted)

pub returns : goal.returns
returns g c there =
    let raw = c.self.inside.pages.items in
    let pages = seen_pages g.V.Stored.said c.self.inside.words.items raw in
    let same = ap (λ s. s.pages) c.self.view_is in
    let it = subst (λ (ps : List (List (Entry g.row.V.Denot))). IsPageFor ps c.args.key.now c.args.page) (sym same) c.requires in
    let within : c.args.page < length raw = omega (arith, it.within, as_many g.V.Stored.said g.V.Stored.MOST c.self.inside.words.items raw) in
    let at = subst (λ (es : List (Entry g.row.V.Denot)). IsAt es c.args.key.now c.args.place) (ap (λ ws. entries_in g.V.Stored.said ws c.index.result.now) c.deref.ensures.value ∙ seen_read g.V.Stored.said g.V.Stored.MOST c.self.inside.words.items raw c.args.page c.index.result.now within c.index.ensures) (c.has_at.ensures there) in
    subst (λ (ps : List (List (Entry g.row.V.Denot))). IsInPage ps c.args.key.now c.args.page c.args.place) same (is_in_page pages c.self.invariant.0.sorted c.self.invariant.0.filled c.args.key.now c.args.page c.args.place it at)
