use Rattle.std.proofs.Common.{◌≡◌, ◌-◌, ◌<◌, ◌≤◌, ◌∙◌, ap, subst, length, List, ℤ, arith}
use Rattle.std.proofs.lemmas.List.{length-map}
use Rattle.maps.specs.Marks.{entry_of, seen_pages}
use Rattle.maps.specs.Paged.{AreLess, Entry, GoesBehind, GoesInto, last_page, page_at}
use Rattle.maps.specs.declared.page.TheConstants.{HALF}
use Rattle.maps.proofs.Amid.{goes_behind, goes_into_last}
use Rattle.maps.proofs.Entered.{as_many, seen_read}
use Rattle.maps.proofs.Joined.{last_is}
use Rattle.maps.proofs.pages.Pages.end.Goals as goal

pub returns-then-place-lt-PAGE : goal.returns-then-place-lt-PAGE
returns-then-place-lt-PAGE g c =
    let said = g.V.Stored.said in
    let words = c.self.inside.words.items in
    let raw = c.self.inside.pages.items in
    let pages = seen_pages said words raw in
    let same = ap (λ s. s.pages) c.self.view_is in
    let many = as_many said g.V.Stored.MOST words raw in
    let some : 0 < length pages = omega (arith, c.requires, ap length same) in
    let last : c.len-last.result - 1 ≡ length pages - 1 = omega (arith, c.len-last.ensures, c.self.inside.pages.ok.0, many) in
    let read = seen_read said g.V.Stored.MOST words raw (c.len-last.result - 1) c.index.result.now (omega (arith, last, some, many)) c.index.ensures in
    let place : c.len-place.result ≡ length (page_at pages (c.len-last.result - 1)) = omega (arith, c.len-place.ensures.count, length-map c.index.result.now.1 (entry_of said words), ap length read) in
    subst (λ (ps : List (List (Entry g.row.V.Denot))). (key : List ℤ) → AreLess (last_page ps) key → GoesInto ps key (c.len-last.result - 1) c.len-place.result) same
    (goes_into_last pages c.self.invariant.0.sorted c.self.invariant.0.filled (c.len-last.result - 1) c.len-place.result some last place)

pub returns : goal.returns
returns g c =
    let said = g.V.Stored.said in
    let words = c.self.inside.words.items in
    let raw = c.self.inside.pages.items in
    let pages = seen_pages said words raw in
    let same = ap (λ s. s.pages) c.self.view_is in
    let many = as_many said g.V.Stored.MOST words raw in
    let some : 0 < length pages = omega (arith, c.requires, ap length same) in
    let last : c.len-last.result - 1 ≡ length pages - 1 = omega (arith, c.len-last.ensures, c.self.inside.pages.ok.0, many) in
    let page = seen_read said g.V.Stored.MOST words raw (c.len-last.result - 1) c.index.result.now (omega (arith, last, some, many)) c.index.ensures ∙ ap (page_at pages) last ∙ last_is pages in
    let full : HALF ≤ length (last_page pages) = omega (arith, c.if-place-lt-PAGE.false, c.len-place.ensures.count, length-map c.index.result.now.1 (entry_of said words), ap length page) in
    subst (λ (ps : List (List (Entry g.row.V.Denot))). (key : List ℤ) → AreLess (last_page ps) key → GoesBehind ps key) same
    (goes_behind pages c.self.invariant.0.sorted c.self.invariant.0.filled full)
