use Rattle.std.proofs.Common.{◌*◌, ◌+◌, ◌/◌, ◌^◌, ◌<◌, ◌≤◌, ℕ, List, ap, subst, length, arith}
use Rattle.maps.specs.Marks.{seen_pages}
use Rattle.maps.specs.Paged.{Entry, all_of, page_at}
use Rattle.maps.proofs.Costs.{in_all}
use Rattle.maps.proofs.pages.Pages.find.Goals as goal

pub returns-clause-cost : goal.returns-clause-cost
returns-clause-cost g c =
    let pages = seen_pages g.V.Stored.said c.self.inside.words.items c.self.inside.pages.items in
    let same = ap (λ s. s.pages) c.self.view_is in
    subst (λ (ps : List (List (Entry g.row.V.Denot))). ((digits : ℕ) → length ps ≤ 2 ^ digits → c.page_for-page.new.steps ≤ c.args.steps.now + digits) → ((digits : ℕ) → length (page_at ps c.page_for-page.result) < 2 ^ digits → c.search_page.new.steps ≤ c.page_for-page.new.steps + digits)
    → (digits : ℕ) → length (all_of ps) < 2 ^ digits → c.search_page.new.steps ≤ c.args.steps.now + digits * (digits + 1) / 2) same
    (in_all pages c.page_for-page.result c.self.invariant.0.filled (omega (arith, c.page_for-page.ensures.page.within, ap length same)) c.args.steps.now c.page_for-page.new.steps c.search_page.new.steps)
    c.page_for-page.ensures.cost c.search_page.ensures.cost
