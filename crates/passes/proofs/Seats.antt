-- The steps of the table, for a seat whose view is known by an equation.
use Rattle.std.proofs.Common.{◌≡◌, ℕ, ◌+◌, ◌%◌, ◌^◌, ◌<◌, true≢false, List, [], ◌∷◌, length, sym, ap, ◌∙◌, subst, Option, Some, None, IsSome}
use Rattle.std.specs.Prelude.{bit_or}
use mathlib.Core.Option.{none}
use Rattle.terms.specs.Commits.{Commit}
use Rattle.atomic_table.specs.Table.{step, Allows, Splits, Joins}
use Rattle.passes.specs.Known.{Known, Desk, SeatView, nobody, pass, desk, commits, count_of}
use Rattle.passes.specs.Rule.{IsRuled}
use Rattle.passes.specs.Steps.{Seated, lent, guest_gone, guest_out, one_made, new_one, known, desk_of}
use Rattle.passes.specs.Steps as steps
use Rattle.passes.proofs.Moves.{learns, counts, hears, asks, adds, makes, lends, returns}

abbrev first_of : List SeatView → SeatView
first_of [] = nobody
first_of (view ∷ views) = view

-- the seat of a badge has its view
pub view_of_badge : (views : List SeatView) (view : SeatView) → views ≡ view ∷ [] → views ≡ pass (known views) ∷ [] → view ≡ pass (known views)
view_of_badge views view one own = ap first_of (sym one ∙ own)

-- the keeper's seat has its desk
pub view_of_desk : (me : Seated) (d : Desk) → me ≡ (desk (desk_of me.0), []) → desk_of me.0 ≡ d → me.0 ≡ desk d
view_of_desk me d is seen = ap (λ (own : Seated). own.0) is ∙ ap desk seen

pub learns_at : (slots seat : ℕ) (me : Seated) (d : Desk) → me.0 ≡ desk d → Allows IsRuled slots seat me 0 (λ n. n) (steps.Learns (step slots 0 0 0 none) me)
learns_at slots seat me d is = subst (λ (view : SeatView). Allows IsRuled slots seat (view, me.1) 0 (λ n. n) (steps.Learns (step slots 0 0 0 none) (view, me.1))) (sym is) (learns slots seat d me.1)

pub counts_at : (slots seat : ℕ) (me : Seated) (own : Known) → me.0 ≡ pass own → Allows IsRuled slots seat me 0 (λ n. n) (steps.Counts (step slots 0 0 0 none) me)
counts_at slots seat me own is = subst (λ (view : SeatView). Allows IsRuled slots seat (view, me.1) 0 (λ n. n) (steps.Counts (step slots 0 0 0 none) (view, me.1))) (sym is) (counts slots seat own me.1)

pub hears_at : (slots seat : ℕ) (me : Seated) (own : Known) → me.0 ≡ pass own → Allows IsRuled slots seat me 1 (λ n. n) (steps.Hears (step slots 1 0 0 none) me)
hears_at slots seat me own is = subst (λ (view : SeatView). Allows IsRuled slots seat (view, me.1) 1 (λ n. n) (steps.Hears (step slots 1 0 0 none) (view, me.1))) (sym is) (hears slots seat own me.1)

pub asks_at : (slots seat : ℕ) (me : Seated) (own : Known) → me.0 ≡ pass own → Allows IsRuled slots seat me 1 (λ n. bit_or n 1) (steps.Asks (step slots 1 1 0 none) me)
asks_at slots seat me own is = subst (λ (view : SeatView). Allows IsRuled slots seat (view, me.1) 1 (λ n. bit_or n 1) (steps.Asks (step slots 1 1 0 none) (view, me.1))) (sym is) (asks slots seat own me.1)

pub makes_at : (seat : ℕ) (view : SeatView) (d : Desk) → view ≡ desk d → Splits IsRuled seat view (one_made view) (new_one view)
makes_at seat view d is = subst (λ (own : SeatView). Splits IsRuled seat own (one_made own) (new_one own)) (sym is) (makes seat d)

pub lends_at : (seat : ℕ) (view : SeatView) (other : ℕ) (its : SeatView) (d : Desk) (own : Known) → view ≡ desk d → d.guest ≡ None → its ≡ pass own → Joins IsRuled seat view other its (lent view its) nobody
lends_at seat view other its d own is alone its_is =
    subst (λ (both : SeatView × SeatView). Joins IsRuled seat both.0 other both.1 (lent both.0 both.1) nobody)
    (λ i. (sym (is ∙ ap (λ (guest : Option Known). desk record { book = d.book; guest = guest }) alone) i, sym its_is i))
    (lends seat d.book other own)

pub adds_at : (slots seat count : ℕ) (commit : Commit) (me : Seated) (d : Desk) → me.0 ≡ desk d → IsSome d.guest → count ≡ length commit → count_of (commits d.book.history) + count < 2 ^ 64
    → Allows IsRuled slots seat me 0 (λ n. (n + count) % 2 ^ 64) (steps.Adds commit (step slots 0 count 0 none) me)
adds_at slots seat count commit me d is has counted room =
    subst (λ (view : SeatView). Allows IsRuled slots seat (view, me.1) 0 (λ n. (n + count) % 2 ^ 64) (steps.Adds commit (step slots 0 count 0 none) (view, me.1))) (sym is) (at d.guest has)
  where
    at : (guest : Option Known) → IsSome guest
        → Allows IsRuled slots seat (desk record { book = d.book; guest = guest }, me.1) 0 (λ n. (n + count) % 2 ^ 64) (steps.Adds commit (step slots 0 count 0 none) (desk record { book = d.book; guest = guest }, me.1))
    at None has = absurd (true≢false (sym has))
    at (Some own) has = adds slots seat count commit d.book own me.1 counted room

pub returns_at : (seat : ℕ) (view : SeatView) (d : Desk) → view ≡ desk d → IsSome d.guest → Splits IsRuled seat view (guest_gone view) (guest_out view)
returns_at seat view d is has = subst (λ (own : SeatView). Splits IsRuled seat own (guest_gone own) (guest_out own)) (sym is) (at d.guest has)
  where
    at : (guest : Option Known) → IsSome guest → Splits IsRuled seat (desk record { book = d.book; guest = guest }) (guest_gone (desk record { book = d.book; guest = guest })) (guest_out (desk record { book = d.book; guest = guest }))
    at None has = absurd (true≢false (sym has))
    at (Some own) has = returns seat d.book own
