-- A finish that was committed.
use Rattle.std.proofs.Common.{◌≡◌, ◌∙◌, ◌++◌, ◌∷◌, [], ℕ, List, sym, ap, subst}
use Rattle.terms.specs.declared.name.Inst.{Inst}
use Rattle.terms.specs.declared.event.Event.{Event}
use Rattle.terms.specs.Commits.{Commit}
use Rattle.terms.specs.Facts.{FactsGoOn, EnvironmentGoesOn}
use Rattle.terms.specs.Sets.{AmongBoth}
use Rattle.commit.specs.declared.outcome.Outcome.{Outcome}
use Rattle.commit.specs.declared.outcome.Committed.{Committed}
use Rattle.commit.specs.Core.{Core}
use Rattle.commit.specs.Calls.{Takes}
use Rattle.commit.specs.Outcome.{IsEndOf, Tells}
use Rattle.passes.specs.Known.{Known, Desk, commits, writing_by}
use Rattle.commit.specs.Outcome.{end_of}
use Rattle.passes.specs.Opening.{Opening}
use Rattle.hub.specs.Kept.{IsKept}
use Rattle.passes.specs.Visits.{Shows, Writes}
use Rattle.commit.proofs.Ended.{end_is_told}
use Rattle.hub.proofs.Keeping.{kept_more}
use Rattle.hub.proofs.States.{comes_one}
use Rattle.hub.proofs.Telling.{writes_from}

-- the desk has the end that the result names, and the core has taken it
pub kept_ended : AmongBoth → FactsGoOn → EnvironmentGoesOn → {D : Type 0} (Ran : List Commit → Core D → Type 0) (opening : Opening) (count number : ℕ) (d shown later : Desk) (old new : Core D) (committed : Committed) (task named : Inst) (outcome said : Outcome) (end : Event)
    → IsKept Ran opening count d old → shown ≡ d → named ≡ task → said ≡ outcome → IsEndOf outcome task end → Tells committed end → Takes old new end
    → Ran (commits d.book.history ++ (end ∷ []) ∷ []) new → later ≡ writing_by number (end_of committed named said ∷ []) shown → IsKept Ran opening count later new
kept_ended both go_on goes_on {D = D} Ran opening count number d shown later old new committed task named outcome said end kept shown_is named_is said_is is_end told takes ran later_is =
    let same : end ≡ end_of committed named said = end_is_told committed task outcome end is_end told ∙ (λ i. end_of committed (sym named_is i) (sym said_is i)) in
    subst (λ (at : Desk). IsKept Ran opening count at new) (sym (later_is ∙ ap (λ (at : Desk). writing_by number (end_of committed named said ∷ []) at) shown_is))
    (kept_more both go_on goes_on Ran opening count number d old new (end_of committed named said ∷ []) kept (comes_one old new (end_of committed named said) (subst (λ (event : Event). Takes old new event) same takes))
    (subst (λ (event : Event). Ran (commits d.book.history ++ (event ∷ []) ∷ []) new) same ran))

-- and it was made with the pass as the pass was before it saw the history
pub writes_end : (d shown later : Desk) (before seen after : Known) (committed : Committed) (task named : Inst) (outcome said : Outcome) → shown ≡ d → named ≡ task → said ≡ outcome → Shows d.book.history before seen
    → Writes (end_of committed named said ∷ []) shown.book.history later.book.history seen after → Writes (end_of committed task outcome ∷ []) d.book.history later.book.history before after
writes_end d shown later before seen after committed task named outcome said shown_is named_is said_is shows writes =
    writes_from (end_of committed task outcome ∷ []) d.book.history later.book.history before seen after shows
    (subst (λ (at : Commit × Desk). Writes at.0 at.1.book.history later.book.history seen after) (λ i. (end_of committed (named_is i) (said_is i) ∷ [], shown_is i)) writes)
