use Rattle.std.proofs.Common.{◌≡◌, ℕ, List, [], ◌∷◌, refl, arith, lit<}
use Rattle.std.proofs.lemmas.List.Elements.{All-from_recursion}
use Rattle.disk.specs.File.{IsByte}
use Rattle.disk.proofs.Outcomes.{within_differs, differs_within, past_begins, begins_past, write_leaves_exactly}
use Rattle.disk.proofs.laws.write_leaves.Goals as goal

pub returns-clause-within : goal.returns-clause-within
returns-clause-within c synced from count within bytes = (within_differs synced from count bytes within, differs_within synced from count bytes)

pub returns-clause-past : goal.returns-clause-past
returns-clause-past c synced from count reach past bytes = (past_begins synced from count bytes reach, begins_past synced from count bytes past)

pub returns-clause-exactly : goal.returns-clause-exactly
returns-clause-exactly c synced from count reach bytes = write_leaves_exactly synced from count bytes reach

pub returns-clause-example : goal.returns-clause-example
returns-clause-example c =
    let synced : List ℕ = 7 ∷ 8 ∷ 9 ∷ [] in (
      differs_within synced 1 1 (7 ∷ 0 ∷ 9 ∷ []) (record {
        are_bytes = All-from_recursion IsByte (7 ∷ 0 ∷ 9 ∷ []) (lit< tt, (lit< tt, (lit< tt, tt)));
        same_length = refl;
        front = refl;
        behind = refl;
      }),
      λ left. let front : ◌≡◌ {A = List ℕ} (0 ∷ []) (7 ∷ []) = (within_differs synced 1 1 (0 ∷ 8 ∷ 9 ∷ []) (omega arith) left).front in cc,
      λ left. let short : ◌≡◌ {A = ℕ} 2 3 = (within_differs synced 1 1 (7 ∷ 8 ∷ []) (omega arith) left).same_length in absurd (omega arith),
    )
