use Rattle.std.proofs.Common.{ℕ, ◌≤◌, List, [], ◌∷◌, refl, arith, lit<}
use Rattle.std.proofs.lemmas.List.Elements.{All-from_recursion}
use Rattle.disk.specs.File.{IsByte}
use Rattle.disk.proofs.Outcomes.{cut_begins, begins_cut}
use Rattle.disk.proofs.laws.cut_leaves.Goals as goal

pub returns-clause-exactly : goal.returns-clause-exactly
returns-clause-exactly c synced end within bytes = (cut_begins synced end bytes within, begins_cut synced end bytes)

pub returns-clause-example : goal.returns-clause-example
returns-clause-example c =
    let synced : List ℕ = 7 ∷ 8 ∷ 9 ∷ [] in (
      begins_cut synced 1 (7 ∷ []) (record { are_bytes = All-from_recursion IsByte (7 ∷ []) (lit< tt, tt); reaches = omega arith; front = refl }),
      begins_cut synced 1 synced (record { are_bytes = All-from_recursion IsByte synced (lit< tt, (lit< tt, (lit< tt, tt))); reaches = omega arith; front = refl }),
      begins_cut synced 1 (7 ∷ 1 ∷ []) (record { are_bytes = All-from_recursion IsByte (7 ∷ 1 ∷ []) (lit< tt, (lit< tt, tt)); reaches = omega arith; front = refl }),
      λ left. let reach : 1 ≤ 0 = (cut_begins synced 1 [] (omega arith) left).reaches in absurd (omega arith),
    )
