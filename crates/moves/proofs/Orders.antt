-- The commit order grows at its end.
use Rattle.std.proofs.Common.{◌≡◌, ◌∙◌, ap, sym, refl, inl, inr, List, [], ◌∷◌, ◌++◌, Ok, Err}
use Rattle.std.proofs.lemmas.List.{append-nil, append_assoc}
use Rattle.terms.specs.Commits.{Commit}
use Rattle.moves.specs.Call.{Call, acknowledged}
use Rattle.moves.specs.Move.{Move, Place, at_core, at_disk, whole, cut, goes_on, going_cut, crashes, gives_back, crashes_again, opens, opening_cut}
use Rattle.moves.specs.Order.{AcknowledgedStays, Doubts, Extends, ExtendsAll, Forgets, History, MadeStays, acknowledged_by, begun}

abbrev made : History → List Commit
made h = h.made

-- one order begins another
abbrev Begins : History → History → Type 0
Begins before after = (later : List Commit) × (after.made ≡ before.made ++ later)

stays : (before after : History) → after ≡ before → Begins before after
stays before after same = ([], ap made same ∙ sym (append-nil before.made))

doubts : (call : Call) (before after : History) → Doubts call before after → Begins before after
doubts call before after it = ([], ap made it.3 ∙ sym (append-nil before.made))

made_by : {D : Type 0} (move : Move D) (from to : Place D) (before after : History) → Extends move from to before after → Begins before after
made_by (whole call) (at_core old) (at_core new) before after (inl doubtful) = doubts call before after doubtful.2
made_by (whole call) (at_core old) (at_core new) before after (inr it) = (acknowledged call, ap made it.1)
made_by (cut call core) (at_core old) (at_disk disk) before after (inl same) = stays before after same
made_by (cut call core) (at_core old) (at_disk disk) before after (inr doubtful) = doubts call before after doubtful.1
made_by (goes_on commits) (at_core old) (at_core new) before after (inl still) = stays before after still.2
made_by (goes_on commits) (at_core old) (at_core new) before after (inr it) = (commits, ap made it.2)
made_by (going_cut commits new) (at_core old) (at_disk disk) before after (inl still) = stays before after still.1
made_by (going_cut commits new) (at_core old) (at_disk disk) before after (inr it) = ([], ap made it.2 ∙ sym (append-nil before.made))
made_by crashes (at_core core) (at_disk disk) before after same = stays before after same
made_by gives_back (at_core core) (at_disk disk) before after same = stays before after same
made_by crashes_again (at_disk old) (at_disk disk) before after same = stays before after same
made_by (opens (Ok core)) (at_disk disk) (at_core opened) before after it = (it.0, ap made it.3)
made_by (opens (Err refused)) (at_disk disk) (at_disk back) before after same = stays before after same
made_by (opening_cut result) (at_disk old) (at_disk disk) before after same = stays before after same
made_by move from to before after it = absurd it

pub made_stays : (D : Type 0) → MadeStays D
made_stays D [] from to before after all = stays before after all.1
made_stays D (move ∷ moves) from to before after all =
    let first = made_by move from all.0 before all.1 all.2 in
    let rest = made_stays D moves all.0 to all.1 after all.3 in
    (first.0 ++ rest.0, rest.1 ∙ ap (λ (commits : List Commit). commits ++ rest.0) first.1 ∙ append_assoc before.made first.0 rest.0)

-- a list of moves in two parts
split : {D : Type 0} (one two : List (Move D)) (from to : Place D) (before after : History) → ExtendsAll (one ++ two) from to before after
    → (place : Place D) × (between : History) × ExtendsAll one from place before between × ExtendsAll two place to between after
split [] two from to before after all = (from, before, (refl, refl), all)
split (move ∷ one) two from to before after all =
    let rest = split one two all.0 to all.1 after all.3 in
    (rest.0, rest.1, (all.0, all.1, all.2, rest.2), rest.3)

-- what a move acknowledged comes after what was made before it, and perhaps more
abbrev Adds : {D : Type 0} → Move D → History → History → Type 0
Adds move before after = (later : List Commit) × (after.made ≡ before.made ++ acknowledged_by move ++ later)

-- a move that acknowledged nothing
adds_none : (before after : History) → Begins before after → (later : List Commit) × (after.made ≡ before.made ++ [] ++ later)
adds_none before after begins = (begins.0, begins.1 ∙ ap (λ (commits : List Commit). commits ++ begins.0) (sym (append-nil before.made)))

-- just these commits are new
adds_just : (commits : List Commit) (before after : History) → after.made ≡ before.made ++ commits → (later : List Commit) × (after.made ≡ before.made ++ commits ++ later)
adds_just commits before after is = ([], is ∙ sym (append-nil (before.made ++ commits)))

by_move : (D : Type 0) (move : Move D) (from to : Place D) (before after : History) → Extends move from to before after → Adds move before after
by_move D (whole call) (at_core old) (at_core new) before after (inl doubtful) =
    adds_just (acknowledged call) before after (ap made doubtful.2.3 ∙ sym (append-nil before.made) ∙ ap (λ (commits : List Commit). before.made ++ commits) (sym doubtful.1))
by_move D (whole call) (at_core old) (at_core new) before after (inr it) = adds_just (acknowledged call) before after (ap made it.1)
by_move D (whole call) (at_core old) (at_disk new) before after it = absurd it
by_move D (whole call) (at_disk old) (at_core new) before after it = absurd it
by_move D (whole call) (at_disk old) (at_disk new) before after it = absurd it
by_move D (goes_on commits) (at_core old) (at_core new) before after (inl still) =
    adds_just commits before after (ap made still.2 ∙ sym (append-nil before.made) ∙ ap (λ (list : List Commit). before.made ++ list) (sym still.1))
by_move D (goes_on commits) (at_core old) (at_core new) before after (inr it) = adds_just commits before after (ap made it.2)
by_move D (goes_on commits) (at_core old) (at_disk new) before after it = absurd it
by_move D (goes_on commits) (at_disk old) (at_core new) before after it = absurd it
by_move D (goes_on commits) (at_disk old) (at_disk new) before after it = absurd it
by_move D (cut call core) from to before after it = adds_none before after (made_by (cut call core) from to before after it)
by_move D (going_cut commits core) from to before after it = adds_none before after (made_by (going_cut commits core) from to before after it)
by_move D crashes from to before after it = adds_none before after (made_by crashes from to before after it)
by_move D gives_back from to before after it = adds_none before after (made_by gives_back from to before after it)
by_move D crashes_again from to before after it = adds_none before after (made_by crashes_again from to before after it)
by_move D (opens result) from to before after it = adds_none before after (made_by (opens result) from to before after it)
by_move D (opening_cut result) from to before after it = adds_none before after (made_by (opening_cut result) from to before after it)

pub acknowledged_there : (D : Type 0) → AcknowledgedStays D
acknowledged_there D one two move from to before after all =
    let parts = split one (move ∷ two) from to before after all in
    let place = parts.0 in
    let earlier = parts.1 in
    let rest = parts.3 in
    let first = by_move D move place rest.0 earlier rest.1 rest.2 in
    let later = made_stays D two rest.0 to rest.1 after rest.3 in (
      place,
      earlier,
      parts.2,
      (
        first.0 ++ later.0,
        later.1 ∙ ap (λ (commits : List Commit). commits ++ later.0) first.1 ∙ append_assoc (earlier.made ++ acknowledged_by move) first.0 later.0,
      ),
    )

not_there : (commit : Commit) (earlier later : List Commit) → [] ≡ earlier ++ (commit ∷ []) ++ later → ⊥
not_there commit [] later same = cc
not_there commit (first ∷ earlier) later same = cc

pub forgets : (D : Type 0) → Forgets D
forgets D call commit core from to after is all none =
    let there = acknowledged_there D [] (crashes ∷ opens (Ok core) ∷ []) (whole call) from to begun after all in
    let earlier = there.1 in
    not_there commit earlier.made there.3.0 (sym none ∙ there.3.1 ∙ ap (λ (commits : List Commit). earlier.made ++ commits ++ there.3.0) is)
