use Rattle.std.proofs.Common.{◌≡◌, length}
use Rattle.std.specs.List.{AllByRecursion}
use Rattle.maps.specs.Marks.{IsPage, left_in, seen_pages}
use Rattle.maps.proofs.key_walk.KeyWalkIterator.next.Given as goal

-- the entries that are left are the same as before
abbrev pub invariant-loop-page : goal.invariant-loop-page
invariant-loop-page g l = record {
  left : left_in l.self-inside.place (seen_pages g.V.Stored.said l.self-inside.words.now l.self-inside.pages.now) ≡ left_in l.initial.self-inside.place (seen_pages g.V.Stored.said l.initial.self-inside.words.now l.initial.self-inside.pages.now);
  held : AllByRecursion (IsPage g.V.Stored.said g.V.Stored.MOST l.self-inside.words.now) l.self-inside.pages.now;
}

abbrev pub decreases-loop-page : goal.decreases-loop-page
decreases-loop-page g l = length l.self-inside.pages.now
