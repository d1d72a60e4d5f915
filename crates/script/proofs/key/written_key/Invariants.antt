use Rattle.std.proofs.Common.{◌≡◌, ℤ, List, length}
use Rattle.script.specs.Lexemes.{IsSoundCursor, left}
use Rattle.script.specs.Requests.{HasRead, key_of, with_components}
use Rattle.script.proofs.key.written_key.Given as goal

-- the components that were read, and those that are still to come
abbrev pub invariant-loop-close : goal.invariant-loop-close
invariant-loop-close l = record {
  sound : IsSoundCursor l.cursor;
  key : List ℤ;
  read : HasRead l.written key;
  to_come : with_components key (key_of l.mark l.close (left l.cursor)) ≡ key_of 58 l.close (left l.fn.cursor);
}

abbrev pub decreases-loop-close : goal.decreases-loop-close
decreases-loop-close l = length (left l.cursor)
