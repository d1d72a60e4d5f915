use Rattle.std.proofs.Common.{◌≡◌, ◌≤◌, ◌+◌, drop}
use Rattle.graph.specs.Reads.{walked}
use Rattle.graph.proofs.place.place.Given as goal

-- the bytes that are left lead from here to the result; line and column are at most the number of bytes so far plus 1
abbrev pub invariant-loop-byte : goal.invariant-loop-byte
invariant-loop-byte l = (walked 1 1 l.byte-items ≡ walked l.line l.column (drop l.byte-index l.byte-items)) × (l.line ≤ l.byte-index + 1) × (l.column ≤ l.byte-index + 1)
