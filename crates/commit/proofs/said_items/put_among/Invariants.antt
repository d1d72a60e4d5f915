use Rattle.std.proofs.Common.{ℤ, None, Some, drop}
use Rattle.commit.specs.PutAs.{IsPutAs}
use Rattle.commit.proofs.said_items.put_among.Given as goal

-- if none of what is left puts an item there, none does; and what one of them puts, one of all puts
abbrev pub invariant-loop-number : goal.invariant-loop-number
invariant-loop-number l =
    (IsPutAs (drop l.number l.fn.puts) l.fn.address None → IsPutAs l.fn.puts l.fn.address None)
    × ((value : ℤ) → IsPutAs (drop l.number l.fn.puts) l.fn.address (Some value) → IsPutAs l.fn.puts l.fn.address (Some value))
