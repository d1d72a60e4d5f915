-- The Rust values that a tree is made of, at no particular place in memory.
use Rattle.std.proofs.Common.{◌^◌, ◌<◌, List, length, refl, arith}
use Rattle.std.specs.Prelude.{Vec}
use Rattle.std.specs.declared.alloc.Global.{Global}
use denote.RawPtr.{null_ptr}
use Rattle.steptree.specs.declared.step.Name.{Name}
use Rattle.syntax.specs.Grammar.{Named}

abbrev heap : Global
heap = record { memory = record { seal = tt } }

-- a vector of these
abbrev pub vec_of : {X : Type 0} (items : List X) → length items < 2 ^ 63 → Vec X Global
vec_of items fits = record { ptr = null_ptr; len = length items; cap = length items; alloc = heap; items = items; ok = (refl, omega arith); small = fits }

-- the name of a derivation
abbrev pub name_of : Named → Name
name_of it = record { text = record { ref_ptr = (0, 0); now = it.0 }; place = it.1 }
