use Rattle.std.proofs.Common.{◌≡◌, drop}
use Rattle.steptree.specs.Tree.{Number}
use Rattle.steptree.specs.Values.{value_of}
use Rattle.steptree.specs.Executed.{pair_of, chained}
use Rattle.steplang.proofs.value.evaluate_chain.Given as goal

-- the chain has the value of the links that are left, on the value so far
abbrev pub invariant-loop-link : goal.invariant-loop-link
invariant-loop-link l = value_of (chained (pair_of l.fn.first) l.fn.links) l.variables ≡ value_of (chained (Number l.value) (drop l.link-index l.links)) l.variables
