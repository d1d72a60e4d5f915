-- A chain with one more link.
use Rattle.std.proofs.Common.{◌≡◌, List, [], ◌∷◌, ◌++◌, refl}
use Rattle.steptree.specs.Tree.{Expression}
use Rattle.steptree.specs.declared.code.Link.{Link}
use Rattle.steptree.specs.Executed.{linked, chained}

pub one_more : (before : Expression) (links : List Link) (link : Link) → chained before (links ++ link ∷ []) ≡ linked (chained before links) link
one_more before [] link = refl
one_more before (first ∷ links) link = one_more (linked before first) links link
