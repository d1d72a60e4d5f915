use Rattle.std.proofs.Common.{◌≡◌, ℤ, List, true, ap, sym, ◌∙◌}
use Rattle.terms.specs.declared.name.Addr.{Addr}
use Rattle.steptree.specs.declared.body.Body.{Body}
use Rattle.steptree.specs.Bodies.{Ending, Means, ending_of}
use Rattle.steptree.specs.Laws.{Found}
use Rattle.steptree.proofs.Trees.{bodies}
use Rattle.steptree.proofs.TreeLaws.{ends_somehow, ends_once}
use Rattle.steptree.proofs.laws.ends_once.Goals as goal

over_pairs : (body : Body) (key : List ℤ) (pairs : Addr → ℤ → Type 0) → ((address : Addr) (v w : ℤ) → pairs address v → pairs address w → v ≡ w)
    → (one two : Ending) → Means body key pairs one → Means body key pairs two → one ≡ two
over_pairs body key pairs one_value one two is is' =
    let tree = bodies body key in
    ends_once pairs one_value tree.0 is.reads is'.reads one two is.among is'.among
    (sym (ap ending_of (tree.1 is.reads)) ∙ is.along) (sym (ap ending_of (tree.1 is'.reads)) ∙ is'.along) is.needs is'.needs

pub returns-clause-some : goal.returns-clause-some
returns-clause-some c body key look =
    let tree = bodies body key in
    let is = ends_somehow look tree.0 in
    (is.0, record { reads = is.1; among = is.2; along = ap ending_of (tree.1 is.1) ∙ is.3; needs = is.4 })

pub returns-clause-one : goal.returns-clause-one
returns-clause-one c body key look = over_pairs body key (Found look) (λ address v w one two. cc)

pub returns-clause-pairs : goal.returns-clause-pairs
returns-clause-pairs c body key pairs = over_pairs body key (λ a v. pairs a v ≡ true)
