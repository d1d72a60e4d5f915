use Rattle.std.proofs.Common.{ℤ, List, map, sym, subst}
use Rattle.terms.specs.declared.name.Addr.{Addr}
use Rattle.terms.specs.declared.producer.Producer.{Producer}
use Rattle.machine.specs.Counts.{AreItemsOf}
use Rattle.machine.specs.Machine.{Machine, facts}
use Rattle.machine.specs.Memory.{facts_of}
use Rattle.machine.proofs.Holding.{are_items_of}
use Rattle.machine.proofs.machine.Machine.items_of.Goals as goal

pub returns : goal.returns
returns c =
    let m = c.self.inside.memory in
    let told = λ (list : List (Addr × (ℤ × Producer))). map (λ (entry : Addr × (ℤ × Producer)). (entry.0, entry.1.0)) list in
    subst (λ (s : Machine). AreItemsOf (facts s) c.args.collection (told c.walk_of.result)) c.self.view_is
    (subst (λ (list : List (Addr × (ℤ × Producer))). AreItemsOf (facts_of m) c.args.collection (told list)) (sym c.walk_of.ensures) (are_items_of c.facts_are_told_apart.ensures.one m c.args.collection))
