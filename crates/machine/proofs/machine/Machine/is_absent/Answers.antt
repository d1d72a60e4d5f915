use Rattle.std.proofs.Common.{◌≡◌, ◌∙◌, sym, subst, true, rules}
use Rattle.items.specs.Held.{item_at}
use Rattle.machine.specs.Machine.{Machine}
use Rattle.holdings.specs.ImageLaws.{is_item}
use Rattle.machine.proofs.Coming.{item_is_there}
use Rattle.machine.proofs.machine.Machine.is_absent.Goals as goal

pub returns-in-Some-clause-there : goal.returns-in-Some-clause-there
returns-in-Some-clause-there c =
    let there = subst (λ (m : Machine). is_item (item_at m.memory.items c.args.addr) c.in-Some.there c.in-Some.field-0-1 ≡ true) c.self.view_is
    (item_is_there c.facts_are_told_apart.ensures.one c.args.addr (item_at c.self.inside.memory.items c.args.addr) c.in-Some.there c.in-Some.field-0-1 (sym c.get.ensures ∙ c.in-Some.is)) in
    (c.in-Some.field-0-1, search (rules, there))
