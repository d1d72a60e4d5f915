use Rattle.std.proofs.Common.{sym, subst, [], ◌∷◌, MatchBool}
use Rattle.terms.specs.declared.put.Put.{Put}
use Rattle.machine.specs.Absence.{AreAllAbsent, IsOneThere}
use Rattle.machine.proofs.Absent.{none_absent, told_one}
use Rattle.machine.proofs.absence.is_absent.Goals as goal

pub returns-in-Item : goal.returns-in-Item
returns-in-Item c =
    let items = c.args.items.now in
    subst (λ (p : Put). MatchBool c.is_none.result (AreAllAbsent items (p ∷ [])) (IsOneThere items (p ∷ []))) (sym c.in-Item.is) (told_one items c.in-Item.addr c.in-Item.field-1 c.get.result c.is_none.result c.get.ensures c.is_none.ensures)

pub returns-in-Tag : goal.returns-in-Tag
returns-in-Tag c = subst (λ (p : Put). AreAllAbsent c.args.items.now (p ∷ [])) (sym c.in-Tag.is) (none_absent c.args.items.now c.in-Tag.field-0)
