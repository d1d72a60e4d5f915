use Rattle.std.proofs.Common.{◌≡◌, ◌∙◌, ◌∷◌, [], ap, sym, subst, rules, true, to_z, of_z, w64}
use Rattle.std.proofs.lemmas.Bool.{false≢true}
use Rattle.std.proofs.lemmas.Int.{to_z-of_z}
use Rattle.terms.specs.declared.name.Addr.{Addr}
use Rattle.terms.specs.declared.put.Put.{Put}
use Rattle.terms.specs.declared.put.Put.TheVariants as put
use Rattle.terms.specs.Same.{is_same, same_address, same_itself}
use Rattle.graph.specs.Fits.{addresses, IsIn}
use Rattle.machine.proofs.Absent.{nowhere}
use Rattle.machine.proofs.Ending.{the_only}
use Rattle.commit.proofs.said_items.put_at.Goals as goal

pub returns-then-is_same : goal.returns-then-is_same
returns-then-is_same c =
    let same : c.in-Item.at ≡ c.args.address.now = same_address c.in-Item.at c.args.address.now (sym c.is_same.ensures ∙ c.if-is_same.true) in
    let value : to_z w64 (of_z w64 c.in-Item.value) ≡ c.in-Item.value = to_z-of_z w64 c.in-Item.value (search rules) in
    ([], [], ap (λ (p : Put). p ∷ []) (c.in-Item.is ∙ (λ i. put.Item (same i) (sym value i))))

pub returns-else-is_same : goal.returns-else-is_same
returns-else-is_same c is =
    let here = subst (λ (p : Put). IsIn c.args.address.now (addresses (p ∷ []))) c.in-Item.is is in
    let same = the_only c.args.address.now c.in-Item.at here in
    let yes_ : is_same c.in-Item.at c.args.address.now ≡ true = subst (λ (other : Addr). is_same c.in-Item.at other ≡ true) (sym same) (same_itself c.in-Item.at) in
    false≢true (sym (sym c.is_same.ensures ∙ c.if-is_same.false) ∙ yes_)

pub returns-in-Tag : goal.returns-in-Tag
returns-in-Tag c is =
    let here = subst (λ (p : Put). IsIn c.args.address.now (addresses (p ∷ []))) c.in-Tag.is is in
    nowhere c.args.address.now here.0 here.1 here.2
