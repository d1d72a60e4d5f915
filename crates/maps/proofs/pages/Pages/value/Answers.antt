use Rattle.std.proofs.Common.{◌∙◌, ap, sym, subst, Some}
use Rattle.maps.specs.Paged.{IsFound}
use Rattle.maps.proofs.pages.Pages.value.Goals as goal

pub returns-in-At : goal.returns-in-At
returns-in-At g c = λ key is.
    let at = subst (IsFound c.args.self.now.pages key) c.in-At.is is in
    ap Some (c.value_at.ensures (key, c.value_at.result)) ∙ sym (at.found (key, c.value_at.result))
