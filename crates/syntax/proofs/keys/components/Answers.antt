use Rattle.std.proofs.Common.{◌≡◌, ◌++◌, ◌∷◌, [], refl, sym, subst, rules}
use Rattle.syntax.specs.Expected.{never}
use Rattle.syntax.specs.Parsed.{left}
use Rattle.syntax.specs.Keys.{AreComponents, ComponentsSoFar}
use Rattle.syntax.proofs.KeyParts.{no_components, first_component, one_component, last_component, next_component}
use Rattle.syntax.proofs.keys.components.Goals as goal

pub returns-then-not-takes-clause-reads : goal.returns-then-not-takes-clause-reads
returns-then-not-takes-clause-reads c =
    subst (λ items. AreComponents items (left c.args.cursor.now) (left c.takes.new.self)) (sym c.new-components.ensures.items) (no_components _ _ c.if-not-takes.ensures.taken)

pub loop-components-init : goal.loop-components-init
loop-components-init c =
    subst (ComponentsSoFar (left c.args.cursor.now) (left c.takes.new.self)) (sym c.new-components.ensures.items) (first_component _ _ c.if-not-takes.ensures.taken)

pub returns-then-not-takes-2-clause-reads : goal.returns-then-not-takes-2-clause-reads
returns-then-not-takes-2-clause-reads c =
    let pushed : c.push_reserved.new.self.items ≡ c.loop-components.components.items ++ c.in_ok-component.component ∷ [] = search rules in
    subst (λ items. AreComponents items (left c.args.cursor.now) (left c.takes-in-loop-components.new.self)) (sym pushed)
    (last_component (c.loop-components.components.items ++ c.in_ok-component.component ∷ [])
    (one_component c.loop-components.components.items c.in_ok-component.component c.loop-components.invariant (c.in_ok-component.ensures.reads never refl tt)) c.if-not-takes-2.ensures.taken)

pub loop-components-preserved : goal.loop-components-preserved
loop-components-preserved c =
    let pushed : c.push_reserved.new.self.items ≡ c.loop-components.components.items ++ c.in_ok-component.component ∷ [] = search rules in
    subst (ComponentsSoFar (left c.args.cursor.now) (left c.takes-in-loop-components.new.self)) (sym pushed)
    (next_component (c.loop-components.components.items ++ c.in_ok-component.component ∷ [])
    (one_component c.loop-components.components.items c.in_ok-component.component c.loop-components.invariant (c.in_ok-component.ensures.reads never refl tt)) c.if-not-takes-2.ensures.taken)
