use Rattle.std.proofs.Common.{ℕ, ap, subst, ◌∙◌}
use Rattle.std.specs.Prelude.{Option, Some}
use Rattle.disk.specs.declared.side.Side.TheVariants.{A, B}
use Rattle.vault.specs.Opened.{IsGenerationOf}
use Rattle.vault.proofs.OpenedSides.{one_of_both}
use Rattle.vault.proofs.heads.ahead.Goals as goal

pub returns-then-a-b-clause-nothing : goal.returns-then-a-b-clause-nothing
returns-then-a-b-clause-nothing c contents a b =
    one_of_both c.one_meaning_of_a_side.ensures.generation c.one_meaning_of_a_side.ensures.one_generation contents c.in-Some-Some.b
    (subst (λ (o : Option ℕ). IsGenerationOf o (contents A)) (c.in-Some-Some.is-0 ∙ ap (λ (n : ℕ). Some n) c.if-a-b.true) a)
    (subst (λ (o : Option ℕ). IsGenerationOf o (contents B)) c.in-Some-Some.is-1 b)
