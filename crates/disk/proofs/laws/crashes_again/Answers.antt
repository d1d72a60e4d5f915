use Rattle.std.proofs.Common.{◌≡◌, ℕ, List, subst, sym}
use Rattle.std.proofs.lemmas.List.Elements.{All-weaker}
use Rattle.disk.specs.File.{MayLeave}
use Rattle.disk.proofs.Outcomes.{each_may, may_each, untouched_only}
use Rattle.disk.proofs.laws.crashes_again.Goals as goal

pub returns-clause-alike : goal.returns-clause-alike
returns-clause-alike c file left = (each_may file left, may_each file left)

pub returns-clause-untouched : goal.returns-clause-untouched
returns-clause-untouched c file none reads left = (
  λ crashes. All-weaker (MayLeave file.durable) (λ (bytes : List ℕ). bytes ≡ file.content) (λ bytes may. untouched_only file.durable none file.content bytes reads may) left (each_may file left crashes),
  λ all. may_each file left (All-weaker (λ (bytes : List ℕ). bytes ≡ file.content) (MayLeave file.durable) (λ bytes same. subst (MayLeave file.durable) (sym same) reads) left all),
)
