use Rattle.std.proofs.Common.{rules, Bool}
use Rattle.std.specs.Ordering.{is_lt}
use Rattle.std.proofs.lemmas.Fn.{always_returns_same}
use Rattle.std.proofs.lemmas.List.Sorted.{ranks_by}
use Rattle.terms.specs.declared.name.Addr.{Addr}
use Rattle.terms.specs.declared.name.Inst.{Inst}
use Rattle.session.specs.Answers.{instance_cmp}
use Rattle.session.proofs.ByName.{instances_total}
use Rattle.session.proofs.waiting.sort_by_name.Goals as goal

pub returns-clause-rises : goal.returns-clause-rises
returns-clause-rises c =
    let before : Inst × Addr → Inst × Addr → Bool = λ one two. is_lt (instance_cmp c.args.graph.now one.0 two.0) in
    c.sort_unstable_by.ensures.sorted before (ranks_by (instances_total c.args.graph.now) (λ (entry : Inst × Addr). entry.0)) (always_returns_same _ _ _ (λ a r f' called. search rules))
