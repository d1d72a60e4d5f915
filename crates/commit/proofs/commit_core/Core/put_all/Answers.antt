use Rattle.std.proofs.Common.{◌≡◌, ◌∙◌, ◌≤◌, ℕ, List, ap, arith, false, length, refl, rules, subst, sym, take}
use Rattle.terms.specs.declared.event.Event.{Event}
use Rattle.machine.specs.Machine.{facts as facts_of}
use Rattle.machine.specs.Puts.{PutsTogether}
use Rattle.commit.specs.Core.{Core, facts, graph, is_halted}
use Rattle.commit.specs.PutsAll.{TriesPuts}
use Rattle.commit.proofs.Answered.{if_ok}
use Rattle.commit.proofs.GoingOn.{nothing_came}
use Rattle.commit.proofs.PutsTogether.{counted, nothing_tried, puts_go_on}
use Rattle.commit.proofs.commit_core.Core.put_all.Goals as goal

pub returns-then-count-eq0 : goal.returns-then-count-eq0
returns-then-count-eq0 g c =
    let core = c.args.self.now in
    let m = c.self.inside.machine in
    let puts = c.args.puts.items in
    let goes : c.self.inside.vault.halted ≡ false = search rules in
    let working : is_halted core ≡ false = ap is_halted (sym c.self.view_is) ∙ goes in
    let none : c.look_at_puts-count.result ≡ 0 = omega (arith, c.if-count-eq0.true) in
    let looked : PutsTogether (graph core) (facts core) puts 0 =
    subst (λ (old : Core g.row.D.Denot). PutsTogether (graph old) (facts old) puts 0) c.self.view_is
    (subst (λ (list : List Event). PutsTogether m.graph (facts_of m) list 0) c.deref.ensures.value (subst (λ (n : ℕ). PutsTogether m.graph (facts_of m) c.deref.result.now n) none c.look_at_puts-count.ensures))
    in
    record {
      count = 0;
      together = λ _. looked;
      told = refl;
      tries = nothing_tried g.D.Disk core working (c.is_kept.ensures.settled working)
          (λ on. (c.stores_go_on.ensures.rest on).held) (λ on. (c.stores_go_on.ensures.gates on).rest) c.is_kept.ensures.kept;
      goes_on = nothing_came g.D.Disk (λ on. (c.stores_go_on.ensures.rest on).commits) (λ on. (c.stores_go_on.ensures.gates on).rest) core c.is_kept.ensures.kept c.is_kept.ensures.settled;
    }

pub returns : goal.returns
returns g c =
    let old = c.args.self.now in
    let new = c.put_together-answer.new.self in
    let m = c.self.inside.machine in
    let puts = c.args.puts.items in
    let count = c.look_at_puts-count.result in
    let commit = c.truncate.new.self.items in
    let result = c.put_together-answer.result in
    let same : commit ≡ take count puts = c.truncate.ensures.items in
    let looked : PutsTogether (graph old) (facts old) puts count =
    subst (λ (core : Core g.row.D.Denot). PutsTogether (graph core) (facts core) puts count) c.self.view_is
    (subst (λ (list : List Event). PutsTogether m.graph (facts_of m) list count) c.deref.ensures.value c.look_at_puts-count.ensures)
    in
    let many : length (take count puts) ≡ count = counted count puts looked.within in
    let some : 1 ≤ length (take count puts) = omega (arith, many, c.if-count-eq0.false) in
    let tried = subst (λ (list : List Event). TriesPuts g.D.Disk old new list result) same c.put_together-answer.ensures.tries in
    record {
      count = count;
      together = λ _. looked;
      told = if_ok result (λ answer. answer ≡ length commit) (λ answer. answer ≡ count) (λ answer is. is ∙ ap (λ (list : List Event). length list) same ∙ many) c.put_together-answer.ensures.told;
      tries = tried;
      goes_on = puts_go_on g.D.Disk c.taken_in_turn.ensures (λ _. c.stores_go_on.ensures.calls.append_leaves) (λ on. (c.stores_go_on.ensures.rest on).held)
          (λ on. (c.stores_go_on.ensures.rest on).commits) (λ on. (c.stores_go_on.ensures.gates on).rest) old new (take count puts) result some looked.legal c.is_kept.ensures.settled c.is_kept.ensures.kept c.is_kept-2.ensures.kept tried;
    }
