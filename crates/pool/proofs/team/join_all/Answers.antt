use Rattle.std.proofs.Common.{rules, ◌≡◌, ◌+◌, ◌≤◌, ⊎_elim, List, Some, true, sym, subst, vec_capacity, vec_len}
use Rattle.passes.specs.Known.{Known}
use Rattle.pool.specs.declared.worker.Met.TheVariants.{Asked as MetAsked, Full as MetFull}
use Rattle.pool.specs.Worked.{OneSawFull}
use Rattle.pool.proofs.Teams.{one_before, one_last}
use Rattle.pool.proofs.team.join_all.Goals as goal

pub loop-handle-preserved : goal.loop-handle-preserved
loop-handle-preserved g c =
    let before = c.loop-handle.invariant in
    let room : vec_len c.pop.new.self + vec_len c.push_reserved.new.self ≤ vec_capacity c.push_reserved.new.self = search rules in
    record {
      room = room;
      asked = λ is. ⊎_elim
          (λ (was : c.loop-handle.causes.asked ≡ true). before.asked was)
          (λ (met : c.join-pass.result.met ≡ Some MetAsked). c.join-pass.ensures.0 met)
          (c.also-causes.ensures.asked.0 is);
      full = λ is. subst (λ (passes : List Known). OneSawFull g.J.Naming.opening passes) (sym c.push_reserved.ensures.items)
          (⊎_elim
          (λ (was : c.loop-handle.causes.full ≡ true). one_before g.J.Naming.opening c.loop-handle.passes.items c.join-pass.result.pass (before.full was))
          (λ (met : c.join-pass.result.met ≡ Some MetFull). one_last g.J.Naming.opening c.loop-handle.passes.items c.join-pass.result.pass (c.join-pass.ensures.1 met))
          (c.also-causes.ensures.full.0 is));
    }
