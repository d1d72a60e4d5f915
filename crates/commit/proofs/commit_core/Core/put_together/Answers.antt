use Rattle.std.proofs.Common.{◌≡◌, Result, Err, sym, subst}
use Rattle.vault.specs.declared.error.VaultError.TheVariants.{NoMemory}
use Rattle.commit.specs.declared.error.CoreError.{CoreError}
use Rattle.commit.specs.declared.error.CoreError.TheVariants.{Store}
use Rattle.commit.specs.PutsAll.{TriesPuts}
use Rattle.commit.proofs.PutsTogether.{no_room_for, tries}
use Rattle.commit.proofs.commit_core.Core.put_together.Goals as goal

pub returns-in-Ok-clause-tries : goal.returns-in-Ok-clause-tries
returns-in-Ok-clause-tries g c =
    let put = c.commit_puts.ensures in
    tries g.D.Disk c.args.self.now c.make_room_for_ends.new.self c.make_room_for_ends.ensures.same c.commit_puts.new.self c.args.puts.items c.commit_puts.result c.requires.some
    put.ok put.err put.refused.refused put.refused.full put.halts.halts put.halts.doubt put.moments

no_memory : {T : Type 0} (error : CoreError) → ◌≡◌ {A = Result T CoreError} (Err error) (Err (Store NoMemory)) → error ≡ Store NoMemory
no_memory error is = cc

pub returns-in-Err-clause-tries : goal.returns-in-Err-clause-tries
returns-in-Err-clause-tries g c =
    subst (λ (error : CoreError). TriesPuts g.D.Disk c.args.self.now c.make_room_for_ends.new.self c.args.puts.items (Err error)) (sym (no_memory c.in-Err.error c.in-Err.ensures.err))
    (no_room_for g.D.Disk c.args.self.now c.make_room_for_ends.new.self c.make_room_for_ends.ensures.same c.args.puts.items c.requires.some c.requires.working
    (λ on. (c.stores_go_on.ensures.rest on).held) (λ on. (c.stores_go_on.ensures.gates on).rest) c.is_kept.ensures.kept)
