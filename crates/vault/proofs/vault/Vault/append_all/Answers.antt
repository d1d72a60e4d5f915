use Rattle.std.proofs.Common.{◌≡◌, ◌≤◌, ◌+◌, ℕ, List, length, refl, sym, ap, subst, rules}
use Rattle.std.specs.Prelude.{Err}
use Rattle.journal.specs.declared.error.AppendError.{AppendError}
use Rattle.vault.specs.declared.error.VaultError.TheVariants.{Halted}
use Rattle.vault.specs.Calls.{LaysBehind}
use Rattle.vault.specs.Store.{IsSame}
use Rattle.vault.proofs.Appended.{alone}
use Rattle.vault.proofs.AppendedStores.{appended_adds, appended_writes, failed_adds}
use Rattle.vault.proofs.Grouped.{some_bytes}
use Rattle.vault.proofs.RefusedCalls.{full_before, refused_adds, refused_writes}
use Rattle.vault.proofs.vault.Vault.append_all.Goals as goal

-- ---- refused before any call of the disk

pub returns-then-self : goal.returns-then-self
returns-then-self g c =
    let vault = c.args.self.now in
    let same : IsSame vault vault = record { disk = refl; side = refl; end = refl; generation = refl; text = refl; halted = refl } in
    record {
      adds = λ honest gr E X holds. refused_adds g.D.Disk vault vault same (g.met.D.Disk.at_now honest) gr E X holds c.args.commit.now (Err Halted) refl;
      written = λ honest. refused_writes g.D.Disk vault vault same (c.requires.store honest) _ (Err Halted) refl;
      appended = search rules;
      full = search rules;
      halting = search rules;
    }

pub returns-in_err-spell_records : goal.returns-in_err-spell_records
returns-in_err-spell_records g c =
    let vault = c.args.self.now in
    record {
      adds = λ honest gr E X holds. refused_adds g.D.Disk vault _ (record { disk = refl; side = refl; end = refl; generation = refl; text = refl; halted = refl })
          (g.met.D.Disk.at_now honest) gr E X holds c.args.commit.now c.from_residual.result c.from_residual.ensures.0;
      written = λ honest. refused_writes g.D.Disk vault _ (record { disk = refl; side = refl; end = refl; generation = refl; text = refl; halted = refl })
          (c.requires.store honest) _ c.from_residual.result c.from_residual.ensures.0;
      appended = search rules;
      full = search rules;
      halting = search rules;
    }

pub returns-in-Err-Before : goal.returns-in-Err-Before
returns-in-Err-Before g c =
    let vault = c.args.self.now in
    let before = c.in-Err-Before.ensures.before in
    let moved = c.in-Err-Before.ensures.moved in
    let disk = before.same c.in-Err-Before.cause (ap (λ (refusal : AppendError). Err refusal) c.in-Err-Before.field-0-is) in
    record {
      adds = λ honest gr E X holds. refused_adds g.D.Disk vault _ (record { disk = disk; side = moved.side; end = moved.stays; generation = refl; text = refl; halted = refl })
          (g.met.D.Disk.at_now honest) gr E X holds c.args.commit.now (Err c.refusal.result) refl;
      written = λ honest. refused_writes g.D.Disk vault _ (record { disk = disk; side = moved.side; end = moved.stays; generation = refl; text = refl; halted = refl }) (c.requires.store honest) _ (Err c.refusal.result) refl;
      appended = search rules;
      full = full_before _ _ _ c.in-Err-Before.cause c.in-Err-Before.field-0-is c.refusal.result vault.halted vault.journal.end _ _ (alone _ _ _ c.in_ok-spell_records.ensures.spelled c.clear.ensures.items) before c.refusal.ensures.full;
      halting = search rules;
    }

-- ---- and after it

pub append_all-requires-clause-some : goal.append_all-requires-clause-some
append_all-requires-clause-some g c =
    subst (λ (bytes : List ℕ). 1 ≤ length bytes) (sym (alone _ _ _ c.in_ok-spell_records.ensures.spelled c.clear.ensures.items)) (some_bytes c.args.commit.now c.requires.some)

pub returns-in-Ok : goal.returns-in-Ok
returns-in-Ok g c =
    let vault = c.args.self.now in
    let commit = c.args.commit.now in
    let laws = c.sides_go_on.ensures in
    let zeros = c.zeros_behind-zeros.result in
    let bytes = c.spell_records.new.out.items in
    let are_all = alone _ _ _ c.in_ok-spell_records.ensures.spelled c.clear.ensures.items in
    let moved : c.append_all.new.self.end ≡ vault.journal.end + length bytes = c.in-Ok.ensures.moved.moved in
    let counted : c.len.result ≡ length bytes = search rules in
    record {
      adds = λ honest gr E X holds. appended_adds g.D.Disk vault _ commit bytes are_all zeros laws.journal laws.alike laws.grows c.fitting.ensures.as_listed gr E X holds
          c.in_ok-spell_records.ensures.in_range _ _ (c.in-Ok.ensures.appended honest) c.in-Ok.ensures.moved.side refl refl moved;
      written = λ honest. appended_writes g.D.Disk vault _ commit bytes are_all zeros _ _ (c.in-Ok.ensures.appended honest) (c.requires.store honest c.if-self.false) c.in-Ok.ensures.moved.side moved
          (subst (λ (count : ℕ). LaysBehind (vault.journal.end + count) zeros) counted c.zeros_behind-zeros.ensures.lays);
      appended = search rules;
      full = search rules;
      halting = search rules;
    }

pub returns-in-Err-Within : goal.returns-in-Err-Within
returns-in-Err-Within g c =
    let vault = c.args.self.now in
    let laws = c.sides_go_on.ensures in
    let are_all = alone _ _ _ c.in_ok-spell_records.ensures.spelled c.clear.ensures.items in
    record {
      adds = λ honest gr E X holds. failed_adds g.D.Disk vault _ c.args.commit.now c.spell_records.new.out.items are_all c.zeros_behind-zeros.result laws.journal laws.alike laws.grows
          c.fitting.ensures.as_listed gr E X holds c.in_ok-spell_records.ensures.in_range _ (c.in-Err-Within.ensures.appended honest) _;
      written = λ honest. record { written = tt; other = (c.in-Err-Within.ensures.appended honest).other; ready = λ working. absurd cc };
      appended = search rules;
      full = search rules;
      halting = search rules;
    }
