use Rattle.std.proofs.Common.{◌≢◌, inl, inr, ℕ, ◌+◌, List, [], ◌∷◌, length, refl, sym, ap, subst, ◌∙◌, arith, rules}
use Rattle.disk.specs.declared.side.Side.{Side}
use Rattle.disk.specs.File.{at_rest}
use Rattle.sides.specs.Side.{behind_gate}
use Rattle.vault.specs.Store.{new_side}
use Rattle.vault.specs.Store.{IsSame}
use Rattle.vault.proofs.FirstBytes.{gates_turned}
use Rattle.vault.proofs.TurnedSides.{not_other}
use Rattle.vault.proofs.TurnedLengths.{end_without_records, fits}
use Rattle.vault.proofs.Ready.{written_is_ready}
use Rattle.vault.proofs.RefusedCalls.{refused_turns}
use Rattle.vault.proofs.TurnedStores.{turning_moments, turned_holds}
use Rattle.vault.proofs.vault.Vault.turn_by.Goals as goal
use Rattle.sides.specs.declared.gate.TheConstants.{FORMAT}

-- ---- before the first call of the disk

pub returns-then-self-clause-turns : goal.returns-then-self-clause-turns
returns-then-self-clause-turns g c honest graph E X holds =
    let vault = c.args.self.now in
    let same : IsSame vault vault = record { disk = refl; side = refl; end = refl; generation = refl; text = refl; halted = refl } in
    refused_turns g.D.Disk vault vault same (g.met.D.Disk.at_now honest) graph E X holds (g.S.ImageSource.left c.args.source) _

pub returns-then-self-2-clause-turns : goal.returns-then-self-2-clause-turns
returns-then-self-2-clause-turns g c honest graph E X holds =
    let vault = c.args.self.now in
    let same : IsSame vault vault = record { disk = refl; side = refl; end = refl; generation = refl; text = refl; halted = refl } in
    refused_turns g.D.Disk vault vault same (g.met.D.Disk.at_now honest) graph E X holds (g.S.ImageSource.left c.args.source) _

pub returns-in_default-clause-turns : goal.returns-in_default-clause-turns
returns-in_default-clause-turns g c honest graph E X holds =
    let vault = c.args.self.now in
    let same : IsSame vault vault = record { disk = refl; side = refl; end = refl; generation = refl; text = refl; halted = refl } in
    refused_turns g.D.Disk vault vault same (g.met.D.Disk.at_now honest) graph E X holds (g.S.ImageSource.left c.args.source) _

-- ---- after it

pub returns-in-Ok-clause-turns : goal.returns-in-Ok-clause-turns
returns-in-Ok-clause-turns g c honest graph E X holds =
    let image = g.S.ImageSource.left c.args.source in
    let text = c.args.self.now.text.items in
    let it = fits (c.args.self.now.generation + 1) text image c.in-Some.end c.len.result c.length.result c.in-Some.ensures (omega (arith, c.len.ensures, c.deref.ensures.len, ap length c.deref.ensures.value)) c.length.ensures in
    let wrote = c.in-Ok.ensures.written honest in
    record {
      turned = λ spells. turned_holds g.D.Disk.files c.sides_go_on.ensures.as_set c.sides_go_on.ensures.fits c.sides_go_on.ensures.begins c.fitting.ensures.state_as_set c.one_meaning_of_a_side.ensures.generation
          c.args.self.now graph E X image holds spells it.short (omega (arith, c.if-self-2.false, holds.is_live.is_side.small)) _ c.other-side.ensures
          (wrote.written ∙ ap (λ (l : List ℕ). at_rest (new_side (c.args.self.now.generation + 1) l image)) c.deref.ensures.value) wrote.other refl it.ends refl;
      any_moment = λ spells there. turning_moments g.D.Disk.files c.sides_go_on.ensures.as_set c.sides_go_on.ensures.fits c.sides_go_on.ensures.begins c.fitting.ensures.state_as_set c.one_meaning_of_a_side.ensures.generation
          c.args.self.now graph E X image holds spells it.short (omega (arith, c.if-self-2.false, holds.is_live.is_side.small)) g.D.Disk.moment g.D.Disk.left_at c.write_next.new.disk c.other-side.result c.other-side.ensures _
          (ap (λ (l : List ℕ). behind_gate FORMAT (c.args.self.now.generation + 1) l image (0 ∷ [])) c.deref.ensures.value)
          (wrote.any_moment (subst (λ (s : Side). (g.D.Disk.files c.args.self.now.disk s).content ≢ []) (sym c.other-side.ensures) there));
      gates = λ gates. gates_turned g.D.Disk.files g.D.Disk.moment g.D.Disk.left_at c.args.self.now graph E X holds gates c.write_next.new.disk c.other-side.result _ (wrote.any_moment (gates c.other-side.result));
    }

pub returns-in-Err-clause-turns : goal.returns-in-Err-clause-turns
returns-in-Err-clause-turns g c honest graph E X holds =
    let image = g.S.ImageSource.left c.args.source in
    let text = c.args.self.now.text.items in
    let it = fits (c.args.self.now.generation + 1) text image c.in-Some.end c.len.result c.length.result c.in-Some.ensures (omega (arith, c.len.ensures, c.deref.ensures.len, ap length c.deref.ensures.value)) c.length.ensures in
    let wrote = c.write_next.ensures.written honest in
    record {
      turned = λ spells. tt;
      any_moment = λ spells there. turning_moments g.D.Disk.files c.sides_go_on.ensures.as_set c.sides_go_on.ensures.fits c.sides_go_on.ensures.begins c.fitting.ensures.state_as_set c.one_meaning_of_a_side.ensures.generation
          c.args.self.now graph E X image holds spells it.short (omega (arith, c.if-self-2.false, holds.is_live.is_side.small)) g.D.Disk.moment g.D.Disk.left_at c.write_next.new.disk c.other-side.result c.other-side.ensures _
          (ap (λ (l : List ℕ). behind_gate FORMAT (c.args.self.now.generation + 1) l image (0 ∷ [])) c.deref.ensures.value)
          (wrote.any_moment (subst (λ (s : Side). (g.D.Disk.files c.args.self.now.disk s).content ≢ []) (sym c.other-side.ensures) there));
      gates = λ gates. gates_turned g.D.Disk.files g.D.Disk.moment g.D.Disk.left_at c.args.self.now graph E X holds gates c.write_next.new.disk c.other-side.result _ (wrote.any_moment (gates c.other-side.result));
    }

pub returns-in-Ok-clause-written : goal.returns-in-Ok-clause-written
returns-in-Ok-clause-written g c honest =
    let image = g.S.ImageSource.left c.args.source in
    let text = c.args.self.now.text.items in
    let it = fits (c.args.self.now.generation + 1) text image c.in-Some.end c.len.result c.length.result c.in-Some.ensures (omega (arith, c.len.ensures, c.deref.ensures.len, ap length c.deref.ensures.value)) c.length.ensures in
    let wrote = c.in-Ok.ensures.written honest in
    let written = wrote.written ∙ ap (λ (l : List ℕ). at_rest (new_side (c.args.self.now.generation + 1) l image)) c.deref.ensures.value in
    record {
      written = ap (g.D.Disk.files c.write_next.new.disk) (sym c.other-side.ensures) ∙ written;
      live = wrote.other c.args.self.now.journal.side (subst (λ (s : Side). c.args.self.now.journal.side ≢ s) (sym c.other-side.ensures) (not_other c.args.self.now.journal.side));
      ready = λ working. written_is_ready g.D.Disk.files c.args.self.now.disk _ _ (c.requires.store honest working).rests (it.ends ∙ sym (end_without_records (c.args.self.now.generation + 1) text image)) written wrote.other;
    }

pub returns-in-Ok-clause-refused : goal.returns-in-Ok-clause-refused
returns-in-Ok-clause-refused g c =
    let image = g.S.ImageSource.left c.args.source in
    let text = c.args.self.now.text.items in
    let it = fits (c.args.self.now.generation + 1) text image c.in-Some.end c.len.result c.length.result c.in-Some.ensures (omega (arith, c.len.ensures, c.deref.ensures.len, ap length c.deref.ensures.value)) c.length.ensures in
    record {
      last = λ working last. absurd (omega (arith, c.if-self-2.false, last));
      full = record { why = search rules; told = λ working cause. absurd (elim cause [ inl last ↦ omega (arith, c.if-self-2.false, last) | inr too_long ↦ it.below too_long ]) };
      no_memory = search rules;
    }

pub returns-in-Err-clause-refused : goal.returns-in-Err-clause-refused
returns-in-Err-clause-refused g c =
    let image = g.S.ImageSource.left c.args.source in
    let text = c.args.self.now.text.items in
    let it = fits (c.args.self.now.generation + 1) text image c.in-Some.end c.len.result c.length.result c.in-Some.ensures (omega (arith, c.len.ensures, c.deref.ensures.len, ap length c.deref.ensures.value)) c.length.ensures in
    record {
      last = λ working last. absurd (omega (arith, c.if-self-2.false, last));
      full = record { why = search rules; told = λ working cause. absurd (elim cause [ inl last ↦ omega (arith, c.if-self-2.false, last) | inr too_long ↦ it.below too_long ]) };
      no_memory = search rules;
    }
