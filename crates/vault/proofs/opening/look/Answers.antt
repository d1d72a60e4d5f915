use Rattle.std.proofs.Common.{ℕ, List, inl, inr, ap, subst, sym, ◌∙◌, rules}
use Rattle.std.proofs.lemmas.Result.{IfOk-weaker, IfErr-weaker}
use Rattle.disk.specs.File.{File}
use Rattle.disk.specs.declared.side.Side.{Side}
use Rattle.sides.specs.Side.{HasGeneration, IsNoSide}
use Rattle.vault.specs.Opened.{contents_of}
use Rattle.vault.proofs.OpenedCalls.{then_reads}
use Rattle.vault.proofs.HeadsFaults.{told_on, same_error}
use Rattle.vault.proofs.ErredCalls.{ok_is_no_error, none_erred}
use Rattle.vault.proofs.OpenedErrors.{handed_on}
use Rattle.vault.proofs.OpenedSides.{ahead_is_none, ahead_is_found}
use Rattle.vault.proofs.opening.look.Goals as goal

pub returns-in_err-bytes-clause-only_reads : goal.returns-in_err-bytes-clause-only_reads
returns-in_err-bytes-clause-only_reads g c honest =
    then_reads g.D.Disk c.args.disk.now c.live_side.new.disk c.read_whole.new.disk (c.live_side.ensures.only_reads honest) (c.read_whole.ensures.only_reads honest)

pub returns-clause-only_reads : goal.returns-clause-only_reads
returns-clause-only_reads g c honest =
    then_reads g.D.Disk c.args.disk.now c.live_side.new.disk c.read_whole.new.disk (c.live_side.ensures.only_reads honest) (c.read_whole.ensures.only_reads honest)

pub returns-clause-found : goal.returns-clause-found
returns-clause-found g c honest =
    let files = g.D.Disk.files in
    let whole = c.in_ok-bytes.ensures.value honest ∙ ap (λ (f : File). f.content) (c.live_side.ensures.same honest c.in_ok-side.side) in
    IfOk-weaker c.found_in.result _ _
    (λ found it. ahead_is_found c.one_meaning_of_a_side.ensures.generation c.one_meaning_of_a_side.ensures.one_generation (contents_of (files c.args.disk.now)) c.in_ok-side.side c.in_ok-bytes.bytes.items found
    (c.in_ok-side.ensures.ahead honest) whole it)
    c.found_in.ensures.found

-- ---- what it says of the files

pub returns-in_err-side-clause-tells : goal.returns-in_err-side-clause-tells
returns-in_err-side-clause-tells g c honest = record {
  nothing = handed_on _ c.in_err-side.field-0.0 c.from_residual.result c.from_residual.ensures.1 (c.in_err-side.ensures.nothing honest);
  heads = λ fault it. elim (c.in_err-side.ensures.heads honest fault it) [
    | inl is ↦ inl (told_on c.in_err-side.field-0.0 _ c.from_residual.result c.from_residual.ensures.1 (same_error {T = Side} c.in_err-side.field-0.0 _ is))
    | inr erred ↦ inr erred
  ];
  cause = handed_on _ c.in_err-side.field-0.0 c.from_residual.result c.from_residual.ensures.1 (λ says. inl (c.in_err-side.ensures.cause honest says));
}

-- a side was found, so the heads have no fault
pub returns-in_err-bytes-clause-tells : goal.returns-in_err-bytes-clause-tells
returns-in_err-bytes-clause-tells g c honest = record {
  nothing = search rules;
  heads = λ fault it. elim (c.in_ok-side.ensures.heads honest fault it) [
    | inl is ↦ absurd (ok_is_no_error c.in_ok-side.side _ is)
    | inr erred ↦ absurd (none_erred g.D.Disk.failures g.D.Disk.refusals c.args.disk.now c.live_side.new.disk c.in_ok-side.side c.in_ok-side.ensures.causes erred)
  ];
  cause = search rules;
}

pub returns-clause-tells : goal.returns-clause-tells
returns-clause-tells g c honest =
    let files = g.D.Disk.files in
    let whole = c.in_ok-bytes.ensures.value honest ∙ ap (λ (f : File). f.content) (c.live_side.ensures.same honest c.in_ok-side.side) in
    let ahead = c.in_ok-side.ensures.ahead honest in
    let has = subst (λ (bytes : List ℕ). HasGeneration bytes ahead.generation) (sym whole) ahead.has in
    record {
      nothing = IfErr-weaker c.found_in.result _ _
          (λ error none says. ahead_is_none c.one_meaning_of_a_side.ensures.generation c.one_meaning_of_a_side.ensures.one_generation (contents_of (files c.args.disk.now)) c.in_ok-side.side ahead
          (subst IsNoSide whole (none says)))
          (c.found_in.ensures.nothing ahead.generation has);
      heads = λ fault it. elim (c.in_ok-side.ensures.heads honest fault it) [
        | inl is ↦ absurd (ok_is_no_error c.in_ok-side.side _ is)
        | inr erred ↦ absurd (none_erred g.D.Disk.failures g.D.Disk.refusals c.args.disk.now c.live_side.new.disk c.in_ok-side.side c.in_ok-side.ensures.causes erred)
      ];
      cause = IfErr-weaker c.found_in.result _ _ (λ error told says. let at = told says in inr (c.in_ok-side.side, at.0, ahead, at.1)) (c.found_in.ensures.cause ahead.generation has);
    }
