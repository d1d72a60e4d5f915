use Rattle.std.proofs.Common.{inl, inr, subst}
use Rattle.std.proofs.lemmas.Result.{IfErr-weaker}
use Rattle.disk.specs.declared.side.Side.TheVariants.{A, B}
use Rattle.disk.specs.File.{File}
use Rattle.vault.specs.Opened.{IsGenerationOf, SaysCutShort, StandsForNothing, contents_of}
use Rattle.vault.proofs.OpenedCalls.{then_reads, same_contents}
use Rattle.vault.proofs.ErredCalls.{erred_behind, none_refused}
use Rattle.vault.proofs.OpenedErrors.{handed_on}
use Rattle.vault.proofs.HeadsFaults.{not_short, a_is_told, b_is_told, both_are_told, told_on}
use Rattle.vault.proofs.heads.live_side.Goals as goal

pub returns-in_err-a-clause-nothing : goal.returns-in_err-a-clause-nothing
returns-in_err-a-clause-nothing g c honest = handed_on _ c.in_err-a.field-0.0 c.from_residual.result c.from_residual.ensures.1 (c.in_err-a.ensures.nothing honest)

pub returns-in_err-b-clause-nothing : goal.returns-in_err-b-clause-nothing
returns-in_err-b-clause-nothing g c honest =
    let files = g.D.Disk.files in
    let same = same_contents (files c.args.disk.now) (files c.generation_of.new.disk) (c.generation_of.ensures.only_reads honest).reads in
    handed_on _ c.in_err-b.field-0.0 c.from_residual-in_err-b.result c.from_residual-in_err-b.ensures.1 (λ says. subst StandsForNothing same (c.in_err-b.ensures.nothing honest says))

pub returns-clause-nothing : goal.returns-clause-nothing
returns-clause-nothing g c honest =
    let files = g.D.Disk.files in
    let b = subst (λ (f : File). IsGenerationOf c.in_ok-b.b f.content) (c.generation_of.ensures.same honest B) (c.in_ok-b.ensures.generation honest) in
    IfErr-weaker c.ahead.result _ _ (λ error none says. none) (c.ahead.ensures.nothing (contents_of (files c.args.disk.now)) (c.in_ok-a.ensures.generation honest) b)

pub returns-in_err-b-clause-only_reads : goal.returns-in_err-b-clause-only_reads
returns-in_err-b-clause-only_reads g c honest =
    then_reads g.D.Disk c.args.disk.now c.generation_of.new.disk c.generation_of-2.new.disk (c.generation_of.ensures.only_reads honest) (c.generation_of-2.ensures.only_reads honest)

pub returns-clause-only_reads : goal.returns-clause-only_reads
returns-clause-only_reads g c honest =
    then_reads g.D.Disk c.args.disk.now c.generation_of.new.disk c.generation_of-2.new.disk (c.generation_of.ensures.only_reads honest) (c.generation_of-2.ensures.only_reads honest)

pub returns-in_err-a-clause-heads : goal.returns-in_err-a-clause-heads
returns-in_err-a-clause-heads g c honest fault is =
    let contents = contents_of (g.D.Disk.files c.args.disk.now) in
    elim (c.in_err-a.ensures.short honest) [
      | inl erred ↦ inr erred
      | inr it ↦ inl (told_on c.in_err-a.field-0.0 fault c.from_residual.result c.from_residual.ensures.1 (a_is_told contents fault _ is it))
    ]

pub returns-in_err-b-clause-heads : goal.returns-in_err-b-clause-heads
returns-in_err-b-clause-heads g c honest fault is =
    let contents = contents_of (g.D.Disk.files c.args.disk.now) in
    let same = c.generation_of.ensures.same honest B in
    elim (c.in_err-b.ensures.short honest) [
      | inl erred ↦ inr (erred_behind g.D.Disk.failures g.D.Disk.refusals c.args.disk.now c.generation_of.new.disk c.generation_of-2.new.disk c.in_ok-a.ensures.causes.later
          (none_refused g.D.Disk.failures g.D.Disk.refusals c.args.disk.now c.generation_of.new.disk c.in_ok-a.a c.in_ok-a.ensures.causes) erred)
      | inr it ↦ inl (told_on c.in_err-b.field-0.0 fault c.from_residual-in_err-b.result c.from_residual-in_err-b.ensures.1
          (b_is_told contents fault _ (not_short c.in_ok-a.a (contents A) (c.in_ok-a.ensures.generation honest)) is (subst (λ (f : File). SaysCutShort B f.content c.in_err-b.field-0.0) same it)))
    ]

pub returns-clause-heads : goal.returns-clause-heads
returns-clause-heads g c honest fault is =
    let contents = contents_of (g.D.Disk.files c.args.disk.now) in
    let a = c.in_ok-a.ensures.generation honest in
    let b = subst (λ (f : File). IsGenerationOf c.in_ok-b.b f.content) (c.generation_of.ensures.same honest B) (c.in_ok-b.ensures.generation honest) in
    inl (both_are_told c.ahead.result contents c.in_ok-a.a c.in_ok-b.b fault a b (c.ahead.ensures.alike contents a b) c.ahead.ensures.closed is)

pub returns-in_err-a-clause-cause : goal.returns-in_err-a-clause-cause
returns-in_err-a-clause-cause g c honest =
    handed_on _ c.in_err-a.field-0.0 c.from_residual.result c.from_residual.ensures.1 (λ says. inl (c.in_err-a.ensures.told honest says))

pub returns-in_err-b-clause-cause : goal.returns-in_err-b-clause-cause
returns-in_err-b-clause-cause g c honest =
    let contents = contents_of (g.D.Disk.files c.args.disk.now) in
    let same = c.generation_of.ensures.same honest B in
    handed_on _ c.in_err-b.field-0.0 c.from_residual-in_err-b.result c.from_residual-in_err-b.ensures.1 (λ says.
    let it = subst (λ (f : File). SaysCutShort B f.content c.in_err-b.field-0.0) same (c.in_err-b.ensures.told honest says) in
    inr (inl (not_short c.in_ok-a.a (contents A) (c.in_ok-a.ensures.generation honest), it)))

pub returns-clause-cause : goal.returns-clause-cause
returns-clause-cause g c honest =
    let contents = contents_of (g.D.Disk.files c.args.disk.now) in
    let a = c.in_ok-a.ensures.generation honest in
    let b = subst (λ (f : File). IsGenerationOf c.in_ok-b.b f.content) (c.generation_of.ensures.same honest B) (c.in_ok-b.ensures.generation honest) in
    IfErr-weaker c.ahead.result _ _ (λ error it says. elim it [ inl none ↦ inr (inr (inr (none.1, none.0))) | inr one ↦ inr (inr (inl (one.1, one.0))) ]) (c.ahead.ensures.cause contents a b)
