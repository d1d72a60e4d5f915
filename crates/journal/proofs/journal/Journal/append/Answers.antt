use Rattle.std.proofs.Common.{◌≡◌, sym, subst, rules}
use Rattle.std.proofs.lemmas.Result.{err_from_is_err_and}
use Rattle.journal.specs.Records.{record_of}
use Rattle.journal.specs.Journal.{Appends}
use Rattle.journal.proofs.Appends.{nothing_appended, failed_as, went_as}
use Rattle.journal.proofs.journal.Journal.append.Goals as goal

pub returns-then-not-fits-clause-appended : goal.returns-then-not-fits-clause-appended
returns-then-not-fits-clause-appended g c honest = nothing_appended g.D.Disk (g.met.D.Disk.at_now honest) c.args.self.now c.args.self.now c.args.disk.now (record_of c.args.payload.now) 0 _

pub returns-in_err-place-clause-appended : goal.returns-in_err-place-clause-appended
returns-in_err-place-clause-appended g c honest =
    let p = err_from_is_err_and c.from_residual.result c.from_residual.ensures.1 in
    subst (λ r. Appends g.D.Disk c.args.self.now c.args.self.now c.args.disk.now c.args.disk.now (record_of c.args.payload.now) 0 r) (sym p.1)
    (nothing_appended g.D.Disk (g.met.D.Disk.at_now honest) c.args.self.now c.args.self.now c.args.disk.now (record_of c.args.payload.now) 0 _)

pub returns-in_err-extend_from_slice-clause-appended : goal.returns-in_err-extend_from_slice-clause-appended
returns-in_err-extend_from_slice-clause-appended g c honest =
    let p = err_from_is_err_and c.from_residual-in_err-extend_from_slice.result c.from_residual-in_err-extend_from_slice.ensures.1 in
    subst (λ r. Appends g.D.Disk c.args.self.now c.args.self.now c.args.disk.now c.args.disk.now (record_of c.args.payload.now) 0 r) (sym p.1)
    (nothing_appended g.D.Disk (g.met.D.Disk.at_now honest) c.args.self.now c.args.self.now c.args.disk.now (record_of c.args.payload.now) 0 _)

pub returns-in_err-append_all-clause-appended : goal.returns-in_err-append_all-clause-appended
returns-in_err-append_all-clause-appended g c honest =
    let p = err_from_is_err_and c.from_residual-in_err-append_all.result c.from_residual-in_err-append_all.ensures.1 in
    let is : c.end_record.new.out.items ≡ record_of c.args.payload.now = search rules in
    subst (λ r. Appends g.D.Disk c.args.self.now c.append_all.new.self c.args.disk.now c.append_all.new.disk (record_of c.args.payload.now) 0 r) (sym p.1)
    (failed_as g.D.Disk c.args.self.now c.append_all.new.self c.args.disk.now c.append_all.new.disk (record_of c.args.payload.now) _ 0 _ _ is (c.in_err-append_all.ensures.appended honest))

pub returns-clause-appended : goal.returns-clause-appended
returns-clause-appended g c honest =
    let is : c.end_record.new.out.items ≡ record_of c.args.payload.now = search rules in
    went_as g.D.Disk c.args.self.now c.append_all.new.self c.args.disk.now c.append_all.new.disk (record_of c.args.payload.now) _ 0 _ _ is (c.in_ok-append_all.ensures.appended honest)
