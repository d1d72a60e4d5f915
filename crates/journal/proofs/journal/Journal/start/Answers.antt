use Rattle.std.proofs.Common.{ℕ, List, [], ◌∷◌, drop, ap, sym, subst, rules}
use Rattle.std.proofs.lemmas.Result.{err_from_is_err_and}
use Rattle.disk.specs.File.{File}
use Rattle.disk.specs.Storage.{WritesSynced}
use Rattle.journal.specs.Records.{StandsFor}
use Rattle.journal.proofs.Appending.{stands_for_none}
use Rattle.journal.proofs.Starting.{nothing_written, failed_as, went_as}
use Rattle.journal.proofs.journal.Journal.start.Goals as goal

pub returns-then-at-ge-LIMIT-clause-written : goal.returns-then-at-ge-LIMIT-clause-written
returns-then-at-ge-LIMIT-clause-written g c honest = nothing_written g.D.Disk (g.met.D.Disk.at_now honest) c.args.side c.args.at (0 ∷ []) c.args.disk.now _ (c.requires honest)

pub returns-in_err-write_synced-clause-written : goal.returns-in_err-write_synced-clause-written
returns-in_err-write_synced-clause-written g c honest =
    let p = err_from_is_err_and c.from_residual.result c.from_residual.ensures.1 in
    subst (λ r. WritesSynced g.D.Disk c.args.side c.args.at (0 ∷ []) c.args.disk.now c.write_synced.new.disk r) (sym p.1)
    (failed_as g.D.Disk c.args.side c.args.at (0 ∷ []) c.args.disk.now c.write_synced.new.disk _ _ (c.in_err-write_synced.ensures.written honest))

pub returns-clause-written : goal.returns-clause-written
returns-clause-written g c honest = went_as g.D.Disk c.args.side c.args.at (0 ∷ []) c.args.disk.now c.write_synced.new.disk _ _ (c.in_ok-write_synced.ensures.written honest)

pub returns-clause-begun : goal.returns-clause-begun
returns-clause-begun g c honest =
    let content = (g.D.Disk.files c.args.disk.now c.args.side).content in
    let writes = c.in_ok-write_synced.ensures.written honest in
    let is = ap (λ (f : File). f.content) writes.ok in
    record {
      stands = subst (λ (l : List ℕ). StandsFor (drop c.args.at l) []) (sym is) (stands_for_none content c.args.at (c.requires honest));
      end = search rules;
    }
