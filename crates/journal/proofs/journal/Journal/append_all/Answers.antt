use Rattle.std.proofs.Common.{◌≡◌, ℕ, List, ◌∷◌, ◌++◌, take, drop, replicate, refl, ap, sym, subst, ◌∙◌, arith}
use Rattle.std.proofs.lemmas.Result.{err_from_is_err_and}
use Rattle.std.proofs.lemmas.List.{take_rest}
use Rattle.journal.specs.Journal.{Appends}
use Rattle.journal.proofs.Appends.{nothing_appended, first_failed, second_failed, both_went}
use Rattle.journal.proofs.journal.Journal.append_all.Goals as goal

pub returns-then-not-fits-clause-appended : goal.returns-then-not-fits-clause-appended
returns-then-not-fits-clause-appended g c honest = nothing_appended g.D.Disk (g.met.D.Disk.at_now honest) c.args.self.now c.args.self.now c.args.disk.now c.args.records.now.items c.args.zeros _

pub returns-in_err-close-clause-appended : goal.returns-in_err-close-clause-appended
returns-in_err-close-clause-appended g c honest =
    let p = err_from_is_err_and c.from_residual.result c.from_residual.ensures.1 in
    subst (λ r. Appends g.D.Disk c.args.self.now c.args.self.now c.args.disk.now c.args.disk.now c.args.records.now.items c.args.zeros r) (sym p.1)
    (nothing_appended g.D.Disk (g.met.D.Disk.at_now honest) c.args.self.now c.args.self.now c.args.disk.now c.args.records.now.items c.args.zeros _)

-- the records are written behind the gate
pub returns-in_err-write_synced-clause-appended : goal.returns-in_err-write_synced-clause-appended
returns-in_err-write_synced-clause-appended g c honest =
    let p = err_from_is_err_and c.from_residual-in_err-write_synced.result c.from_residual-in_err-write_synced.ensures.1 in
    subst (λ r. Appends g.D.Disk c.args.self.now c.args.self.now c.args.disk.now c.write_synced.new.disk c.args.records.now.items c.args.zeros r) (sym p.1)
    (first_failed g.D.Disk c.args.self.now c.args.self.now c.args.disk.now c.write_synced.new.disk c.write_synced.new.disk c.args.zeros _ _ c.args.records.now.items _ (c.in_err-write_synced.ensures.written honest))

-- the gate is opened
pub returns-in_err-write_synced-2-clause-appended : goal.returns-in_err-write_synced-2-clause-appended
returns-in_err-write_synced-2-clause-appended g c honest =
    let old = c.args.self.now in
    let bytes = c.args.records.now.items in
    let all : List ℕ = bytes ++ 0 ∷ replicate c.args.zeros 0 in
    let is : c.deref.result.now ≡ all = c.deref.ensures.value ∙ c.in_ok-close.ensures in
    let is_2 : c.deref-2.result.now ≡ all = c.deref-2.ensures.value ∙ c.in_ok-close.ensures in
    let p = err_from_is_err_and c.from_residual-in_err-write_synced-2.result c.from_residual-in_err-write_synced-2.ensures.1 in
    subst (λ r. Appends g.D.Disk old old c.args.disk.now c.write_synced-2.new.disk bytes c.args.zeros r) (sym p.1)
    (second_failed g.D.Disk old old c.args.disk.now c.write_synced.new.disk c.write_synced-2.new.disk c.args.zeros _ _ _ bytes _ _ c.requires.some (omega (arith, c.if-not-fits.ensures.0 refl))
    (take_rest c.deref.result.now 1 ∙ ap (drop 1) is) (ap (take 1) is_2) (c.in_ok-write_synced.ensures.written honest) (c.in_err-write_synced-2.ensures.written honest))

pub returns-clause-appended : goal.returns-clause-appended
returns-clause-appended g c honest =
    let old = c.args.self.now in
    let bytes = c.args.records.now.items in
    let all : List ℕ = bytes ++ 0 ∷ replicate c.args.zeros 0 in
    let is : c.deref.result.now ≡ all = c.deref.ensures.value ∙ c.in_ok-close.ensures in
    let is_2 : c.deref-2.result.now ≡ all = c.deref-2.ensures.value ∙ c.in_ok-close.ensures in
    both_went g.D.Disk old _ c.args.disk.now c.write_synced.new.disk c.write_synced-2.new.disk c.args.zeros _ _ _ bytes _ _ c.requires.some (omega (arith, c.if-not-fits.ensures.0 refl))
    (take_rest c.deref.result.now 1 ∙ ap (drop 1) is) (ap (take 1) is_2) (c.in_ok-write_synced.ensures.written honest) (c.in_ok-write_synced-2.ensures.written honest)
    (c.requires.within honest) (omega arith)
