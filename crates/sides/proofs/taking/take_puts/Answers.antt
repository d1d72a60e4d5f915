use Rattle.std.proofs.Common.{refl, sym, ◌∙◌}
use Rattle.std.proofs.lemmas.Bool.{false≢true}
use Rattle.sides.proofs.TakenPuts.{stops, ends, goes_on}
use Rattle.sides.proofs.taking.take_puts.Goals as goal

pub returns-then-not-branch-clause-fits : goal.returns-then-not-branch-clause-fits
returns-then-not-branch-clause-fits c = (
  λ never. absurd (false≢true never),
  λ all. absurd
      (stops c.args.graph.now c.args.instance.now c.args.puts.now c.args.holdings.now c.facts_are_told_apart.ensures.one c.loop-number.invariant
      c.index-puts-number.result c.index-puts-number.is c.loop-number-test.true
      (λ fit. false≢true (sym c.if-not-branch.true ∙ c.in_ok-take_put.ensures.fits.1 fit)) all),
)

pub loop-number-preserved : goal.loop-number-preserved
loop-number-preserved c =
    let taken = c.in_ok-take_put.ensures in
    goes_on c.args.graph.now c.args.instance.now c.args.puts.now c.args.holdings.now c.facts_are_told_apart.ensures.among c.loop-number.invariant
    c.index-puts-number.result c.index-puts-number.is c.loop-number-test.true refl
    (taken.fits.0 c.if-not-branch.false) (taken.grown c.if-not-branch.false) (λ all few. taken.numbered all few c.if-not-branch.false)

pub returns-clause-fits : goal.returns-clause-fits
returns-clause-fits c =
    let all = ends c.args.graph.now c.args.instance.now c.args.puts.now c.args.holdings.now c.facts_are_told_apart.ensures.one c.loop-number.invariant c.loop-number-test.false in
    (λ fits. all.0, λ fits. refl)

pub returns-clause-grown : goal.returns-clause-grown
returns-clause-grown c fits =
    (ends c.args.graph.now c.args.instance.now c.args.puts.now c.args.holdings.now c.facts_are_told_apart.ensures.one c.loop-number.invariant c.loop-number-test.false).1
