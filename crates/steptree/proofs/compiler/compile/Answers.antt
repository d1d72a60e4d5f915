use Rattle.std.proofs.Common.{[], ◌∷◌, refl, sym}
use Rattle.steptree.specs.declared.body.TheConstants.{BUDGET}
use Rattle.steptree.specs.Bodies.{begun}
use Rattle.steptree.proofs.Coded.{stays, keeps_on}
use Rattle.steptree.proofs.Follows.{Block', executes}
use Rattle.steptree.proofs.compiler.compile.Goals as goal

pub returns : goal.returns
returns c = λ key reads.
    let body = c.args.body.now in
    sym (executes _ BUDGET (Block' body.read ∷ Block' body.write ∷ []) [] c.in_ok-start.start (begun key reads) (
      c.in_ok-middle.middle,
      c.in_ok-start.ensures.code,
      (
        c.in_ok-end.end,
        stays _ _ c.in_ok-start.ensures.keeps c.in_ok-middle.middle body.write c.in_ok-end.end c.in_ok-middle.ensures.code,
        keeps_on _ _ _ c.in_ok-middle.ensures.keeps c.in_ok-start.ensures.keeps _ _ c.in_ok-end.ensures.stands,
      ),
    )
    refl)
