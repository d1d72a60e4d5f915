use Rattle.std.proofs.Common.{◌∙◌, Bool, Ok, Result, ap, arith, refl, subst}
use Rattle.commit.specs.declared.error.CoreError.{CoreError}
use Rattle.passes.specs.Known.{Desk}
use Rattle.hub.specs.Claims.{ClaimsOne}
use Rattle.hub.specs.Kept.{Kept}
use Rattle.hub.proofs.Claims.{Claiming, all_claimed, history_after, none_claimed, none_left, one_claimed, refused_then, sees_after}
use Rattle.hub.proofs.kept.Kept.claim_some.Goals as goal

pub loop-left-init : goal.loop-left-init
loop-left-init g c =
    subst (λ (kept : Kept g.row.D.Denot). Claiming g.J.Naming.opening kept.history c.show.new.desk.book.history c.args.pass.now c.show.new.pass c.share_of-left.result c.share_of-left.result kept.core c.self.inside.core c.args.tasks.now c.args.tasks.now)
    c.self.view_is
    (none_claimed g.J.Naming.opening c.self.inside.desk.book.history c.show.new.desk.book.history c.args.pass.now c.show.new.pass c.share_of-left.result c.self.inside.core c.self.inside.core c.args.tasks.now
    (ap (λ (desk : Desk). desk.book.history) c.show.ensures.desk) c.self.invariant.legal c.show.ensures.pass refl)

pub loop-left-preserved : goal.loop-left-preserved
loop-left-preserved g c =
    one_claimed g.J.Naming.opening c.args.self.now.history c.loop-left.self.history c.claim_one.new.self.history c.args.pass.now c.loop-left.pass c.claim_one.new.pass c.share_of-left.result c.loop-left.left c.args.most c.args.self.now.core c.loop-left.self.core c.claim_one.new.self.core c.args.tasks.now c.loop-left.tasks c.claim_one.new.tasks
    c.loop-left.invariant c.claim_one.ensures.history.0 c.claim_one.ensures.history.1
    (omega (arith, c.loop-left-test.true)) (subst (λ (result : Result Bool CoreError). ClaimsOne g.J.Naming.opening c.claim_one.new.pass c.loop-left.self.core c.claim_one.new.self.core c.loop-left.tasks c.claim_one.new.tasks result) (c.in-Ok-true.is ∙ ap (λ (some : Bool). Ok some) c.in-Ok-true.field-0-test) c.claim_one.ensures.core)

pub returns-in-Ok-false-clause-history : goal.returns-in-Ok-false-clause-history
returns-in-Ok-false-clause-history g c =
    history_after g.J.Naming.opening c.args.self.now.history c.loop-left.self.history c.claim_one.new.self.history c.args.pass.now c.loop-left.pass c.claim_one.new.pass c.share_of-left.result c.loop-left.left c.args.most c.args.self.now.core c.loop-left.self.core c.claim_one.new.self.core c.args.tasks.now c.loop-left.tasks c.claim_one.new.tasks
    c.loop-left.invariant c.claim_one.ensures.history.0 c.claim_one.ensures.history.1

pub returns-in-Ok-false-clause-seen : goal.returns-in-Ok-false-clause-seen
returns-in-Ok-false-clause-seen g c =
    sees_after g.J.Naming.opening c.args.self.now.history c.loop-left.self.history c.claim_one.new.self.history c.args.pass.now c.loop-left.pass c.claim_one.new.pass c.share_of-left.result c.loop-left.left c.args.most c.args.self.now.core c.loop-left.self.core c.claim_one.new.self.core c.args.tasks.now c.loop-left.tasks c.claim_one.new.tasks
    c.loop-left.invariant c.claim_one.ensures.history.0 c.claim_one.ensures.history.1

pub returns-in-Ok-false-clause-core : goal.returns-in-Ok-false-clause-core
returns-in-Ok-false-clause-core g c =
    none_left g.J.Naming.opening c.args.self.now.history c.loop-left.self.history c.claim_one.new.self.history c.args.pass.now c.loop-left.pass c.claim_one.new.pass c.share_of-left.result c.loop-left.left c.args.most c.args.self.now.core c.loop-left.self.core c.claim_one.new.self.core c.args.tasks.now c.loop-left.tasks c.claim_one.new.tasks
    c.loop-left.invariant c.claim_one.ensures.history.0 c.claim_one.ensures.history.1
    _ c.share_of-left.ensures.few (subst (λ (result : Result Bool CoreError). ClaimsOne g.J.Naming.opening c.claim_one.new.pass c.loop-left.self.core c.claim_one.new.self.core c.loop-left.tasks c.claim_one.new.tasks result) (c.in-Ok-false.is ∙ ap (λ (some : Bool). Ok some) c.in-Ok-false.field-0-test) c.claim_one.ensures.core) c.runs_any.ensures

pub returns-in-Err-clause-history : goal.returns-in-Err-clause-history
returns-in-Err-clause-history g c =
    history_after g.J.Naming.opening c.args.self.now.history c.loop-left.self.history c.claim_one.new.self.history c.args.pass.now c.loop-left.pass c.claim_one.new.pass c.share_of-left.result c.loop-left.left c.args.most c.args.self.now.core c.loop-left.self.core c.claim_one.new.self.core c.args.tasks.now c.loop-left.tasks c.claim_one.new.tasks
    c.loop-left.invariant c.claim_one.ensures.history.0 c.claim_one.ensures.history.1

pub returns-in-Err-clause-seen : goal.returns-in-Err-clause-seen
returns-in-Err-clause-seen g c =
    sees_after g.J.Naming.opening c.args.self.now.history c.loop-left.self.history c.claim_one.new.self.history c.args.pass.now c.loop-left.pass c.claim_one.new.pass c.share_of-left.result c.loop-left.left c.args.most c.args.self.now.core c.loop-left.self.core c.claim_one.new.self.core c.args.tasks.now c.loop-left.tasks c.claim_one.new.tasks
    c.loop-left.invariant c.claim_one.ensures.history.0 c.claim_one.ensures.history.1

pub returns-in-Err-clause-core : goal.returns-in-Err-clause-core
returns-in-Err-clause-core g c =
    refused_then g.J.Naming.opening c.args.self.now.history c.loop-left.self.history c.claim_one.new.self.history c.args.pass.now c.loop-left.pass c.claim_one.new.pass c.share_of-left.result c.loop-left.left c.args.most c.args.self.now.core c.loop-left.self.core c.claim_one.new.self.core c.args.tasks.now c.loop-left.tasks c.claim_one.new.tasks
    c.loop-left.invariant c.claim_one.ensures.history.0 c.claim_one.ensures.history.1
    c.in-Err.error c.share_of-left.ensures.few (subst (λ (result : Result Bool CoreError). ClaimsOne g.J.Naming.opening c.claim_one.new.pass c.loop-left.self.core c.claim_one.new.self.core c.loop-left.tasks c.claim_one.new.tasks result) c.in-Err.is c.claim_one.ensures.core)

pub returns-clause-history : goal.returns-clause-history
returns-clause-history g c = (c.loop-left.invariant.same, c.loop-left.invariant.shows)

pub returns-clause-seen : goal.returns-clause-seen
returns-clause-seen g c = c.loop-left.invariant.sees

pub returns-clause-core : goal.returns-clause-core
returns-clause-core g c =
    all_claimed g.J.Naming.opening c.args.self.now.history c.loop-left.self.history c.args.pass.now c.loop-left.pass c.share_of-left.result c.loop-left.left c.args.most c.args.self.now.core c.loop-left.self.core c.args.tasks.now c.loop-left.tasks
    c.runs_any-2.result c.loop-left.invariant (omega (arith, c.loop-left-test.false)) c.share_of-left.ensures.few c.share_of-left.ensures.some c.runs_any-2.ensures
