use Rattle.std.proofs.Common.{◌<◌, [], refl, rules}
use Rattle.steptree.specs.declared.sheet.TheConstants.{MOST_COLLECTIONS}
use Rattle.syntax.specs.Limits.{one_more}
use Rattle.syntax.specs.Expected.{step_name}
use Rattle.syntax.proofs.StepParts.{full_names}
use Rattle.syntax.proofs.Partials.{few_more}
use Rattle.syntax.proofs.Stopping.{passed_on}
use Rattle.syntax.proofs.steps.step_name.Goals as goal

pub returns-in_err-name-clause-stops : goal.returns-in_err-name-clause-stops
returns-in_err-name-clause-stops c =
    passed_on c.from_residual.result c.in_err-name.field-0.0 _ c.from_residual.ensures.1
    (c.in_err-name.ensures.stops (step_name c.args.before) (λ place. one_more MOST_COLLECTIONS c.args.before place) [] (λ lexeme place. refl)
    (full_names MOST_COLLECTIONS c.args.before _ (λ full. search rules) (λ full. search rules)))

pub returns-clause-reads : goal.returns-clause-reads
returns-clause-reads c =
    let room : c.args.before < MOST_COLLECTIONS = search rules in
    let takes = rw c.in_ok-name.ensures.room at c.in_ok-name.ensures.reads in
    takes (step_name c.args.before) (λ place. one_more MOST_COLLECTIONS c.args.before place) [] (λ lexeme place. refl) (λ place. few_more MOST_COLLECTIONS c.args.before place room)
