use Rattle.std.proofs.Common.{List, subst}
use Rattle.terms.specs.declared.event.Event.{Event}
use Rattle.terms.specs.Facts.{facts, environment}
use Rattle.codec.specs.Image.{image_facts}
use Rattle.graph.specs.Fits.{AllFit}
use Rattle.holdings.specs.Holdings.{image_of}
use Rattle.sides.specs.Growth.{Grows}
use Rattle.sides.proofs.replay.take_commit.Goals as goal

pub returns-in_ok-take_all-in-Ok-clause-taken : goal.returns-in_ok-take_all-in-Ok-clause-taken
returns-in_ok-take_all-in-Ok-clause-taken c taken =
    let old = c.args.holdings.now in
    let new = c.take_all.new.holdings in
    let all = c.in_ok-take_all-in-Ok.ensures in
    let is = c.deref.ensures.value in
    record {
      commit = c.decode_payload.new.events.items;
      spelled = c.in-Ok.ensures.spelled;
      fit = subst (λ (events : List Event). AllFit c.args.graph.now (image_facts (image_of old)) events) is (all.fits.0 taken);
      grown = subst (λ (events : List Event). Grows (environment events) (facts events) old new) is (all.grown taken);
    }
