use Rattle.std.proofs.Common.{sym, subst, [], refl}
use Rattle.graph.specs.Graph.{Graph}
use Rattle.graph.specs.Fits.{IsPrescribed}
use Rattle.codec.specs.Image.{environment_in, facts_in}
use Rattle.holdings.specs.Holdings.{image_of}
use Rattle.machine.specs.Machine.{environment as environment_of, facts as facts_of}
use Rattle.commit.proofs.Allowed.{of_opened}
use Rattle.commit.proofs.Taken.{holds_alike, kept}
use Rattle.commit.proofs.commit_core.Core.recovered.Goals as goal

pub invariant_of-result : goal.invariant_of-result
invariant_of-result g c =
    let recovered = c.args.recovered in
    let m = c.in-Ok.machine in (
      λ _. refl,
      λ honest.
          kept g.D.Disk (g.met.D.Disk.at_now honest) ((c.stores_go_on.ensures.rest honest).held) recovered.vault m [] [] 1000000000
          (holds_alike g.D.Disk.files recovered.vault recovered.graph m.graph (environment_in (image_of recovered.holdings)) (environment_of m) (facts_in (image_of recovered.holdings)) (facts_of m) c.in-Ok.ensures.graph
          (λ fact. sym (c.in-Ok.ensures.lists.environment fact)) (λ fact. sym (c.in-Ok.ensures.lists.facts fact)) (c.requires.holds honest)),
      of_opened m 1000000000 c.are_counted.ensures c.in-Ok.ensures.instances,
    )

pub returns-in-Ok-clause-opened : goal.returns-in-Ok-clause-opened
returns-in-Ok-clause-opened g c = record {
  working = c.requires.working;
  in_doubt = refl;
  latest = refl;
  allowance = refl;
  instances = c.in-Ok.ensures.instances;
  ready = λ instance prescribed not_done.
      c.in-Ok.ensures.ready instance (subst (λ (h : Graph). IsPrescribed h (facts_of c.in-Ok.machine) instance) c.in-Ok.ensures.graph prescribed) not_done;
}
