use Rattle.std.proofs.Common.{ap, ◌∙◌, length, vec_len}
use Rattle.machine.specs.declared.tally.Tally.{Tally}
use Rattle.machine.proofs.Tallied.{many_zeros, nothing_counted}
use Rattle.machine.proofs.tally.Tally.clear.Goals as goal

pub returns : goal.returns
returns c =
    let none = c.fill.ensures.items (λ y is. is) in
    let no_tags = c.fill-2.ensures.items (λ y is. is) in
    let old = c.args.self.now in
    let new : Tally = record { items = c.fill.new.self; tags = c.fill-2.new.self } in
    record {
      counts = nothing_counted new (vec_len old.items) (vec_len old.tags) none no_tags;
      collections = record { items = ap length none ∙ many_zeros (vec_len old.items) ∙ old.items.ok.0; tags = ap length no_tags ∙ many_zeros (vec_len old.tags) ∙ old.tags.ok.0 };
    }
