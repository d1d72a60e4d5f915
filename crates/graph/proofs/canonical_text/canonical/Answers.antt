use Rattle.std.proofs.Common.{◌≡◌, ◌∙◌, List, ℕ, ap, subst}
use Rattle.graph.specs.Canonical.{canonical}
use Rattle.graph.specs.Reads.{Reads}
use Rattle.graph.proofs.canonical_text.canonical.Goals as goal

pub returns-clause-nothing_else : goal.returns-clause-nothing_else
returns-clause-nothing_else c = λ other also.
    let g = c.args.graph.now in
    let spelled : c.in_ok-text.text.items ≡ canonical g = c.in_ok-text.ensures ∙ ap canonical c.parts.ensures.parts in
    c.one_reading.ensures (canonical g) g other c.parts.ensures.reads (subst (λ (text : List ℕ). Reads text other) spelled also)
