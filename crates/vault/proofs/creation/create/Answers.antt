use Rattle.std.proofs.Common.{◌≡◌, refl, sym, rules}
use Rattle.graph.specs.Graph.{Graph}
use Rattle.graph.specs.Canonical.{canonical}
use Rattle.graph.specs.Reads.{Reads}
use Rattle.vault.specs.Store.{Holds, nothing}
use Rattle.vault.specs.declared.creation.Made.{Made}
use Rattle.vault.proofs.Created.{holds_nothing}
use Rattle.vault.proofs.ErredCalls.{other_error}
use Rattle.vault.proofs.Ready.{held_is_ready}
use Rattle.vault.proofs.creation.create.Goals as goal

pub returns-in-Ok-clause-created : goal.returns-in-Ok-clause-created
returns-in-Ok-clause-created g c honest =
    let it = c.requires in
    let files = g.D.Disk.files in
    let new = c.in-Ok.ensures.sides honest in
    let made = c.in-Ok.ensures.made in
    let holds : (gr : Graph) → Reads c.args.text.now gr → c.args.text.now ≡ canonical gr → Holds files _ gr nothing nothing =
    λ gr reads text. holds_nothing c.sides_go_on.ensures.begins gr c.args.text.now text reads files _ new.a new.b refl made.side made.end made.text_is in
    record {
      holds = holds;
      a = new.a;
      b = new.b;
      ready = held_is_ready files c.sides_go_on.ensures.journal _ it.0 _ _ (holds it.0 it.1.0 (sym it.1.1));
    }

pub returns-in-Ok-clause-non_empty : goal.returns-in-Ok-clause-non_empty
returns-in-Ok-clause-non_empty g c honest =
    let it = c.in-Ok.ensures.non_empty honest in
    record { were_empty = it.were_empty; exists = search rules; kept = it.kept; moments = it.moments }

pub returns-in-Err-clause-non_empty : goal.returns-in-Err-clause-non_empty
returns-in-Err-clause-non_empty g c honest =
    let it = c.in-Err.ensures.non_empty honest in
    record { were_empty = tt; exists = λ is. it.exists (other_error {T = Made} c.in-Err.error _ is); kept = it.kept; moments = it.moments }
