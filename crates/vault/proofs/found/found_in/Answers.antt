use Rattle.std.proofs.Common.{◌≡◌, ℕ, List, ap, sym, subst, ◌∙◌}
use Rattle.std.specs.Prelude.{Err}
use Rattle.sides.specs.Reading.{IsRead}
use Rattle.sides.specs.Side.{HasGeneration, IsSide}
use Rattle.vault.proofs.found.found_in.Goals as goal
use Rattle.vault.proofs.found.found_in.Goals.{After-found_of}

-- what was read, as read from all bytes
abbrev is_read : (c : After-found_of) → IsRead c.args.bytes.items c.in-Open.generation c.in-Ok.standing
is_read c =
    let generation = c.in-Open.generation in
    let same : c.deref.result.now ≡ c.deref-2.result.now = c.deref.ensures.value ∙ sym c.deref-2.ensures.value in
    subst (λ (bytes : List ℕ). IsRead bytes generation c.in-Ok.standing) c.deref-2.ensures.value
    (c.in-Ok.ensures.read generation (subst (λ (bytes : List ℕ). HasGeneration bytes generation) same c.in-Open.ensures))

pub returns-in-Ok-clause-found : goal.returns-in-Ok-clause-found
returns-in-Ok-clause-found c = c.found_of.ensures.found (is_read c)

pub returns-in-Ok-clause-kept : goal.returns-in-Ok-clause-kept
returns-in-Ok-clause-kept c = c.found_of.ensures.kept (is_read c)

pub returns-in-Ok-clause-sound : goal.returns-in-Ok-clause-sound
returns-in-Ok-clause-sound c = c.found_of.ensures.sound (is_read c)

pub returns-in-Err-Damaged-clause-nothing : goal.returns-in-Err-Damaged-clause-nothing
returns-in-Err-Damaged-clause-nothing c generation has says g n E X side =
    c.in-Err-Damaged.ensures.nothing c.in-Err-Damaged.place (ap Err c.in-Err-Damaged.field-0-is) g n E X
    (subst (λ (bytes : List ℕ). IsSide bytes g n E X) (sym c.deref-2.ensures.value) side)
