-- Payloads inside one string of bytes.
use Rattle.std.specs.Prelude.{◌≤◌, ℕ, List, length, map, All, slice_range}
use Rattle.journal.specs.declared.payloads.Place.{Place}

abbrev pub payloads_at : List ℕ → List Place → List (List ℕ)
payloads_at bytes places = map (λ place. slice_range bytes place.start place.end) places

abbrev pub AreWithin : List ℕ → List Place → Type 0
AreWithin bytes places = All (λ place. (place.start ≤ place.end) × (place.end ≤ length bytes)) places
