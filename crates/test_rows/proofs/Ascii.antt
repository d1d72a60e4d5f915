-- A text of ASCII, byte by byte.
use Rattle.std.proofs.Common.{ℕ, suc, ◌<◌, List, [], ◌∷◌}
use Rattle.std.specs.List.{AllByRecursion}
use Rattle.std.specs.Str.{IsAscii}

pub ascii_text : (bytes : List ℕ) → IsAscii bytes → AllByRecursion (λ byte. byte < 128) bytes
ascii_text [] h = tt
ascii_text (first ∷ rest) h = (h 0, ascii_text rest (λ i. h (suc i)))
