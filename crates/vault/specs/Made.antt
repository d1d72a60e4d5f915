-- What is kept of a store that is being made.
use Rattle.std.specs.Prelude.{◌≡◌, ℕ, List, [], ◌∷◌, length}
use Rattle.disk.specs.declared.side.Side.{Side}
use Rattle.disk.specs.declared.side.Side.TheVariants.{A, B}
use Rattle.disk.specs.File.{File, at_rest}
use Rattle.codec.specs.Spelling.{image_bytes}
use Rattle.sides.specs.Side.{behind_gate}
use Rattle.sides.specs.declared.gate.TheConstants.{FORMAT}
use Rattle.vault.specs.declared.creation.Made.{Made}
use Rattle.vault.specs.Store.{empty, new_side}

-- the files of a new store: its first side in A, without facts, and the closed gate of B
pub record AreNewFiles (files : Side → File) (text : List ℕ) : Type 0 where
  pub a : files A ≡ at_rest (new_side 1 text (image_bytes empty))
  pub b : files B ≡ at_rest (0 ∷ [])

-- its journal is in A, and ends where it begins; the text is kept
pub record IsMade (text : List ℕ) (made : Made) : Type 0 where
  pub side : made.journal.side ≡ A
  pub end : made.journal.end ≡ length (1 ∷ behind_gate FORMAT 1 text (image_bytes empty) [])
  pub text_is : made.kept.items ≡ text
