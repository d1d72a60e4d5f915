-- What a crash leaves of a file, where one choice is made for all bytes that are touched.
use Rattle.std.specs.Prelude.{◌≡◌, ◌+◌, ℕ, Bool, List, [], ◌∷◌, if◌then◌else◌, refl}
use Rattle.disk.specs.declared.choice.Choice.{Choice}
use Rattle.disk.specs.declared.choice.Choice.TheVariants.{Synced, Written, Byte}
use Rattle.disk.specs.File.{File, at_rest, written}

-- these bytes, of which the first stands at this position, with this byte at each position that is touched
abbrev pub painted : (ℕ → Bool) → ℕ → ℕ → List ℕ → List ℕ
painted touched byte at [] = []
painted touched byte at (old ∷ bytes) = (if touched at then byte else old) ∷ painted touched byte (at + 1) bytes

-- what is left of a file: the synced bytes, what reads give, or that with one byte at each position that is touched
abbrev pub chosen : Choice → File → List ℕ
chosen Synced file = file.durable.synced
chosen Written file = file.content
chosen (Byte byte) file = painted file.durable.touched byte 0 file.content

-- 7, 8 and 9 are synced, and 1 is written over the 8: the choices leave that, 7 1 9, and 7 5 9 where the byte is 5
abbrev pub one_written : File
one_written = written 1 (1 ∷ []) (at_rest (7 ∷ 8 ∷ 9 ∷ []))

pub choices_of_one_written : (chosen Synced one_written ≡ 7 ∷ 8 ∷ 9 ∷ []) × (chosen Written one_written ≡ 7 ∷ 1 ∷ 9 ∷ []) × (chosen (Byte 5) one_written ≡ 7 ∷ 5 ∷ 9 ∷ [])
choices_of_one_written = (refl, refl, refl)
