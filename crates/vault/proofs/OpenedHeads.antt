-- What the first ten bytes of a file say of all of it.
use Rattle.std.proofs.Common.{◌≡◌, ◌≤◌, ◌<◌, ℕ, zero, suc, List, [], ◌∷◌, ◌++◌, length, take, drop, min, sym, ap, subst, ◌∙◌, arith}
use Rattle.std.proofs.lemmas.List.{length-take-le, take-append-drop, take-append-le, take_all}
use Rattle.sides.specs.declared.gate.Gate.{Gate}
use Rattle.sides.specs.declared.gate.Gate.TheVariants.{Closed, Short, Open}
use Rattle.sides.specs.Reading.{Tells}
use Rattle.sides.specs.Side.{IsOpen, HasGeneration}

-- a side with a generation is open, and has ten bytes or more
pub opens : (bytes : List ℕ) (generation : ℕ) → HasGeneration bytes generation → IsOpen bytes × (10 ≤ length bytes)
opens bytes n has = ((_, has.1.2), omega (arith, ap length has.1.2))

-- it has it with more bytes after it too
generation_goes_on : (front rest : List ℕ) (generation : ℕ) → HasGeneration front generation → HasGeneration (front ++ rest) generation
generation_goes_on front rest n has = (has.0, (has.1.0, has.1.1 ++ rest, ap (λ (l : List ℕ). l ++ rest) has.1.2))

-- a prefix that is not empty is open exactly where all bytes are
front_open : (bytes : List ℕ) (known : ℕ) → IsOpen bytes → 0 < known → IsOpen (take known bytes)
front_open bytes zero opened some = absurd (omega arith)
front_open bytes (suc known) opened some = (take known opened.0, ap (take (suc known)) opened.1)

all_open : (bytes : List ℕ) (known : ℕ) → IsOpen (take known bytes) → IsOpen bytes
all_open bytes zero opened = let never = opened.1 in absurd (cc)
all_open [] (suc known) opened = let never = opened.1 in absurd (cc)
all_open (byte ∷ bytes) (suc known) opened = let is : byte ≡ 1 = cc (opened.1) in (bytes, ap (λ (b : ℕ). b ∷ bytes) is)

long_opened : (bytes : List ℕ) → IsOpen bytes → 0 < length bytes
long_opened bytes opened = subst (λ (l : List ℕ). 0 < length l) (sym opened.1) (omega arith)

-- what was read into the front of a buffer of ten bytes is the head
pub head_is : (content mid buffer zeros behind : List ℕ) (known count : ℕ) → buffer ≡ take (length (take known zeros)) mid → mid ≡ content → known ≡ min count 10 → count ≡ length content → length zeros ≡ 10
    → take known (buffer ++ behind) ≡ take known content
head_is content mid buffer zeros behind known count read same few count_is ten =
    ap (λ (l : List ℕ). take known (l ++ behind)) front ∙ take-append-le known (take known content) behind (omega (arith, whole)) ∙ take_all known (take known content) (omega (arith, whole))
  where
    asked : length (take known zeros) ≡ known
    asked = length-take-le known zeros (omega (arith, few, ten))

    whole : length (take known content) ≡ known
    whole = length-take-le known content (omega (arith, few, count_is))

    front : buffer ≡ take known content
    front = read ∙ ap (λ (n : ℕ). take n mid) asked ∙ ap (take known) same

-- what the head says holds of the whole file
pub head_tells : (gate : Gate) (bytes : List ℕ) (known : ℕ) → known ≡ min (length bytes) 10 → Tells gate (take known bytes) → Tells gate bytes
head_tells Closed bytes known is told = λ (opened : IsOpen bytes). told (front_open bytes known opened (omega (arith, is, long_opened bytes opened)))
head_tells Short bytes known is told =
    let few : length (take known bytes) ≡ known = length-take-le known bytes (omega (arith, is)) in
    (all_open bytes known told.0, omega (arith, is, few, told.1))
head_tells (Open n) bytes known is told = subst (λ (l : List ℕ). HasGeneration l n) (take-append-drop known bytes) (generation_goes_on (take known bytes) (drop known bytes) n told)
