-- How the bytes of a record are read: each record by its length, and no record in two ways.
use Rattle.std.proofs.Common.{◌≡◌, ◌≤◌, ◌<◌, ◌+◌, ◌-◌, ◌^◌, ℕ, zero, suc, List, [], ◌∷◌, ◌++◌, length, take, drop, get_or, sym, ◌∙◌, ap, refl, arith}
use Rattle.std.specs.Prelude.{slice_range}
use Rattle.std.proofs.lemmas.List.{append_assoc, length-take-le, length-drop, take-append-drop, take_at, drop_at, drop_more, drop-drop}
use Rattle.std.proofs.lemmas.List.Elements.{All-head, All-tail}
use Rattle.std.proofs.lemmas.Nat.{le_bytes_4}
use Rattle.byteorder.specs.Endian.{little_bytes, little_number}
use Rattle.byteorder.specs.Numbers.{little_number-reads_back}
use Rattle.journal.specs.Records.{record_of, records, IsShort, StandsFor}
use Rattle.journal.specs.WholeRecords.{BeginsWith, IsRecordAt}

-- if two lists are equal and their front parts are equally long, then the front parts are equal, and so are the rests
same_front : (a b xs ys : List ℕ) → length a ≡ length b → a ++ xs ≡ b ++ ys → (a ≡ b) × (xs ≡ ys)
same_front a b xs ys long same = (
  sym (take_at a xs (length b) long) ∙ ap (take (length b)) same ∙ take_at b ys (length b) refl,
  sym (drop_at a xs (length b) long) ∙ ap (drop (length b)) same ∙ drop_at b ys (length b) refl,
)

-- the bytes after a record's gate are read as the length of its payload
pub length_read : (payload rest : List ℕ) → IsShort payload → little_number 4 (drop 1 (record_of payload ++ rest)) ≡ length payload
length_read payload rest short = little_number-reads_back 4 (length payload) (payload ++ rest) (omega arith)

-- no record equals another, nor begins with another
pub one_record : (a b xs ys : List ℕ) → IsShort a → IsShort b → record_of a ++ xs ≡ record_of b ++ ys → (a ≡ b) × (xs ≡ ys)
one_record a b xs ys short_a short_b same =
    let count = λ (bytes : List ℕ). little_number 4 (drop 1 bytes) in
    same_front a b xs ys (sym (length_read a xs short_a) ∙ ap count same ∙ length_read b ys short_b) (ap (drop 5) same)

-- bytes stand for only one list of payloads
pub one_meaning : (one two : List (List ℕ)) (bytes : List ℕ) → StandsFor bytes one → StandsFor bytes two → one ≡ two
one_meaning [] [] bytes a b = refl
one_meaning [] (y ∷ ys) bytes a b = absurd (a.closed (ap (λ (bytes : List ℕ). get_or bytes 0 0) (sym a.spelled ∙ b.spelled)))
one_meaning (x ∷ xs) [] bytes a b = absurd (b.closed (ap (λ (bytes : List ℕ). get_or bytes 0 0) (sym b.spelled ∙ a.spelled)))
one_meaning (x ∷ xs) (y ∷ ys) bytes a b =
    let same : record_of x ++ (records xs ++ a.gate ∷ a.rest) ≡ record_of y ++ (records ys ++ b.gate ∷ b.rest) = sym (append_assoc (record_of x) (records xs) (a.gate ∷ a.rest)) ∙ sym a.spelled ∙ b.spelled ∙ append_assoc (record_of y) (records ys) (b.gate ∷ b.rest) in
    let parts = one_record x y _ _ (All-head IsShort x xs a.short) (All-head IsShort y ys b.short) same in
    let rest = one_meaning xs ys (records xs ++ a.gate ∷ a.rest)
    (record { short = All-tail IsShort x xs a.short; gate = a.gate; closed = a.closed; rest = a.rest; spelled = refl })
    (record { short = All-tail IsShort y ys b.short; gate = b.gate; closed = b.closed; rest = b.rest; spelled = parts.1 }) in
    ap (λ (p : List ℕ). p ∷ xs) parts.0 ∙ ap (λ (ps : List (List ℕ)). y ∷ ps) rest

-- four bytes are all below 256
four_bytes : (a b c d : ℕ) → a < 256 → b < 256 → c < 256 → d < 256 → (k : ℕ) → get_or (a ∷ b ∷ c ∷ d ∷ []) k 0 < 256
four_bytes a b c d la lb lc ld zero = la
four_bytes a b c d la lb lc ld (suc zero) = lb
four_bytes a b c d la lb lc ld (suc (suc zero)) = lc
four_bytes a b c d la lb lc ld (suc (suc (suc zero))) = ld
four_bytes a b c d la lb lc ld (suc (suc (suc (suc k)))) = omega arith

-- bytes with an open gate begin with the record of the length that follows the gate
spells_record : (bytes : List ℕ) (count : ℕ) → ((k : ℕ) → get_or bytes k 0 < 256) → 5 + count ≤ length bytes → get_or bytes 0 0 ≡ 1 → count ≡ little_number 4 (drop 1 bytes)
    → bytes ≡ record_of (take count (drop 5 bytes)) ++ drop count (drop 5 bytes)
spells_record [] count low fits begins is = absurd (omega arith)
spells_record (gate ∷ []) count low fits begins is = absurd (omega arith)
spells_record (gate ∷ a ∷ []) count low fits begins is = absurd (omega arith)
spells_record (gate ∷ a ∷ b ∷ []) count low fits begins is = absurd (omega arith)
spells_record (gate ∷ a ∷ b ∷ c ∷ []) count low fits begins is = absurd (omega arith)
spells_record (gate ∷ a ∷ b ∷ c ∷ d ∷ rest) count low fits begins is =
    let long : length (take count rest) ≡ count = length-take-le count rest (omega arith) in
    let spelled : little_bytes 4 count ≡ a ∷ b ∷ c ∷ d ∷ [] = le_bytes_4 (a ∷ b ∷ c ∷ d ∷ []) count refl (four_bytes a b c d (low 1) (low 2) (low 3) (low 4)) (omega arith) in
    ap (λ (g : ℕ). g ∷ a ∷ b ∷ c ∷ d ∷ rest) begins ∙ ap (λ (bytes : List ℕ). 1 ∷ a ∷ b ∷ c ∷ d ∷ bytes) (sym (take-append-drop count rest))
    ∙ ap (λ (front : List ℕ). 1 ∷ front ++ (take count rest ++ drop count rest)) (sym spelled)
    ∙ ap (λ (n : ℕ). 1 ∷ little_bytes 4 n ++ (take count rest ++ drop count rest)) (sym long)

-- and the gate of a next record follows, if there are more bytes
pub first_stands : (bytes : List ℕ) (count : ℕ) → ((k : ℕ) → get_or bytes k 0 < 256) → 5 + count < length bytes → count < 2 ^ 32 → get_or bytes 0 0 ≡ 1 → count ≡ little_number 4 (drop 1 bytes)
    → BeginsWith (take count (drop 5 bytes)) bytes
first_stands bytes count low fits short begins is =
    let behind = drop 5 bytes in
    let room : 5 + count ≤ length bytes = omega arith in
    record {
      short = rw (length-take-le count behind (rw length-drop (omega arith))) short;
      gate = get_or behind count 0;
      rest = drop (count + 1) behind;
      spelled = spells_record bytes count low room begins is ∙ ap (λ (back : List ℕ). record_of (take count behind) ++ back) (drop_more behind count 0 (rw length-drop (omega arith)));
    }

-- the record that the bytes from a gate on begin with is at that gate
pub record_stands : (bytes payload : List ℕ) (gate : ℕ) → gate ≤ length bytes → BeginsWith payload (drop gate bytes) → IsRecordAt bytes gate (record { start = gate + 5; end = gate + 5 + length payload })
record_stands bytes payload gate within begins =
    let behind : drop (gate + 5) bytes ≡ payload ++ begins.gate ∷ begins.rest = sym (drop-drop 5 gate bytes) ∙ ap (drop 5) begins.spelled in
    let payload_is : slice_range bytes (gate + 5) (gate + 5 + length payload) ≡ payload =
    ap (λ (n : ℕ). take n (drop (gate + 5) bytes)) (let n : gate + 5 + length payload - (gate + 5) ≡ length payload = omega arith in n) ∙ ap (take (length payload)) behind ∙ take_at payload (begins.gate ∷ begins.rest) (length payload) refl in
    let back : begins.gate ∷ begins.rest ≡ drop (gate + 5 + length payload) bytes =
    sym (drop_at payload (begins.gate ∷ begins.rest) (length payload) refl) ∙ ap (drop (length payload)) (sym behind) ∙ drop-drop (length payload) (gate + 5) bytes in
    record {
      ordered = omega arith;
      within = omega (arith, within, ap length back, length-drop (gate + 5 + length payload) bytes);
      short = rw payload_is begins.short;
      leads = rw payload_is (omega arith);
      spelled = begins.spelled ∙ ap (λ (rest : List ℕ). record_of payload ++ rest) back ∙ ap (λ (p : List ℕ). record_of p ++ drop (gate + 5 + length payload) bytes) (sym payload_is);
    }
