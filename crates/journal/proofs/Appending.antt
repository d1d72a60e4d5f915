-- What a file stands for while a record is appended: it is written behind the closed gate first, and then the gate is opened.
use Rattle.std.proofs.Common.{◌≡◌, ◌≢◌, ◌⊎◌, inl, inr, ℕ, ◌+◌, ◌≤◌, ◌<◌, ◌^◌, List, [], ◌∷◌, ◌++◌, length, take, drop, get_or, All, sym, ap, subst, ◌∙◌, arith, append_assoc, length-append, length-take, length-drop, take-append-drop}
use Rattle.std.proofs.lemmas.List.{take_at, take-append-le, take-take, drop_at, drop_more, drop-drop}
use Rattle.std.proofs.lemmas.List.Elements.{All-append, All-cons, All-nil}
use Rattle.std.proofs.lemmas.Grind.{flat_map-append}
use Rattle.std.proofs.lemmas.Bool.{cases_eq}
use Rattle.byteorder.specs.Endian.{little_bytes}
use Rattle.disk.specs.declared.side.Side.{Side}
use Rattle.disk.specs.File.{File, WriteLeaves, overwritten}
use Rattle.disk.specs.Time.{Contents, OtherStays, OtherMayBe, LeavesOnly}
use Rattle.disk.specs.Moments.{joined, other_before}
use Rattle.journal.specs.Records.{record_of, records, IsShort, StandsFor}
use Rattle.journal.specs.Journal.{BeforeOrAfter}

pub records-append : (payloads added : List (List ℕ)) → records (payloads ++ added) ≡ records payloads ++ records added
records-append = flat_map-append record_of

-- payloads whose records are this short are short
pub short_within : (added : List (List ℕ)) → length (records added) < 2 ^ 32 → All IsShort added
short_within [] less = All-nil IsShort
short_within (payload ∷ added) less =
    let long : length (records (payload ∷ added)) ≡ 1 + length (little_bytes 4 (length payload)) + length payload + length (records added) =
    omega (arith, length-append (record_of payload) (records added), length-append (little_bytes 4 (length payload)) payload) in
    All-cons IsShort payload added (omega (arith, long)) (short_within added (omega (arith, long)))

-- records begin with an open gate
pub opens : (added : List (List ℕ)) (first : ℕ) (without : List ℕ) → first ∷ without ≡ records added → first ≡ 1
opens [] first without is = cc
opens (payload ∷ added) first without is = ap (λ (l : List ℕ). get_or l 0 0) is

-- ---- a file in parts: what is in front of the journal, the records, a gate, and what is behind it

module _ (front recs : List ℕ) (start end : ℕ) (long : length front ≡ start) (ends : end ≡ start + length recs) where
  abbrev pub parts : ℕ → List ℕ → List ℕ
  parts gate behind = front ++ (recs ++ gate ∷ behind)

  to_gate : (gate : ℕ) (behind : List ℕ) → parts gate behind ≡ (front ++ recs) ++ gate ∷ behind
  to_gate gate behind = sym (append_assoc front recs (gate ∷ behind))

  past_gate : (gate : ℕ) (behind : List ℕ) → parts gate behind ≡ (front ++ recs ++ gate ∷ []) ++ behind
  past_gate gate behind = to_gate gate behind ∙ sym (append_assoc (front ++ recs) (gate ∷ []) behind)

  length_to_gate : length (front ++ recs) ≡ end
  length_to_gate = omega (arith, length-append front recs)

  length_past_gate : (gate : ℕ) → length (front ++ recs ++ gate ∷ []) ≡ end + 1
  length_past_gate gate = omega (arith, length_to_gate, length-append (front ++ recs) (gate ∷ []))

  pub length-parts : (gate : ℕ) (behind : List ℕ) → length (parts gate behind) ≡ end + 1 + length behind
  length-parts gate behind = ap length (past_gate gate behind) ∙ omega (arith, length_past_gate gate, length-append (front ++ recs ++ gate ∷ []) behind)

  -- a file that keeps everything up to the gate, and the gate itself
  pub gate_kept : (gate : ℕ) (behind c : List ℕ) → take (end + 1) c ≡ take (end + 1) (parts gate behind) → c ≡ parts gate (drop (end + 1) c)
  gate_kept gate behind c same =
      sym (take-append-drop (end + 1) c)
      ∙ ap (λ (l : List ℕ). l ++ drop (end + 1) c) (same ∙ ap (take (end + 1)) (past_gate gate behind) ∙ take_at (front ++ recs ++ gate ∷ []) behind (end + 1) (length_past_gate gate))
      ∙ sym (past_gate gate (drop (end + 1) c))

  -- a file that keeps everything but the gate
  pub gate_open : (gate : ℕ) (behind c : List ℕ) → WriteLeaves (parts gate behind) end 1 c → c ≡ parts (get_or c end 0) behind
  gate_open gate behind c left =
      let within : end + 1 ≤ length (parts gate behind) = omega (arith, length-parts gate behind) in
      let same_length = left.length_stays within in
      sym (take-append-drop end c)
      ∙ ap (λ (l : List ℕ). l ++ drop end c) (left.front ∙ ap (take end) (to_gate gate behind) ∙ take_at (front ++ recs) (gate ∷ behind) end length_to_gate)
      ∙ ap (λ (l : List ℕ). front ++ recs ++ l) (drop_more c end 0 (omega (arith, same_length, length-parts gate behind)))
      ∙ ap (λ (l : List ℕ). front ++ recs ++ get_or c end 0 ∷ l) (left.back within ∙ ap (drop (end + 1)) (past_gate gate behind) ∙ drop_at (front ++ recs ++ gate ∷ []) behind (end + 1) (length_past_gate gate))
      ∙ sym (to_gate (get_or c end 0) behind)

  -- bytes written behind the gate
  pub behind_gate : (gate : ℕ) (behind bytes : List ℕ) → overwritten (parts gate behind) (end + 1) bytes ≡ parts gate (bytes ++ drop (length bytes) behind)
  behind_gate gate behind bytes =
      ap (λ (l : List ℕ). overwritten l (end + 1) bytes) (past_gate gate behind)
      ∙ ap (λ (l : List ℕ). l ++ bytes ++ drop (end + 1 + length bytes) ((front ++ recs ++ gate ∷ []) ++ behind)) (take_at (front ++ recs ++ gate ∷ []) behind (end + 1) (length_past_gate gate))
      ∙ ap (λ (l : List ℕ). (front ++ recs ++ gate ∷ []) ++ bytes ++ l) (sym (drop-drop (length bytes) (end + 1) ((front ++ recs ++ gate ∷ []) ++ behind)) ∙ ap (drop (length bytes)) (drop_at (front ++ recs ++ gate ∷ []) behind (end + 1) (length_past_gate gate)))
      ∙ append_assoc (front ++ recs ++ gate ∷ []) bytes (drop (length bytes) behind)
      ∙ sym (past_gate gate (bytes ++ drop (length bytes) behind))

  -- the gate opened
  pub opened_gate : (gate : ℕ) (behind : List ℕ) → overwritten (parts gate behind) end (1 ∷ []) ≡ parts 1 behind
  opened_gate gate behind =
      ap (λ (l : List ℕ). l ++ 1 ∷ [] ++ drop (end + 1) (parts gate behind)) (ap (take end) (to_gate gate behind) ∙ take_at (front ++ recs) (gate ∷ behind) end length_to_gate)
      ∙ ap (λ (l : List ℕ). front ++ recs ++ 1 ∷ [] ++ l) (ap (drop (end + 1)) (past_gate gate behind) ∙ drop_at (front ++ recs ++ gate ∷ []) behind (end + 1) (length_past_gate gate))
      ∙ sym (past_gate 1 behind)

  pub front_of : (gate : ℕ) (behind c : List ℕ) → c ≡ parts gate behind → take start c ≡ front
  front_of gate behind c is = ap (take start) is ∙ take_at front (recs ++ gate ∷ behind) start long

  pub rest_of : (gate : ℕ) (behind c : List ℕ) → c ≡ parts gate behind → drop start c ≡ recs ++ gate ∷ behind
  rest_of gate behind c is = ap (drop start) is ∙ drop_at front (recs ++ gate ∷ behind) start long

-- ---- what a file in parts stands for

module _ (start : ℕ) (content : List ℕ) (payloads : List (List ℕ)) (end : ℕ) (stands : StandsFor (drop start content) payloads) (ends : end ≡ start + length (records payloads)) where
  abbrev front : List ℕ
  front = take start content

  abbrev pub with_gate : ℕ → List ℕ → List ℕ
  with_gate gate behind = front ++ (records payloads ++ gate ∷ behind)

  reaches : start ≤ length content
  reaches = omega (arith, ap length stands.spelled, length-drop start content, length-append (records payloads) (stands.gate ∷ stands.rest))

  long : length front ≡ start
  long = omega (arith, reaches, length-take start content)

  pub whole : content ≡ with_gate stands.gate stands.rest
  whole = sym (take-append-drop start content) ∙ ap (λ (l : List ℕ). front ++ l) stands.spelled

  pub end_within : end < length content
  end_within = omega (arith, ap length whole, length-parts front (records payloads) start end long ends stands.gate stands.rest)

  -- behind a closed gate nothing counts
  pub stands_before : (gate : ℕ) (behind c : List ℕ) → gate ≢ 1 → c ≡ with_gate gate behind → StandsFor (drop start c) payloads
  stands_before gate behind c closed is = record {
    short = stands.short;
    gate = gate;
    closed = closed;
    rest = behind;
    spelled = rest_of front (records payloads) start end long ends gate behind c is;
  }

  pub front_kept : (gate : ℕ) (behind c : List ℕ) → c ≡ with_gate gate behind → take start c ≡ front
  front_kept gate behind c is = front_of front (records payloads) start end long ends gate behind c is

  module _ (added : List (List ℕ)) where
    -- a crash while the records are written behind the gate
    pub crash_behind : (count : ℕ) (c : List ℕ) → WriteLeaves content (end + 1) count c → BeforeOrAfter start content payloads added c
    crash_behind count c left =
        let is : c ≡ with_gate stands.gate (drop (end + 1) c) = gate_kept front (records payloads) start end long ends stands.gate stands.rest c (left.front ∙ ap (take (end + 1)) whole) in
        record { front = front_kept stands.gate (drop (end + 1) c) c is; stands = inl (stands_before stands.gate (drop (end + 1) c) c stands.closed is) }

    pub end_after : end + length (records added) ≡ start + length (records (payloads ++ added))
    end_after = omega (arith, ap length (records-append payloads added), length-append (records payloads) (records added))

    -- `without` is the records without the gate of the first; `ahead` is what is written behind the new closed gate: it never counts
    module _ (short : All IsShort added) (without : List ℕ) (spelled : records added ≡ 1 ∷ without) (ahead : List ℕ) where
      abbrev rest : List ℕ
      rest = drop (length (without ++ 0 ∷ ahead)) stands.rest

      -- what is behind the gate once the records are written there
      abbrev pub staged : List ℕ
      staged = (without ++ 0 ∷ ahead) ++ rest

      stands_after : (c : List ℕ) → c ≡ with_gate 1 staged → StandsFor (drop start c) (payloads ++ added)
      stands_after c is = record {
        short = All-append IsShort payloads added stands.short short;
        gate = 0;
        closed = omega arith;
        rest = ahead ++ rest;
        spelled =
            rest_of front (records payloads) start end long ends 1 staged c is
            ∙ ap (λ (l : List ℕ). records payloads ++ 1 ∷ l) (append_assoc without (0 ∷ ahead) rest)
            ∙ ap (λ (l : List ℕ). records payloads ++ (l ++ 0 ∷ (ahead ++ rest))) (sym spelled)
            ∙ sym (append_assoc (records payloads) (records added) (0 ∷ (ahead ++ rest)))
            ∙ ap (λ (l : List ℕ). l ++ 0 ∷ (ahead ++ rest)) (sym (records-append payloads added));
      }

      abbrev pub after_stage : List ℕ
      after_stage = overwritten content (end + 1) (without ++ 0 ∷ ahead)

      pub after_stage_is : after_stage ≡ with_gate stands.gate staged
      after_stage_is = ap (λ (l : List ℕ). overwritten l (end + 1) (without ++ 0 ∷ ahead)) whole ∙ behind_gate front (records payloads) start end long ends stands.gate stands.rest (without ++ 0 ∷ ahead)

      -- a crash while the gate is opened
      pub crash_at_gate : (c : List ℕ) → WriteLeaves after_stage end 1 c → BeforeOrAfter start content payloads added c
      crash_at_gate c left =
          let gate = get_or c end 0 in
          let is : c ≡ with_gate gate staged = gate_open front (records payloads) start end long ends stands.gate staged c (subst (λ (l : List ℕ). WriteLeaves l end 1 c) after_stage_is left) in
          record { front = front_kept gate staged c is; stands = by gate is }
        where
          by : (gate : ℕ) → c ≡ with_gate gate staged → StandsFor (drop start c) payloads ⊎ StandsFor (drop start c) (payloads ++ added)
          by gate is = elim (cases_eq gate 1) [
            | inl open_gate ↦ inr (stands_after c (is ∙ ap (λ (g : ℕ). with_gate g staged) open_gate))
            | inr shut ↦ inl (stands_before gate staged c shut is)
          ]

      -- and the file when it is open
      pub appended : StandsFor (drop start (overwritten after_stage end (1 ∷ []))) (payloads ++ added)
      appended = stands_after _ (ap (λ (l : List ℕ). overwritten l end (1 ∷ [])) after_stage_is ∙ opened_gate front (records payloads) start end long ends stands.gate staged)

-- a crash before the first call of the disk
pub crash_now : (start : ℕ) (content : List ℕ) (payloads added : List (List ℕ)) → StandsFor (drop start content) payloads → (c : List ℕ) → c ≡ content → BeforeOrAfter start content payloads added c
crash_now start content payloads added stands c is = record { front = ap (take start) is; stands = inl (subst (λ (l : List ℕ). StandsFor (drop start l) payloads) (sym is) stands) }

-- what was written behind a gate, and then the gate itself, was written at once
pub written_in_two : (content : List ℕ) (end first : ℕ) (behind : List ℕ) → end < length content → overwritten (overwritten content (end + 1) behind) end (first ∷ []) ≡ overwritten content end (first ∷ behind)
written_in_two content end first behind within =
    ap (λ (l : List ℕ). l ++ first ∷ [] ++ drop (end + 1) between) before
    ∙ ap (λ (l : List ℕ). take end content ++ first ∷ [] ++ l) after
    ∙ append_assoc (take end content) (first ∷ []) (behind ++ drop (end + 1 + length behind) content)
    ∙ sym (append_assoc (take end content) (first ∷ behind) (drop (end + 1 + length behind) content))
    ∙ ap (λ (n : ℕ). take end content ++ first ∷ behind ++ drop n content) (omega arith)
  where
    between : List ℕ
    between = overwritten content (end + 1) behind

    here : length (take (end + 1) content) ≡ end + 1
    here = omega (arith, within, length-take (end + 1) content)

    before : take end between ≡ take end content
    before =
        ap (take end) (append_assoc (take (end + 1) content) behind (drop (end + 1 + length behind) content))
        ∙ take-append-le end (take (end + 1) content) (behind ++ drop (end + 1 + length behind) content) (omega (arith, here))
        ∙ take-take end (end + 1) content (omega arith)

    after : drop (end + 1) between ≡ behind ++ drop (end + 1 + length behind) content
    after = ap (drop (end + 1)) (append_assoc (take (end + 1) content) behind (drop (end + 1 + length behind) content)) ∙ drop_at (take (end + 1) content) (behind ++ drop (end + 1 + length behind) content) (end + 1) here

-- ---- the two steps of an append, at every moment

module _ {D : Type 0} (moment : D → ℕ) (left_at : D → ℕ → Contents → Type 0) (old mid new : D) (side : Side) (before between : Side → File) (stays : OtherStays side before between) where
  pub moments_of_both : (start : ℕ) (content : List ℕ) (payloads added : List (List ℕ)) (without ahead : List ℕ) (end count : ℕ) (stands : StandsFor (drop start content) payloads) (ends : end ≡ start + length (records payloads))
      → All IsShort added → records added ≡ 1 ∷ without
      → LeavesOnly moment left_at old mid (λ contents. WriteLeaves content (end + 1) count (contents side) × OtherMayBe side before contents)
      → LeavesOnly moment left_at mid new (λ contents. WriteLeaves (overwritten content (end + 1) (without ++ 0 ∷ ahead)) end 1 (contents side) × OtherMayBe side between contents)
      → LeavesOnly moment left_at old new (λ contents. BeforeOrAfter start content payloads added (contents side) × OtherMayBe side before contents)
  moments_of_both start content payloads added without ahead end count stands ends short spelled first second =
      joined moment left_at old mid new _ _ _ first second
      (λ contents leaves. (crash_behind start content payloads end stands ends added count (contents side) leaves.0, leaves.1))
      (λ contents leaves. (crash_at_gate start content payloads end stands ends added short without spelled ahead (contents side) leaves.0, other_before side before between stays contents leaves.1))

  -- the other file
  pub other_moments : (P : Contents → Type 0) → LeavesOnly moment left_at old mid (OtherMayBe side before)
      → LeavesOnly moment left_at mid new (λ contents. P contents × OtherMayBe side between contents) → LeavesOnly moment left_at old new (OtherMayBe side before)
  other_moments P first second =
      joined moment left_at old mid new _ _ _ first second (λ contents leaves. leaves) (λ contents leaves. other_before side before between stays contents leaves.1)

-- ---- the first gate of a journal

-- what was not written is as it was
pub unwritten : (content : List ℕ) (at count : ℕ) → at ≤ length content → (c : List ℕ) → c ≡ content → WriteLeaves content at count c
unwritten content at count le c is = record {
  front = ap (take at) is;
  reaches = omega (arith, ap length is);
  length_stays = λ within. ap length is;
  back = λ within. ap (drop (at + count)) is;
}

-- behind the first closed gate there is no payload yet
pub stands_for_none : (content : List ℕ) (at : ℕ) → at ≤ length content → StandsFor (drop at (overwritten content at (0 ∷ []))) []
stands_for_none content at le = record {
  short = All-nil IsShort;
  gate = 0;
  closed = omega arith;
  rest = drop (at + 1) content;
  spelled = ap (drop at) (append_assoc (take at content) (0 ∷ []) (drop (at + 1) content)) ∙ drop_at (take at content) (0 ∷ drop (at + 1) content) at (omega (arith, length-take at content));
}
