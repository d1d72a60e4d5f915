-- What bytes stand for if they begin with whole records, depending on what follows these.
use Rattle.std.proofs.Common.{◌≡◌, ◌↔◌, ◌+◌, ℕ, List, [], ◌∷◌, ◌++◌, drop, get_or, All, sym, ◌∙◌, ap, subst, refl}
use Rattle.std.proofs.lemmas.List.{append_assoc, drop-drop}
use Rattle.std.proofs.lemmas.List.Elements.{All-cons, All-head, All-tail}
use Rattle.journal.specs.Records.{record_of, records, IsShort, StandsFor}
use Rattle.journal.specs.Journal.{BreaksAt}
use Rattle.journal.proofs.Spelling.{one_record}
use Rattle.journal.specs.WholeRecords.{BeginsWith, BeginsWithNone, LeadsTo}

-- after records there is a next gate
next_gate : (payloads : List (List ℕ)) (gate : ℕ) (rest : List ℕ) → (next : ℕ) × (back : List ℕ) × (records payloads ++ gate ∷ rest ≡ next ∷ back)
next_gate [] gate rest = (gate, rest, refl)
next_gate (payload ∷ payloads) gate rest = (1, drop 1 (record_of payload) ++ records payloads ++ gate ∷ rest, refl)

-- bytes that stand for payloads begin with the record of the first
pub begins_with_first : (bytes payload : List ℕ) (payloads : List (List ℕ)) → StandsFor bytes (payload ∷ payloads) → BeginsWith payload bytes
begins_with_first bytes payload payloads stands =
    let next = next_gate payloads stands.gate stands.rest in
    record {
      short = All-head IsShort payload payloads stands.short;
      gate = next.0;
      rest = next.1;
      spelled = stands.spelled ∙ append_assoc (record_of payload) (records payloads) (stands.gate ∷ stands.rest) ∙ ap (λ (back : List ℕ). record_of payload ++ back) next.2;
    }

-- bytes with neither a whole record nor a closed gate at their front stand for no payloads
no_meaning : (payloads : List (List ℕ)) (bytes : List ℕ) → BeginsWithNone bytes → (StandsFor bytes [] → ⊥) → StandsFor bytes payloads → ⊥
no_meaning [] bytes none not_closed stands = not_closed stands
no_meaning (payload ∷ payloads) bytes none not_closed stands = none payload (begins_with_first bytes payload payloads stands)

-- bytes begin with only one record
pub one_in_front : (bytes one two : List ℕ) → BeginsWith one bytes → BeginsWith two bytes → one ≡ two
one_in_front bytes one two a b = (one_record one two _ _ a.short b.short (sym a.spelled ∙ b.spelled)).0

-- what follows the first record stands for the other payloads
pub others_stand : (payload first : List ℕ) (others : List (List ℕ)) (rest : List ℕ) → IsShort payload → StandsFor (record_of payload ++ rest) (first ∷ others) → StandsFor rest others
others_stand payload first others rest short stands = record {
  short = All-tail IsShort first others stands.short;
  gate = stands.gate;
  closed = stands.closed;
  rest = stands.rest;
  spelled = (one_record payload first rest _ short (All-head IsShort first others stands.short) (stands.spelled ∙ append_assoc (record_of first) (records others) (stands.gate ∷ stands.rest))).1;
}

-- the first payload is that of the first record, and what follows the record stands for the others
pub first_and_others : (payload : List ℕ) (payloads : List (List ℕ)) (rest : List ℕ) → StandsFor (record_of payload ++ rest) (payload ∷ payloads) ↔ (IsShort payload × StandsFor rest payloads)
first_and_others payload payloads rest = (
  λ stands. let short = All-head IsShort payload payloads stands.short in (short, others_stand payload payload payloads rest short stands),
  λ parts. record {
    short = All-cons IsShort payload payloads parts.0 parts.1.short;
    gate = parts.1.gate;
    closed = parts.1.closed;
    rest = parts.1.rest;
    spelled = ap (λ (back : List ℕ). record_of payload ++ back) parts.1.spelled ∙ sym (append_assoc (record_of payload) (records payloads) (parts.1.gate ∷ parts.1.rest));
  },
)

-- after the whole records there is neither another whole record nor a closed gate
pub breaks_at : (content bytes : List ℕ) (start end : ℕ) (payloads : List (List ℕ)) → bytes ≡ drop start content → LeadsTo bytes end payloads → BeginsWithNone (drop end bytes)
    → (StandsFor (drop end bytes) [] → ⊥) → BreaksAt start content (start + end)
breaks_at content bytes start end payloads is leads none not_closed =
    let behind : drop end bytes ≡ drop (start + end) content = ap (drop end) is ∙ drop-drop end start content in
    record {
      before = payloads;
      short = leads.short;
      leads = ap (λ (n : ℕ). start + n) leads.leads;
      spelled = sym is ∙ leads.spelled ∙ ap (λ (back : List ℕ). records payloads ++ back) behind;
      no_record = subst BeginsWithNone behind none;
      no_gate = λ stands. not_closed (subst (λ (back : List ℕ). StandsFor back []) (sym behind) stands);
    }

-- if bytes stand for payloads and begin with whole records, then what follows these records stands for payloads too
stands_behind : (before payloads : List (List ℕ)) (rest : List ℕ) → All IsShort before → StandsFor (records before ++ rest) payloads → (others : List (List ℕ)) × StandsFor rest others
stands_behind [] payloads rest short stands = (payloads, stands)
stands_behind (payload ∷ before) [] rest short stands = absurd (stands.closed (ap (λ (bytes : List ℕ). get_or bytes 0 0) (sym stands.spelled)))
stands_behind (payload ∷ before) (first ∷ others) rest short stands =
    stands_behind before others rest (All-tail IsShort payload before short)
    (others_stand payload first others (records before ++ rest) (All-head IsShort payload before short) (subst (λ (bytes : List ℕ). StandsFor bytes (first ∷ others)) (append_assoc (record_of payload) (records before) rest) stands))

-- bytes that break stand for nothing
pub nothing_stands : (start : ℕ) (content : List ℕ) (place : ℕ) → BreaksAt start content place → (payloads : List (List ℕ)) → StandsFor (drop start content) payloads → ⊥
nothing_stands start content place breaks payloads stands =
    let behind = stands_behind breaks.before payloads (drop place content) breaks.short (subst (λ (bytes : List ℕ). StandsFor bytes payloads) breaks.spelled stands) in
    no_meaning behind.0 (drop place content) breaks.no_record breaks.no_gate behind.1
