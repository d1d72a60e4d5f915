-- A list of an image that is read element by element.
use Rattle.std.specs.Prelude.{◌≡◌, ℕ, zero, suc, List, [], ◌∷◌, Option, Some, None, Result, Ok, Err, if◌then◌else◌}
use Rattle.std.specs.declared.cmp.Ordering.{Ordering}
use Rattle.codec.specs.declared.error.CodecError.{CodecError}
use Rattle.codec.specs.declared.error.CodecError.TheVariants.{Order}
use Rattle.codec.specs.Reading.{Reading, comes_after}

-- what the bytes of a list are read as: its elements and the bytes after it, or a fault
abbrev pub ListRead : Type 0 → Type 0
ListRead X = Result (List X × List ℕ) CodecError

-- the elements that are not read yet, up to the first fault if there is one; and what ends them: the bytes after the list, or that fault
pub record Unread (X : Type 0) : Type 0 where
  pub elements : List X
  pub ends : Result (List ℕ) CodecError

abbrev pub stops : {X : Type 0} → CodecError → Unread X
stops error = record { elements = []; ends = Err error }

-- an element, and after it the others
abbrev pub led_by : {X : Type 0} → X → Unread X → Unread X
led_by x others = record { elements = x ∷ others.elements; ends = others.ends }

-- what an element leads to, if it is read
abbrev pub from_first : {X : Type 0} → Result (X × List ℕ) CodecError → (X → List ℕ → Unread X) → Unread X
from_first (Ok read) others = others read.0 read.1
from_first (Err error) others = stops error

-- this number of elements, each greater than the one before it
abbrev pub unread : {X : Type 0} → (X → X → Ordering) → Reading X → Option X → ℕ → List ℕ → Unread X
unread cmp element before zero bytes = record { elements = []; ends = Ok bytes }
unread cmp element before (suc count) bytes = from_first (element bytes) (λ x rest.
    if comes_after cmp before x then led_by x (unread cmp element (Some x) count rest) else stops Order)

-- what all of them are read as
abbrev pub with_end : {X : Type 0} → List X → Result (List ℕ) CodecError → ListRead X
with_end elements (Ok rest) = Ok (elements, rest)
with_end elements (Err error) = Err error

abbrev pub read_of : {X : Type 0} → Unread X → ListRead X
read_of list = with_end list.elements list.ends

-- the first element is handed out; or none is left, and these bytes come after the list; or the fault is reported that comes first
abbrev pub HandsOut : {X : Type 0} → Unread X → Unread X → Result (Option X) CodecError → Type 0
HandsOut {X} old new (Ok (Some x)) = old ≡ led_by x new
HandsOut {X} old new (Ok None) = (rest : List ℕ) × (old ≡ record { elements = []; ends = Ok rest }) × (new ≡ old)
HandsOut {X} old new (Err error) = old ≡ stops error

-- where no element is left, these are the bytes after the list
abbrev pub AreAfter : {X : Type 0} → Unread X → List ℕ → Type 0
AreAfter {X} list after = (rest : List ℕ) → list ≡ record { elements = []; ends = Ok rest } → after ≡ rest
