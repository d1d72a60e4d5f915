-- What bytes are read as, from the left: a value and the bytes after it, or the first fault. A key may have `most` components at most.
use Rattle.std.specs.Prelude.{ℕ, zero, suc, ◌-◌, ℤ, Bool, true, false, List, [], ◌∷◌, ◌++◌, map, length, take, drop, nat_lt, Option, Some, None, Result, Ok, Err, if◌then◌else◌}
use Rattle.std.specs.declared.cmp.Ordering.{Ordering}
use Rattle.std.specs.Ordering.{is_lt}
use Rattle.byteorder.specs.Endian.{little_number, twos_complement}
use Rattle.terms.specs.declared.name.Addr.{Addr}
use Rattle.terms.specs.declared.name.Tag.{Tag}
use Rattle.terms.specs.declared.name.Inst.{Inst}
use Rattle.terms.specs.declared.fault.FaultKind.{FaultKind}
use Rattle.terms.specs.declared.fault.FaultKind.TheVariants.{Overflow, DivisionByZero, Budget, DoublePut, TooManyPuts}
use Rattle.terms.specs.declared.producer.Producer.{Producer}
use Rattle.terms.specs.declared.producer.Producer.TheVariants.{Env, By}
use Rattle.terms.specs.declared.put.TheConstants.{MOST_PUTS}
use Rattle.terms.specs.declared.put.Put.{Put}
use Rattle.terms.specs.declared.put.Put.TheVariants as put
use Rattle.terms.specs.declared.event.Event.{Event}
use Rattle.terms.specs.declared.event.Event.TheVariants.{EnvItem, EnvTag, Done, Stopped}
use Rattle.terms.specs.Commits.{Commit}
use Rattle.terms.specs.Name.{inst_cmp}
use Rattle.codec.specs.declared.payload.TheConstants.{MOST_EVENTS}
use Rattle.codec.specs.declared.error.CodecError.{CodecError}
use Rattle.codec.specs.declared.error.CodecError.TheVariants.{Short, Kind, Range, Order, Trailing}
use Rattle.codec.specs.declared.image.Image.{Image}
use Rattle.codec.specs.Entries.{Item, MarkedTag, item_cmp, marked_cmp}

-- the value at the front of the bytes and the bytes after it, or a fault
abbrev pub Reading : Type 0 → Type 0
Reading X = List ℕ → Result (X × List ℕ) CodecError

-- a value for which no byte is read
abbrev pub always : {X : Type 0} → X → Reading X
always x bytes = Ok (x, bytes)

abbrev pub fails : {X : Type 0} → CodecError → Reading X
fails error bytes = Err error

-- one reading after another
abbrev pub go_on : {X Y : Type 0} → Result (X × List ℕ) CodecError → (X → Reading Y) → Result (Y × List ℕ) CodecError
go_on (Ok read) second = second read.0 read.1
go_on (Err error) second = Err error

abbrev pub next : {X Y : Type 0} → Reading X → (X → Reading Y) → Reading Y
next first second bytes = go_on (first bytes) second

-- `count` bytes, as a number
abbrev pub number : ℕ → Reading ℕ
number count bytes = if nat_lt (length bytes) count then Err Short else Ok (little_number count (take count bytes), drop count bytes)

abbrev pub value : Reading ℤ
value = next (number 8) (λ low. always (twos_complement 8 low))

-- this number of elements
abbrev pub several : {X : Type 0} → ℕ → Reading X → Reading (List X)
several zero element = always []
several (suc count) element = next element (λ x. next (several count element) (λ xs. always (x ∷ xs)))

-- a number in `width` bytes, and then this number of elements; a number above `greatest` is a fault before any element is read
abbrev pub counted : {X : Type 0} → ℕ → ℕ → Reading X → Reading (List X)
counted width greatest element = next (number width) (λ count. if nat_lt greatest count then fails Range else several count element)

abbrev pub key : ℕ → Reading (List ℤ)
key most = counted 1 most value

abbrev pub name : {X : Type 0} → ℕ → (ℕ → List ℤ → X) → Reading X
name most make = next (number 2) (λ collection. next (key most) (λ components. always (make collection components)))

abbrev pub address : ℕ → Reading Addr
address most = name most (λ collection components. record { collection = record { 0 = collection }; key = components })

abbrev pub tag : ℕ → Reading Tag
tag most = name most (λ collection components. record { collection = record { 0 = collection }; key = components })

abbrev pub instance : ℕ → Reading Inst
instance most = name most (λ collection components. record { collection = record { 0 = collection }; key = components })

-- the reading at this place of a list
abbrev pub chosen : {X : Type 0} → List (Reading X) → ℕ → Reading X
chosen [] place = fails Kind
chosen (first ∷ rest) zero = first
chosen (first ∷ rest) (suc place) = chosen rest place

-- the reading that has this number; the first of them has the number `first`
abbrev pub numbered : {X : Type 0} → ℕ → List (Reading X) → ℕ → Reading X
numbered first choices byte = if nat_lt byte first then fails Kind else chosen choices (byte - first)

-- a byte that says which of several readings follows
abbrev pub one_of : {X : Type 0} → ℕ → List (Reading X) → Reading X
one_of first choices = next (number 1) (numbered first choices)

abbrev pub put_item : ℕ → Reading Put
put_item most = next (address most) (λ a. next value (λ v. always (put.Item a v)))

abbrev pub put_tag : ℕ → Reading Put
put_tag most = next (tag most) (λ t. always (put.Tag t))

abbrev pub one_put : ℕ → Reading Put
one_put most = one_of 1 (put_item most ∷ put_tag most ∷ [])

abbrev pub fault_kind : Reading FaultKind
fault_kind = one_of 1 (always Overflow ∷ always DivisionByZero ∷ always Budget ∷ always DoublePut ∷ always TooManyPuts ∷ [])

abbrev pub env_item : ℕ → Reading Event
env_item most = next (address most) (λ a. next value (λ v. always (EnvItem a v)))

abbrev pub env_tag : ℕ → Reading Event
env_tag most = next (tag most) (λ t. always (EnvTag t))

abbrev pub done : ℕ → Reading Event
done most = next (instance most) (λ i. next (counted 4 MOST_PUTS (one_put most)) (λ puts. always (Done i puts)))

abbrev pub stopped : ℕ → Reading Event
stopped most = next (instance most) (λ i. next fault_kind (λ kind. always (Stopped i kind)))

-- what the byte of an event's kind is followed by
abbrev pub kinds : ℕ → List (Reading Event)
kinds most = env_item most ∷ env_tag most ∷ done most ∷ stopped most ∷ []

abbrev pub event : ℕ → Reading Event
event most = one_of 1 (kinds most)

-- ---- payloads

-- a commit of the one event that is read
abbrev pub alone : Reading Event → Reading Commit
alone reading = next reading (λ event. always (event ∷ []))

-- a number of events in two bytes, at least two, and these
abbrev pub group : ℕ → Reading Commit
group most = next (number 2) (λ count. if nat_lt count 2 then fails Range else if nat_lt MOST_EVENTS count then fails Range else several count (event most))

-- what the first byte of a payload is followed by: the kinds of events, and a group
abbrev pub payload_kinds : ℕ → List (Reading Commit)
payload_kinds most = map alone (kinds most) ++ group most ∷ []

abbrev pub payload : ℕ → Reading Commit
payload most = one_of 1 (payload_kinds most)

-- ---- images

-- the number of a put, which is below `MOST_PUTS`
abbrev pub put_number : Reading ℕ
put_number = next (number 4) (λ n. if nat_lt n MOST_PUTS then always n else fails Range)

abbrev pub by_instance : ℕ → Reading Producer
by_instance most = next (instance most) (λ i. next put_number (λ n. always (By i n)))

abbrev pub producer : ℕ → Reading Producer
producer most = one_of 0 (always Env ∷ by_instance most ∷ [])

abbrev pub item : ℕ → Reading Item
item most = next (address most) (λ a. next value (λ v. next (producer most) (λ by. always (a, v, by))))

abbrev pub mark : Reading Bool
mark = one_of 0 (always false ∷ always true ∷ [])

abbrev pub marked : ℕ → Reading MarkedTag
marked most = next (tag most) (λ t. next mark (λ m. always (t, m)))

-- whether an element may follow the one before it, if there is one
abbrev pub comes_after : {X : Type 0} → (X → X → Ordering) → Option X → X → Bool
comes_after cmp None x = true
comes_after cmp (Some before) x = is_lt (cmp before x)

-- this number of elements, each greater than the one before it; each is compared once it was read whole
abbrev pub rising : {X : Type 0} → (X → X → Ordering) → Reading X → Option X → ℕ → Reading (List X)
rising cmp element before zero = always []
rising cmp element before (suc count) = next element (λ x.
    if comes_after cmp before x then next (rising cmp element (Some x) count) (λ xs. always (x ∷ xs)) else fails Order)

abbrev pub list : {X : Type 0} → (X → X → Ordering) → Reading X → Reading (List X)
list cmp element = next (number 4) (rising cmp element None)

abbrev pub some_fault : ℕ → Reading (Option (Inst × FaultKind))
some_fault most = next (instance most) (λ i. next fault_kind (λ kind. always (Some (i, kind))))

abbrev pub image_fault : ℕ → Reading (Option (Inst × FaultKind))
image_fault most = one_of 0 (always None ∷ some_fault most ∷ [])

abbrev pub image : ℕ → Reading Image
image most = next (image_fault most) (λ f. next (list item_cmp (item most)) (λ items. next (list marked_cmp (marked most)) (λ tags. next (list inst_cmp (instance most)) (λ done.
    always (record { fault = f; items = items; tags = tags; done = done })))))

-- ---- the whole of the bytes

abbrev pub all_used : {X : Type 0} → X → List ℕ → Result X CodecError
all_used x [] = Ok x
all_used x (byte ∷ bytes) = Err Trailing

abbrev pub whole : {X : Type 0} → Result (X × List ℕ) CodecError → Result X CodecError
whole (Ok read) = all_used read.0 read.1
whole (Err error) = Err error

abbrev pub decoded_event : ℕ → List ℕ → Result Event CodecError
decoded_event most bytes = whole (event most bytes)

abbrev pub decoded_payload : ℕ → List ℕ → Result Commit CodecError
decoded_payload most bytes = whole (payload most bytes)

abbrev pub decoded_image : ℕ → List ℕ → Result Image CodecError
decoded_image most bytes = whole (image most bytes)
