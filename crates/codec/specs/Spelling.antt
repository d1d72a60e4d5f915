-- The bytes of a value; numbers have their lowest byte first. Which values have a spelling depends on how many components a key may have: `most`.
use Rattle.std.specs.Prelude.{◌≡◌, ◌≤◌, ◌<◌, ◌^◌, ℕ, ⊤, ℤ, List, [], ◌∷◌, ◌++◌, length, Option, Some, None, FitsSigned, if◌then◌else◌}
use Rattle.std.specs.declared.cmp.Ordering.{Ordering}
use Rattle.std.specs.List.{flat_map, AllByRecursion}
use Rattle.std.specs.Int.{w64, cast_unsigned}
use Rattle.byteorder.specs.Endian.{little_bytes}
use Rattle.terms.specs.declared.name.Addr.{Addr}
use Rattle.terms.specs.declared.name.Tag.{Tag}
use Rattle.terms.specs.declared.name.Inst.{Inst}
use Rattle.terms.specs.declared.fault.FaultKind.{FaultKind}
use Rattle.terms.specs.declared.producer.Producer.{Producer}
use Rattle.terms.specs.declared.producer.Producer.TheVariants.{Env, By}
use Rattle.terms.specs.declared.put.TheConstants.{MOST_PUTS}
use Rattle.terms.specs.declared.put.Put.{Put}
use Rattle.terms.specs.declared.put.Put.TheVariants as put
use Rattle.terms.specs.declared.event.Event.{Event}
use Rattle.terms.specs.declared.event.Event.TheVariants.{EnvItem, EnvTag, Done, Stopped}
use Rattle.terms.specs.Fault.{fault_number}
use Rattle.codec.specs.declared.image.Image.{Image}
use Rattle.codec.specs.Entries.{Item, MarkedTag, item_cmp, marked_cmp, Rises}
use Rattle.terms.specs.Name.{inst_cmp}

-- a value in eight bytes, in two's complement
abbrev pub value_bytes : ℤ → List ℕ
value_bytes value = little_bytes 8 (cast_unsigned w64 value)

-- the number of components, and the components
abbrev pub key_bytes : List ℤ → List ℕ
key_bytes key = length key ∷ flat_map value_bytes key

-- the number of a collection, and a key
abbrev pub name_bytes : ℕ → List ℤ → List ℕ
name_bytes collection key = little_bytes 2 collection ++ key_bytes key

abbrev pub addr_bytes : Addr → List ℕ
addr_bytes address = name_bytes address.collection.0 address.key

abbrev pub tag_bytes : Tag → List ℕ
tag_bytes tag = name_bytes tag.collection.0 tag.key

abbrev pub inst_bytes : Inst → List ℕ
inst_bytes instance = name_bytes instance.collection.0 instance.key

abbrev pub put_bytes : Put → List ℕ
put_bytes (put.Item address value) = 1 ∷ addr_bytes address ++ value_bytes value
put_bytes (put.Tag tag) = 2 ∷ tag_bytes tag

-- the number of elements in four bytes, and the elements
abbrev pub list_bytes : {X : Type 0} → (X → List ℕ) → List X → List ℕ
list_bytes bytes elements = little_bytes 4 (length elements) ++ flat_map bytes elements

abbrev pub event_bytes : Event → List ℕ
event_bytes (EnvItem address value) = 1 ∷ addr_bytes address ++ value_bytes value
event_bytes (EnvTag tag) = 2 ∷ tag_bytes tag
event_bytes (Done instance puts) = 3 ∷ inst_bytes instance ++ list_bytes put_bytes puts
event_bytes (Stopped instance kind) = 4 ∷ inst_bytes instance ++ fault_number kind ∷ []

abbrev pub producer_bytes : Producer → List ℕ
producer_bytes Env = 0 ∷ []
producer_bytes (By instance number) = 1 ∷ inst_bytes instance ++ little_bytes 4 number

abbrev pub item_bytes : Item → List ℕ
item_bytes item = addr_bytes item.0 ++ value_bytes item.1 ++ producer_bytes item.2

-- the tag, and 1 if the environment put it, else 0
abbrev pub marked_bytes : MarkedTag → List ℕ
marked_bytes marked = tag_bytes marked.0 ++ (if marked.1 then 1 else 0) ∷ []

-- 0, or 1 with the instance and the kind
abbrev pub fault_bytes : Option (Inst × FaultKind) → List ℕ
fault_bytes None = 0 ∷ []
fault_bytes (Some fault) = 1 ∷ inst_bytes fault.0 ++ fault_number fault.1 ∷ []

abbrev pub image_bytes : Image → List ℕ
image_bytes image = fault_bytes image.fault ++ list_bytes item_bytes image.items ++ list_bytes marked_bytes image.tags ++ list_bytes inst_bytes image.done

-- ---- which values have a spelling

abbrev pub IsName : ℕ → ℕ → List ℤ → Type 0
IsName most collection key = (collection < 2 ^ 16) × (length key ≤ most) × AllByRecursion (FitsSigned w64) key

abbrev pub IsInstance : ℕ → Inst → Type 0
IsInstance most instance = IsName most instance.collection.0 instance.key

abbrev pub IsPut : ℕ → Put → Type 0
IsPut most (put.Item address value) = IsName most address.collection.0 address.key × FitsSigned w64 value
IsPut most (put.Tag tag) = IsName most tag.collection.0 tag.key

abbrev pub IsEvent : ℕ → Event → Type 0
IsEvent most (EnvItem address value) = IsName most address.collection.0 address.key × FitsSigned w64 value
IsEvent most (EnvTag tag) = IsName most tag.collection.0 tag.key
IsEvent most (Done instance puts) = IsInstance most instance × (length puts ≤ MOST_PUTS) × AllByRecursion (IsPut most) puts
IsEvent most (Stopped instance kind) = IsInstance most instance

abbrev pub IsProducer : ℕ → Producer → Type 0
IsProducer most Env = ⊤
IsProducer most (By instance number) = IsInstance most instance × (number < MOST_PUTS)

-- the number of a producer's put is one that a put may have
abbrev pub IsNumbered : Producer → Type 0
IsNumbered Env = ⊤
IsNumbered (By instance number) = number < MOST_PUTS

abbrev pub IsItem : ℕ → Item → Type 0
IsItem most item = IsName most item.0.collection.0 item.0.key × FitsSigned w64 item.1 × IsProducer most item.2

abbrev pub IsMarked : ℕ → MarkedTag → Type 0
IsMarked most marked = IsName most marked.0.collection.0 marked.0.key

abbrev pub IsFault : ℕ → Option (Inst × FaultKind) → Type 0
IsFault most None = ⊤
IsFault most (Some fault) = IsInstance most fault.0

-- a list whose elements are all such, in strictly rising order, and whose length fits in four bytes
pub record IsList {X : Type 0} (Is : X → Type 0) (cmp : X → X → Ordering) (elements : List X) : Type 0 where
  pub few : length elements < 2 ^ 32
  pub each : AllByRecursion Is elements
  pub rises : Rises cmp elements

pub record IsImage (most : ℕ) (image : Image) : Type 0 where
  pub fault : IsFault most image.fault
  pub items : IsList (IsItem most) item_cmp image.items
  pub tags : IsList (IsMarked most) marked_cmp image.tags
  pub done : IsList (IsInstance most) inst_cmp image.done

-- what a caller must ensure for an event: an instance made no more puts than it may
abbrev pub HasFewPuts : Event → Type 0
HasFewPuts (EnvItem address value) = ⊤
HasFewPuts (EnvTag tag) = ⊤
HasFewPuts (Done instance puts) = length puts ≤ MOST_PUTS
HasFewPuts (Stopped instance kind) = ⊤

-- and for an item: the number of its put is one that a put may have
abbrev pub HasPutNumber : Item → Type 0
HasPutNumber item = IsNumbered item.2

-- the bytes are the spelling of this event; and of this image
abbrev pub SpellsEvent : ℕ → List ℕ → Event → Type 0
SpellsEvent most bytes event = IsEvent most event × (bytes ≡ event_bytes event)

abbrev pub SpellsImage : ℕ → List ℕ → Image → Type 0
SpellsImage most bytes image = IsImage most image × (bytes ≡ image_bytes image)
