-- How the values that maps keep stand there: as small numbers and words.
use Rattle.std.specs.Prelude.{◌≡◌, ⊤, ℕ, zero, suc, ℤ, pos, Bool, true, false, List, [], ◌∷◌, refl}
use Rattle.terms.specs.declared.producer.Producer.{Producer}
use Rattle.terms.specs.declared.producer.Producer.TheVariants.{Env, By}
use Rattle.maps.specs.declared.stored.Brief.{Brief}

abbrev pub no_brief : Brief
no_brief = record { number = 0; half = 0; small = 0 }

abbrev pub no_words : {X : Type 0} → X → List ℤ
no_words _ = []

pub same_unit : (value : ⊤) → tt ≡ value
same_unit value = refl

-- ---- a mark

abbrev pub bool_brief : Bool → Brief
bool_brief false = no_brief
bool_brief true = record { number = 0; half = 0; small = 1 }

abbrev is_some : ℕ → Bool
is_some zero = false
is_some (suc n) = true

abbrev pub bool_said : Brief → List ℤ → Bool
bool_said brief words = is_some brief.small

pub same_bool : (value : Bool) → bool_said (bool_brief value) (no_words value) ≡ value
same_bool false = refl
same_bool true = refl

-- ---- an item: the words are its value, and the key of the instance that put it

abbrev pub producer_brief : Producer → Brief
producer_brief Env = no_brief
producer_brief (By instance number) = record { number = number; half = instance.collection.0; small = 1 }

abbrev pub producer_words : Producer → List ℤ
producer_words Env = []
producer_words (By instance number) = instance.key

abbrev pub by_whom_at : ℕ → Brief → List ℤ → Producer
by_whom_at zero brief key = Env
by_whom_at (suc small) brief key = By (record { collection = record { 0 = brief.half }; key = key }) brief.number

abbrev pub by_whom : Brief → List ℤ → Producer
by_whom brief key = by_whom_at brief.small brief key

abbrev pub item_brief : ℤ × Producer → Brief
item_brief item = producer_brief item.1

abbrev pub item_words : ℤ × Producer → List ℤ
item_words item = item.0 ∷ producer_words item.1

abbrev pub first_word : List ℤ → ℤ
first_word [] = pos 0
first_word (word ∷ words) = word

abbrev pub other_words : List ℤ → List ℤ
other_words [] = []
other_words (word ∷ words) = words

abbrev pub item_said : Brief → List ℤ → ℤ × Producer
item_said brief words = (first_word words, by_whom brief (other_words words))

same_producer : (producer : Producer) → by_whom (producer_brief producer) (producer_words producer) ≡ producer
same_producer Env = refl
same_producer (By instance number) = refl

pub same_item : (item : ℤ × Producer) → item_said (item_brief item) (item_words item) ≡ item
same_item item = λ i. (item.0, same_producer item.1 i)
