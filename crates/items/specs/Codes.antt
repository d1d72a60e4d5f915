-- How values of these types are written as numbers, pairs and lists: the checker asks for it, and no promise speaks of it.
use Rattle.std.specs.Prelude.{◌≡◌, ℕ, ℤ, List, Option, Some, None, refl}
use Rattle.std.specs.Coded.{Coded, code_by, coded_ℕ, coded_ℤ, coded_list, coded_option, coded×}
use Rattle.std.specs.FinMap.{code}
use Rattle.terms.specs.declared.name.Inst.{Inst}
use Rattle.terms.specs.declared.producer.Producer.{Producer}
use Rattle.terms.specs.declared.producer.Producer.TheVariants.{Env, By}
use Rattle.maps.specs.Codes.{numbered_code}
use Rattle.items.specs.Held.{Held}

abbrev pub inst_code : Coded Inst
inst_code =
    code_by (ℕ × List ℤ) (coded× coded_ℕ (coded_list coded_ℤ)) (λ a. (a.collection.0, a.key))
    (λ p. record { collection = record { 0 = p.0 }; key = p.1 }) (λ _. refl)

abbrev pub by_whom : Producer → Option (Inst × ℕ)
by_whom Env = None
by_whom (By instance number) = Some (instance, number)

abbrev pub producer_of : Option (Inst × ℕ) → Producer
producer_of None = Env
producer_of (Some by) = By by.0 by.1

pub same_producer : (producer : Producer) → producer_of (by_whom producer) ≡ producer
same_producer Env = refl
same_producer (By instance number) = refl

abbrev pub producer_code : Coded Producer
producer_code = code_by (Option (Inst × ℕ)) (coded_option (coded× inst_code coded_ℕ)) by_whom producer_of same_producer

abbrev pub held_code : Coded Held
held_code =
    code_by _ (coded× (numbered_code (coded× coded_ℤ producer_code)) (code (coded× coded_ℕ (coded_list coded_ℤ)) (coded_list inst_code)))
    (λ h. (h.items, h.waiting)) (λ p. record { items = p.0; waiting = p.1 }) (λ _. refl)

abbrev pub item_code : Coded (ℤ × Producer)
item_code = coded× coded_ℤ producer_code
