-- How these maps are written as numbers, pairs and lists: the checker asks for it, and no promise speaks of it.
use Rattle.std.specs.Prelude.{List, refl}
use Rattle.std.specs.Coded.{Coded, code_by, coded_bool, coded_ℕ, coded_ℤ, coded_list, coded×}
use Rattle.std.specs.FinMap.{code}
use Rattle.maps.specs.Keyed.{Keyed}
use Rattle.maps.specs.Marked.{Marked, MarkedPlaces}
use Rattle.maps.specs.Paged.{Entry, Paged}
use Rattle.maps.specs.Numbered.{Numbered}
use Rattle.maps.specs.Marks.{Marks}
use Rattle.maps.specs.declared.mark.Mark.{Mark}
use Rattle.maps.specs.declared.stored.Brief.{Brief}

abbrev pub keyed_code : {X : Type 0} → Coded X → Coded (Keyed X)
keyed_code x = code_by _ (coded× (code (coded_list coded_ℤ) x) coded_ℕ) (λ s. (s.items, s.room)) (λ p. record { items = p.0; room = p.1 }) (λ _. refl)

abbrev pub numbered_code : {X : Type 0} → Coded X → Coded (Numbered X)
numbered_code x =
    code_by _ (coded× (code (coded× coded_ℕ (coded_list coded_ℤ)) x) (coded_list coded_ℕ)) (λ s. (s.items, s.room))
    (λ p. record { items = p.0; room = p.1 }) (λ _. refl)

abbrev brief_code : Coded Brief
brief_code = code_by _ (coded× coded_ℕ (coded× coded_ℕ coded_ℕ)) (λ b. (b.number, (b.half, b.small))) (λ p. record { number = p.0; half = p.1.0; small = p.1.1 }) (λ _. refl)

abbrev mark_code : Coded Mark
mark_code =
    code_by _ (coded× (coded× coded_ℤ coded_ℕ) (coded× brief_code (coded× coded_ℕ coded_ℕ))) (λ m. ((m.first, m.at), (m.brief, (m.components, m.words))))
    (λ p. record { first = p.0.0; at = p.0.1; brief = p.1.0; components = p.1.1.0; words = p.1.1.1 }) (λ _. refl)

abbrev pub page_code : Coded Marks
page_code = coded× (coded_list coded_ℤ) (coded_list mark_code)

abbrev pages_code : {X : Type 0} → Coded X → Coded (List (List (Entry X)))
pages_code x = coded_list (coded_list (coded× (coded_list coded_ℤ) x))

abbrev pub paged_code : {X : Type 0} → Coded X → Coded (Paged X)
paged_code x = code_by _ (coded× (pages_code x) coded_ℕ) (λ s. (s.pages, s.room)) (λ p. record { pages = p.0; room = p.1 }) (λ _. refl)

abbrev pub marked_code : {X : Type 0} → Coded X → Coded (Marked X)
marked_code x = code (coded_list coded_ℤ) (coded× x coded_bool)

abbrev pub marked_places_code : {X : Type 0} → Coded X → Coded (MarkedPlaces X)
marked_places_code x = code (coded× coded_ℕ (coded_list coded_ℤ)) (coded× x coded_bool)
