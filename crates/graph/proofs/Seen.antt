-- The values that contracts see parts of a graph as.
use Rattle.std.proofs.Common.{◌≡◌, ℕ, zero, suc, Bool, false, List, [], ◌∷◌, map, Some, None, if◌then◌else◌, refl, sym, ap, ◌∙◌, slice_get, length, ◌≤◌, arith, Option}
use Rattle.std.proofs.lemmas.Bool.Decides.{nat_tests}
use Rattle.std.proofs.lemmas.Option.{slice_get_past, slice_get-map}
use Rattle.std.proofs.lemmas.List.{length-map}
use Rattle.std.specs.Prelude.{◌==◌, option_map}
use Rattle.steptree.specs.Names.{Text, names_in}
use Rattle.graph.specs.declared.graph.Prescribed.{Prescribed}
use Rattle.graph.specs.Graph.{Step, Graph, IsGraph}
use Rattle.graph.specs.Seen.{collection_seen, step_seen}
use Rattle.graph.specs.Numbered.{names_numbered}
use Rattle.graph.specs.Prescribed.{prescribed_by, prescribed_from, names_of_steps}
use Rattle.std.proofs.lemmas.Simd.{map-map}

pub items_named : (items : List (Text × ℕ)) → names_numbered items ≡ names_in (map collection_seen items)
items_named items = sym (map-map (λ collection. collection.name) collection_seen items)

-- the names in what is seen of a graph, or of its parts
pub items_seen : (items : List (Text × ℕ)) (seen g : Graph) → seen.items ≡ map collection_seen items → seen ≡ g → names_numbered items ≡ names_in g.items
items_seen items seen g is same = items_named items ∙ ap names_in (sym is) ∙ ap (λ (it : Graph). names_in it.items) same

pub tags_seen : (tags : List (Text × ℕ)) (seen g : Graph) → seen.tags ≡ map collection_seen tags → seen ≡ g → names_numbered tags ≡ names_in g.tags
tags_seen tags seen g is same = items_named tags ∙ ap names_in (sym is) ∙ ap (λ (it : Graph). names_in it.tags) same

pub steps_seen : (steps : List (Text × Prescribed)) (seen g : Graph) → seen.steps ≡ map step_seen steps → seen ≡ g → names_numbered steps ≡ names_of_steps g.steps
steps_seen steps seen g is same = sym (map-map (λ step. step.name) step_seen steps) ∙ ap names_of_steps (sym is) ∙ ap (λ (it : Graph). names_of_steps it.steps) same

none_of : (tag number : ℕ) (steps : List Step) → ((place : ℕ) (step : Step) → slice_get steps place ≡ Some step → (step.prescriber == tag) ≡ false) → prescribed_from number steps tag ≡ []
none_of tag number [] other = refl
none_of tag number (step ∷ steps) other =
    ap (λ (b : Bool). if b then number ∷ prescribed_from (suc number) steps tag else prescribed_from (suc number) steps tag) (other 0 step refl)
    ∙ none_of tag (suc number) steps (λ place it there. other (suc place) it there)

-- tags that are not in the graph prescribe nothing
pub none_prescribed : (g : Graph) (tag : ℕ) → IsGraph g → slice_get g.tags tag ≡ None → prescribed_by g tag ≡ []
none_prescribed g tag graph none = none_of tag 0 g.steps (λ place step there. let is = (graph.steps place step there).prescribed in let here = is.1 in grind (arith, nat_tests, here, none))

pub past_seen : (tags : List (Text × ℕ)) (number : ℕ) → length tags ≤ number → slice_get (map collection_seen tags) number ≡ None
past_seen tags number past = slice_get_past (map collection_seen tags) number (omega (arith, past, length-map tags collection_seen))

-- ---- steps by their numbers

none_mapped : {X Y Z : Type 0} (f : X → Y) (h : X → Z) (x : Option X) → None ≡ option_map f x → None ≡ option_map h x
none_mapped f h x none = grind arith

pub no_step_value : (steps : List (Text × Prescribed)) (number : ℕ) → None ≡ option_map (λ entry. entry.1) (slice_get steps number) → None ≡ slice_get (map step_seen steps) number
no_step_value steps number none = none_mapped (λ (entry : Text × Prescribed). entry.1) step_seen (slice_get steps number) none ∙ sym (slice_get-map step_seen steps number)

pub no_step_name : (steps : List (Text × Prescribed)) (number : ℕ) → None ≡ slice_get (names_numbered steps) number → None ≡ slice_get (map step_seen steps) number
no_step_name steps number none = none_mapped (λ (entry : Text × Prescribed). entry.0) step_seen (slice_get steps number) (none ∙ slice_get-map (λ entry. entry.0) steps number) ∙ sym (slice_get-map step_seen steps number)

its_entry : (steps : List (Text × Prescribed)) (number : ℕ) (it : Prescribed) → Some it ≡ option_map (λ entry. entry.1) (slice_get steps number)
    → (name : Text) × (slice_get (map step_seen steps) number ≡ Some (step_seen (name, it)))
its_entry [] number it there = absurd (cc)
its_entry (entry ∷ steps) zero it there =
    let same : entry.1 ≡ it = cc in
    (entry.0, ap (λ (value : Prescribed). Some (step_seen (entry.0, value))) same)
its_entry (entry ∷ steps) (suc number) it there = its_entry steps number it there

-- a step of a graph has at least as many names as parameters
pub enough_names : (g : Graph) (steps : List (Text × Prescribed)) → g.steps ≡ map step_seen steps → (number : ℕ) (it : Prescribed) → IsGraph g → Some it ≡ option_map (λ entry. entry.1) (slice_get steps number)
    → it.checked.parameters ≤ length it.checked.names.items
enough_names g steps same number it graph there =
    let entry = its_entry steps number it there in
    let of_graph = graph.steps number (step_seen (entry.0, it)) (ap (λ (all : List Step). slice_get all number) same ∙ entry.1) in
    omega (arith, of_graph.parameters, length-map it.checked.names.items (λ name. name.bytes.items))
