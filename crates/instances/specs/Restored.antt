-- The instances of a store that was read: those that its tags prescribe.
use Rattle.std.specs.Prelude.{◌≡◌, ⊤, ℕ, Bool, cond, List, slice_get, Option, Some, None, is_some}
use Rattle.std.specs.Option.{option_map}
use Rattle.std.specs.FinMap.{FinMap, get}
use Rattle.terms.specs.declared.name.Inst.{Inst}
use Rattle.terms.specs.declared.name.TagCollection.{TagCollection}
use Rattle.maps.specs.Numbered.{Numbered, place_cmp}
use Rattle.instances.specs.declared.state.State.{State}
use Rattle.instances.specs.declared.state.State.TheVariants.{Ready, Done}
use Rattle.instances.specs.Known.{Known, inst_place, prescriber_at, state_at}

-- an instance begins as done if it is among the ended ones, else as ready
abbrev pub begins : FinMap place_cmp ⊤ → Inst → State
begins ended instance = cond (is_some (get ended (inst_place instance))) Done Ready

-- the instance's first state, if the tag of its key is there in the collection that prescribes its step
abbrev pub first_state_in : Numbered Bool → FinMap place_cmp ⊤ → Option TagCollection → Inst → Option State
first_state_in tags ended None instance = None
first_state_in tags ended (Some prescriber) instance = option_map (λ _. begins ended instance) (get tags.items (prescriber.0, instance.key))

-- the tags are taken over, and the instances are those that they prescribe
pub record IsRestored (held : Numbered Bool) (ended : FinMap place_cmp ⊤) (collections : List TagCollection) (known : Known) : Type 0 where
  pub tags : known.tags ≡ held
  pub prescribers : (number : ℕ) → prescriber_at known number ≡ option_map (λ tag. tag.0) (slice_get collections number)
  pub states : (instance : Inst) → state_at known instance ≡ first_state_in held ended (slice_get collections instance.collection.0) instance
