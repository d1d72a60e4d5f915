-- Instances and tags are there together; and what it means that a count of instances is 0.
use Rattle.std.specs.Prelude.{◌≡◌, ◌↔◌, Bool, true, false, Some, is_some}
use Rattle.terms.specs.declared.name.Inst.{Inst}
use Rattle.terms.specs.declared.name.Tag.{Tag}
use Rattle.instances.specs.declared.state.State.{State}
use Rattle.instances.specs.Known.{Known, mark_of, state_at, is_prescribed_by, total}

-- an instance that a tag prescribes is there exactly when the tag is, and each instance that is there is prescribed by some tag
pub record AreThereTogether (known : Known) : Type 0 where
  pub together : (name : Tag) (instance : Inst) → is_prescribed_by known name instance ≡ true → is_some (state_at known instance) ≡ is_some (mark_of known name)
  pub prescribed : (instance : Inst) → is_some (state_at known instance) ≡ true → (name : Tag) × (is_prescribed_by known name instance ≡ true)

-- the count is 0 exactly when each instance that is there is in a state that fails the test
abbrev pub AreCounted : Known → Type 0
AreCounted known = (test : State → Bool) → (total test known ≡ 0) ↔ ((instance : Inst) (state : State) → state_at known instance ≡ Some state → test state ≡ false)
