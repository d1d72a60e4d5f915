-- What a store holds after it was restored from what an image lists.
use Rattle.std.specs.Prelude.{◌≡◌, false, Some}
use Rattle.terms.specs.declared.name.Inst.{Inst}
use Rattle.terms.specs.Facts.{done}
use Rattle.codec.specs.declared.image.Image.{Image}
use Rattle.codec.specs.Image.{Lists}
use Rattle.graph.specs.Graph.{Graph}
use Rattle.graph.specs.Fits.{IsPrescribed}
use Rattle.instances.specs.Known.{state_at}
use Rattle.instances.specs.declared.state.State.TheVariants.{Ready}
use Rattle.machine.specs.declared.memory.Memory.{Memory}
use Rattle.machine.specs.Memory.{IsOf, environment_of, facts_of}
use Rattle.machine.specs.Restored.{IsReadyOrDone}

-- it belongs to the graph and holds what the image lists, and no instance runs or waits
pub record IsRestored (g : Graph) (image : Image) (m : Memory) : Type 0 where
  pub is_of : IsOf g m
  pub lists : Lists image (environment_of m) (facts_of m)
  pub instances : (instance : Inst) → IsReadyOrDone (state_at m.instances instance)
  pub ready : (instance : Inst) → IsPrescribed g (facts_of m) instance → facts_of m (done instance) ≡ false → state_at m.instances instance ≡ Some Ready
