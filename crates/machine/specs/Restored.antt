-- The state of a store after it was opened: what an image lists, with each prescribed instance ready or done.
use Rattle.std.specs.Prelude.{◌≡◌, ⊤, false, Option, Some, None}
use Rattle.terms.specs.declared.name.Inst.{Inst}
use Rattle.terms.specs.Facts.{done}
use Rattle.codec.specs.declared.image.Image.{Image}
use Rattle.codec.specs.Image.{Lists}
use Rattle.graph.specs.Graph.{Graph}
use Rattle.graph.specs.Fits.{IsPrescribed}
use Rattle.instances.specs.declared.state.State.{State}
use Rattle.instances.specs.declared.state.State.TheVariants.{Ready, Running, Waiting, Done}
use Rattle.machine.specs.Machine.{Machine, facts, environment, state_of}

-- the instance does not run, and does not wait
abbrev pub IsReadyOrDone : Option State → Type 0
IsReadyOrDone None = ⊤
IsReadyOrDone (Some Ready) = ⊤
IsReadyOrDone (Some Running) = ⊥
IsReadyOrDone (Some (Waiting address)) = ⊥
IsReadyOrDone (Some Done) = ⊤

-- It has the facts of the image, and the environment put those that the image says it put. No instance runs or waits: each that is
-- prescribed and not done is ready.
pub record Restores (g : Graph) (image : Image) (m : Machine) : Type 0 where
  pub graph : m.graph ≡ g
  pub lists : Lists image (environment m) (facts m)
  pub instances : (instance : Inst) → IsReadyOrDone (state_of m instance)
  pub ready : (instance : Inst) → IsPrescribed g (facts m) instance → facts m (done instance) ≡ false → state_of m instance ≡ Some Ready
