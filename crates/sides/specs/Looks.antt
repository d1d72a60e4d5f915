-- What is checked of each thing that is held, so that all of it fits a graph. X is what is held.
use Rattle.std.specs.Prelude.{◌≡◌, ⊤, Bool, true, false, Option, Some, None}
use Rattle.std.specs.List.{AllByRecursion}
use Rattle.terms.specs.declared.name.Addr.{Addr}
use Rattle.terms.specs.declared.name.Tag.{Tag}
use Rattle.terms.specs.declared.name.Inst.{Inst}
use Rattle.terms.specs.declared.fault.FaultKind.{FaultKind}
use Rattle.terms.specs.declared.producer.Producer.{Producer}
use Rattle.terms.specs.declared.producer.Producer.TheVariants.{Env, By}
use Rattle.terms.specs.Facts.{done}
use Rattle.terms.specs.Sets.{Facts}
use Rattle.codec.specs.declared.image.Image.{Image}
use Rattle.codec.specs.Image.{facts_in}
use Rattle.graph.specs.Graph.{Graph, EnvironmentMayPutItem, EnvironmentMayPutTag}
use Rattle.graph.specs.Fits.{AddressIsOf, TagIsOf, InstanceIsOf, IsPrescribed}

-- the environment may put an item that it put; another item has an address of the graph and a producer that is done
abbrev pub ItemFits : Graph → Facts → Addr → Producer → Type 0
ItemFits g X address Env = EnvironmentMayPutItem g address
ItemFits g X address (By instance number) = AddressIsOf g address × (X (done instance) ≡ true)

-- the environment may put a tag that is marked; another tag is one of the graph
abbrev pub TagFits : Graph → Tag → Bool → Type 0
TagFits g name true = EnvironmentMayPutTag g name
TagFits g name false = TagIsOf g name

-- an instance is of the graph and prescribed
abbrev pub InstanceFits : Graph → Facts → Inst → Type 0
InstanceFits g X instance = InstanceIsOf g instance × IsPrescribed g X instance

-- an instance at fault, if there is one, is of the graph, prescribed, and not done
abbrev pub FaultFits : Graph → Facts → Option (Inst × FaultKind) → Type 0
FaultFits g X None = ⊤
FaultFits g X (Some fault) = InstanceFits g X fault.0 × (X (done fault.0) ≡ false)

-- the instance at fault and those that are done fit
abbrev pub InstancesFit : Graph → Image → Type 0
InstancesFit g image = FaultFits g (facts_in image) image.fault × AllByRecursion (InstanceFits g (facts_in image)) image.done

-- the items fit
abbrev pub ItemsFit : Graph → Image → Type 0
ItemsFit g image = AllByRecursion (λ it. ItemFits g (facts_in image) it.0 it.2) image.items

-- the items and the tags fit
abbrev pub PutsFit : Graph → Image → Type 0
PutsFit g image = ItemsFit g image × AllByRecursion (λ marked. TagFits g marked.0 marked.1) image.tags
