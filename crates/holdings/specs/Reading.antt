-- Reading what is held from the bytes of an image, list by list.
use Rattle.std.specs.Prelude.{◌≡◌, ◌⊎◌, ℕ, List, MatchOption, Ok, Option, ◌<◌}
use Rattle.std.specs.List.{AllByRecursion}
use Rattle.terms.specs.declared.key.TheConstants.{MAX_COMPONENTS}
use Rattle.codec.specs.Lists.{ListRead}
use Rattle.codec.specs.declared.error.CodecError.{CodecError}
use Rattle.codec.specs.declared.error.CodecError.TheVariants.{NoMemory}
use Rattle.codec.specs.declared.image.Image.{Image}
use Rattle.codec.specs.Spelling.{SpellsImage}
use Rattle.graph.specs.Graph.{Graph}
use Rattle.holdings.specs.Holdings.{AreWithin, Holdings, image_of, with_ended, with_fault, with_items, with_tags}
use Rattle.codec.specs.Entries.{item_cmp, marked_cmp}
use Rattle.codec.specs.Reading.{decoded_image, image_fault, instance, item, list, marked}
use Rattle.terms.specs.Name.{inst_cmp}
use Rattle.terms.specs.declared.name.Inst.{Inst}
use Rattle.terms.specs.declared.fault.FaultKind.{FaultKind}

-- the whole list was read, up to these bytes; each of its elements may be held, and all are
pub record ListIsHeld {X : Type 0} (May : X → Type 0) (with : List X → Holdings) (read : ListRead X) (new : Holdings) (rest : List ℕ) : Type 0 where
  pub elements : List X
  pub read_whole : read ≡ Ok (elements, rest)
  pub each : AllByRecursion May elements
  pub held : new ≡ with elements

-- memory was refused, or no list is read of which each element may be held
abbrev pub NoneIsHeld : {X : Type 0} → (X → Type 0) → ListRead X → CodecError → Type 0
NoneIsHeld {X} May read error = (error ≡ NoMemory) ⊎ ((elements : List X) (rest : List ℕ) → read ≡ Ok (elements, rest) → AllByRecursion May elements → ⊥)

-- what is found in these bytes: what the image that they spell lists; or nothing, if they spell no image whose names are all of collections and steps of the graph
abbrev pub FindsImage : Graph → List ℕ → Option Holdings → Type 0
FindsImage g bytes found =
    MatchOption found ((image : Image) → SpellsImage MAX_COMPONENTS bytes image → AreWithin g image → ⊥) (λ h. SpellsImage MAX_COMPONENTS bytes (image_of h) × AreWithin g (image_of h))

-- a list of items was read whole, up to these bytes; the collection of each is one of the first so many, and all of them are held
abbrev pub ItemsAreHeld : ℕ → List ℕ → Holdings → Holdings → List ℕ → Type 0
ItemsAreHeld count bytes old new rest = ListIsHeld (λ it. it.0.collection.0 < count) (with_items old) (list item_cmp (item MAX_COMPONENTS) bytes) new rest

-- memory was refused, or no such list of items stands there
abbrev pub NoItemsAreHeld : ℕ → List ℕ → CodecError → Type 0
NoItemsAreHeld count bytes = NoneIsHeld (λ it. it.0.collection.0 < count) (list item_cmp (item MAX_COMPONENTS) bytes)

-- the same of a list of tags
abbrev pub TagsAreHeld : ℕ → List ℕ → Holdings → Holdings → List ℕ → Type 0
TagsAreHeld count bytes old new rest = ListIsHeld (λ it. it.0.collection.0 < count) (with_tags old) (list marked_cmp (marked MAX_COMPONENTS) bytes) new rest

-- memory was refused, or no such list of tags stands there
abbrev pub NoTagsAreHeld : ℕ → List ℕ → CodecError → Type 0
NoTagsAreHeld count bytes = NoneIsHeld (λ it. it.0.collection.0 < count) (list marked_cmp (marked MAX_COMPONENTS) bytes)

-- the same of a list of instances that are done
abbrev pub InstancesAreDone : ℕ → List ℕ → Holdings → Holdings → List ℕ → Type 0
InstancesAreDone count bytes old new rest = ListIsHeld (λ it. it.collection.0 < count) (with_ended old) (list inst_cmp (instance MAX_COMPONENTS) bytes) new rest

-- memory was refused, or no such list of instances stands there
abbrev pub NoInstancesAreDone : ℕ → List ℕ → CodecError → Type 0
NoInstancesAreDone count bytes = NoneIsHeld (λ it. it.collection.0 < count) (list inst_cmp (instance MAX_COMPONENTS) bytes)

-- the instance at fault with which an image begins, if there is one, is held
abbrev pub FaultIsHeld : List ℕ → Holdings → Holdings → List ℕ → Type 0
FaultIsHeld bytes old new rest = (fault : Option (Inst × FaultKind)) × (image_fault MAX_COMPONENTS bytes ≡ Ok (fault, rest)) × (new ≡ with_fault old fault)

-- memory was refused, or these bytes are of no image whose names are all of collections and steps of the graph
abbrev pub NoneIsWithin : Graph → List ℕ → CodecError → Type 0
NoneIsWithin g bytes error = (error ≡ NoMemory) ⊎ ((image : Image) → decoded_image MAX_COMPONENTS bytes ≡ Ok image → AreWithin g image → ⊥)
