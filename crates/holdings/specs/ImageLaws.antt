-- What an image says whose lists are made of finite maps.
use Rattle.std.specs.Prelude.{◌≡◌, ⊤, ℕ, ℤ, Bool, false, ◌&&◌, ◌==◌, Option, Some, None, is_some}
use Rattle.std.specs.List.{list_any}
use Rattle.std.specs.Option.{unwrap_or}
use Rattle.std.specs.Ordering.{is_eq, int_eq, eq_by_cmp}
use Rattle.std.specs.FinMap.{FinMap, entries, get}
use Rattle.terms.specs.declared.name.Addr.{Addr}
use Rattle.terms.specs.declared.name.Tag.{Tag}
use Rattle.terms.specs.declared.name.Inst.{Inst}
use Rattle.terms.specs.declared.fault.FaultKind.{FaultKind}
use Rattle.terms.specs.declared.producer.Producer.{Producer}
use Rattle.terms.specs.declared.producer.Producer.TheVariants.{Env, By}
use Rattle.terms.specs.Fault.{fault_number}
use Rattle.terms.specs.Name.{inst_cmp}
use Rattle.terms.specs.Put.{producer_cmp}
use Rattle.terms.specs.Facts.{tag, item, done, bad}
use Rattle.codec.specs.declared.image.Image.{Image}
use Rattle.codec.specs.Entries.{item_cmp, marked_cmp, Rises}
use Rattle.codec.specs.Image.{facts_in, environment_in}
use Rattle.maps.specs.Numbered.{place_cmp}
use Rattle.items.specs.Held.{place}
use Rattle.instances.specs.Known.{inst_place, tag_place}
use Rattle.graph.specs.Graph.{Graph}
use Rattle.graph.specs.Fits.{FitsState}
use Rattle.holdings.specs.Holdings.{AreWithin}
use Rattle.holdings.specs.Listing.{items_of, tags_of, insts_of}

-- it is an item of this value by this producer
abbrev pub is_item : Option (ℤ × Producer) → ℤ → Producer → Bool
is_item None value by = false
is_item (Some there) value by = int_eq there.0 value && is_eq (producer_cmp there.1 by)

-- it is the fault of this instance, of this kind
abbrev pub is_fault : Option (Inst × FaultKind) → Inst → FaultKind → Bool
is_fault None instance kind = false
is_fault (Some there) instance kind = is_eq (inst_cmp there.0 instance) && (fault_number there.1 == fault_number kind)

-- the image has the items and the tags of these maps, in rising order, and those that the environment put
pub record TellsOf (image : Image) (held : FinMap place_cmp (ℤ × Producer)) (marks : FinMap place_cmp Bool) : Type 0 where
  pub of_items : (address : Addr) (value : ℤ) (by : Producer) → facts_in image (item address value by) ≡ is_item (get held (place address)) value by
  pub of_tags : (name : Tag) → facts_in image (tag name) ≡ is_some (get marks (tag_place name))
  pub given_items : (address : Addr) (value : ℤ) → environment_in image (item address value Env) ≡ is_item (get held (place address)) value Env
  pub given_tags : (name : Tag) → environment_in image (tag name) ≡ unwrap_or (get marks (tag_place name)) false
  pub items_rise : Rises item_cmp image.items
  pub tags_rise : Rises marked_cmp image.tags

-- it has the done instances of this map, in rising order
pub record TellsDone (image : Image) (ended : FinMap place_cmp ⊤) : Type 0 where
  pub of_done : (instance : Inst) → facts_in image (done instance) ≡ is_some (get ended (inst_place instance))
  pub rise : Rises inst_cmp image.done

-- whatever its lists are: the done instances, the fault, and what the environment cannot have put
pub record TellsRest (image : Image) : Type 0 where
  pub of_done : (instance : Inst) → facts_in image (done instance) ≡ list_any (eq_by_cmp inst_cmp instance) image.done
  pub of_fault : (instance : Inst) (kind : FaultKind) → facts_in image (bad instance kind) ≡ is_fault image.fault instance kind
  pub given_by : (address : Addr) (value : ℤ) (instance : Inst) (number : ℕ) → environment_in image (item address value (By instance number)) ≡ false
  pub given_done : (instance : Inst) → environment_in image (done instance) ≡ false
  pub given_fault : (instance : Inst) (kind : FaultKind) → environment_in image (bad instance kind) ≡ false

-- ---- laws

abbrev pub ImagesTell : Type 0
ImagesTell = (image : Image) (items : FinMap place_cmp (ℤ × Producer)) (tags : FinMap place_cmp Bool) → image.items ≡ items_of (entries items) → image.tags ≡ tags_of (entries tags) → TellsOf image items tags

abbrev pub DoneTell : Type 0
DoneTell = (image : Image) (ended : FinMap place_cmp ⊤) → image.done ≡ insts_of (entries ended) → TellsDone image ended

-- an image whose facts fit a graph names only collections and steps that it has
abbrev pub FittingIsWithin : Type 0
FittingIsWithin = (g : Graph) (image : Image) → FitsState g (environment_in image) (facts_in image) → AreWithin g image
