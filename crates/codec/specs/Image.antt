-- What an image says: its facts, and which of them the environment put.
use Rattle.std.specs.Prelude.{◌≡◌, ◌<◌, ◌^◌, ℤ, true, false, List, [], ◌∷◌, ◌++◌, length, map, Option, Some, None}
use Rattle.std.specs.List.{flat_map, AllByRecursion}
use Rattle.terms.specs.declared.name.Addr.{Addr}
use Rattle.terms.specs.declared.name.Inst.{Inst}
use Rattle.terms.specs.declared.fault.FaultKind.{FaultKind}
use Rattle.terms.specs.declared.producer.Producer.{Producer}
use Rattle.terms.specs.declared.producer.Producer.TheVariants.{Env, By}
use Rattle.terms.specs.Facts.{Fact, tag, item, done, bad}
use Rattle.terms.specs.Name.{inst_cmp}
use Rattle.terms.specs.Sets.{Facts, among}
use Rattle.codec.specs.declared.image.Image.{Image}
use Rattle.codec.specs.Entries.{MarkedTag, item_cmp, marked_cmp, Rises}
use Rattle.codec.specs.Spelling.{HasPutNumber}

abbrev pub fault_facts : Option (Inst × FaultKind) → List Fact
fault_facts None = []
fault_facts (Some fault) = bad fault.0 fault.1 ∷ []

-- all facts of the image
abbrev pub image_facts : Image → List Fact
image_facts image = fault_facts image.fault ++ map (λ it. item it.0 it.1 it.2) image.items ++ map (λ marked. tag marked.0) image.tags ++ map done image.done

-- an item that the environment put
abbrev pub environment_item : Addr → ℤ → Producer → List Fact
environment_item address value Env = item address value Env ∷ []
environment_item address value (By instance number) = []

-- a tag that is marked as one of the environment
abbrev pub environment_tag : MarkedTag → List Fact
environment_tag (name, true) = tag name ∷ []
environment_tag (name, false) = []

abbrev pub image_environment : Image → List Fact
image_environment image = flat_map (λ it. environment_item it.0 it.1 it.2) image.items ++ flat_map environment_tag image.tags

-- the same lists of facts as sets
abbrev pub facts_in : Image → Facts
facts_in image = among (image_facts image)

abbrev pub environment_in : Image → Facts
environment_in image = among (image_environment image)

-- the image's lists are in rising order, and the numbers of its puts are numbers that a put may have
pub record IsListed (image : Image) : Type 0 where
  pub items_rise : Rises item_cmp image.items
  pub tags_rise : Rises marked_cmp image.tags
  pub done_rise : Rises inst_cmp image.done
  pub numbered : AllByRecursion HasPutNumber image.items

-- what a caller must ensure to spell an image: it is so listed, and the length of each list fits in four bytes
pub record IsInOrder (image : Image) : Type 0 where
  pub listed : IsListed image
  pub few_items : length image.items < 2 ^ 32
  pub few_tags : length image.tags < 2 ^ 32
  pub few_done : length image.done < 2 ^ 32

-- the image has exactly the facts X, of which the environment put exactly E
pub record Lists (image : Image) (E X : Facts) : Type 0 where
  pub facts : (fact : Fact) → facts_in image fact ≡ X fact
  pub environment : (fact : Fact) → environment_in image fact ≡ E fact
