-- The lists that are made of what a store holds, and the bytes that spell them.
use Rattle.std.specs.Prelude.{◌≡◌, ℕ, List}
use Rattle.std.specs.FinMap.{entries}
use Rattle.terms.specs.declared.key.TheConstants.{MAX_COMPONENTS}
use Rattle.codec.specs.declared.image.Image.{Image}
use Rattle.codec.specs.Entries.{Item, MarkedTag}
use Rattle.codec.specs.Image.{IsListed, Lists}
use Rattle.codec.specs.Spelling.{IsImage, image_bytes}
use Rattle.items.specs.Held.{Held}
use Rattle.instances.specs.Known.{Known}
use Rattle.holdings.specs.Listing.{items_of, tags_of}
use Rattle.machine.specs.Machine.{Machine, environment, facts}

-- the items in the order of their addresses
abbrev pub items_in : Held → List Item
items_in held = items_of (entries held.items.items)

-- the tags in order, with their marks
abbrev pub tags_in : Known → List MarkedTag
tags_in known = tags_of (entries known.tags.items)

-- the bytes spell an image of all that the store holds
pub record SpellsAll (m : Machine) (bytes : List ℕ) : Type 0 where
  pub image : Image
  pub listed : IsListed image
  pub lists : Lists image (environment m) (facts m)
  pub spelled : bytes ≡ image_bytes image
  pub is_image : IsImage MAX_COMPONENTS image
