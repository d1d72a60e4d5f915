use Rattle.std.proofs.Common.{refl}
use Rattle.codec.specs.Image.{IsListed}
use Rattle.holdings.specs.Holdings.{image_of}
use Rattle.holdings.proofs.holdings.Holdings.image.Goals as goal

pub returns-clause-listed : goal.returns-clause-listed
returns-clause-listed c numbered =
    let h = c.args.self.now in
    let told = c.images_of_maps.ensures.maps (image_of h) h.items h.tags refl refl in
    let ended = c.images_of_maps.ensures.done (image_of h) h.done refl in
    let whole : IsListed (image_of h) = record { items_rise = told.items_rise; tags_rise = told.tags_rise; done_rise = ended.rise; numbered = numbered } in
    rw (c.fault.ensures, c.new.ensures, c.in_ok-list_items.ensures, c.new-2.ensures, c.in_ok-list_tags.ensures, c.new-3.ensures, c.in_ok-list_done.ensures) whole
