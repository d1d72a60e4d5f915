use Rattle.std.proofs.Common.{◌≡◌, ℤ, IsTrue, subst, sym, ap, ◌∙◌, ◌∷◌, [], w64}
use Rattle.std.proofs.lemmas.Int.{to_z-of_z}
use Rattle.std.specs.List.{AllByRecursion}
use Rattle.terms.specs.Facts.{item}
use Rattle.codec.specs.Spelling.{HasPutNumber}
use Rattle.codec.specs.Image.{environment_item}
use Rattle.holdings.specs.Holdings.{Holdings, image_of, with_item}
use Rattle.sides.specs.Growth.{Grows}
use Rattle.sides.proofs.Said.{absent_at}
use Rattle.sides.proofs.Held.{item_grows, item_numbered}
use Rattle.sides.proofs.taking.hold_item.Goals.{In_ok-free}
use Rattle.sides.proofs.taking.hold_item.Goals as goal

pub returns-clause-free : goal.returns-clause-free
returns-clause-free c =
    let law = c.images_of_maps.ensures in
    let absent = absent_at law.maps law.done law.rest c.facts_are_told_apart.ensures.one c.args.holdings.now c.args.address.now in
    (λ free. absent.0 (c.in_ok-free.ensures.absent.0 free), λ isnt. c.in_ok-free.ensures.absent.1 (absent.1 isnt))

-- the item is put
put : (c : In_ok-free) → IsTrue c.in_ok-free.free → with_item c.args.holdings.now c.args.address.now c.args.value c.args.by ≡ c.put_item.new.self
put c free = sym (c.in_ok-free.ensures.put free ∙ ap (λ (value : ℤ). with_item c.args.holdings.now c.args.address.now value c.args.by) (to_z-of_z w64 c.args.value c.ranges.value))

pub returns-clause-grown : goal.returns-clause-grown
returns-clause-grown c free =
    let law = c.images_of_maps.ensures in
    subst (Grows (environment_item c.args.address.now c.args.value c.args.by) (item c.args.address.now c.args.value c.args.by ∷ []) c.args.holdings.now) (put c free)
    (item_grows c.facts_are_told_apart.ensures.among law.maps law.done law.rest c.args.holdings.now c.args.address.now c.args.value (c.in_ok-free.ensures.absent.0 free) c.args.by)

pub returns-clause-numbered : goal.returns-clause-numbered
returns-clause-numbered c all here free =
    subst (λ (new : Holdings). AllByRecursion HasPutNumber (image_of new).items) (put c free)
    (item_numbered c.args.holdings.now c.args.address.now c.args.value c.args.by all here)
