use Rattle.std.proofs.Common.{◌≡◌, ◌<◌, ◌∙◌, ap, sym, subst, inl, inr, List, ℕ, Ok, length, arith}
use Rattle.std.proofs.lemmas.Bool.Decides.{nat_tests}
use Rattle.std.proofs.lemmas.Result.{err_from_is_err_and}
use Rattle.std.specs.List.{AllByRecursion}
use Rattle.terms.specs.declared.key.TheConstants.{MAX_COMPONENTS}
use Rattle.codec.specs.declared.image.Image.{Image}
use Rattle.codec.specs.Reading.{decoded_image}
use Rattle.holdings.specs.Holdings.{AreWithin, image_of}
use Rattle.holdings.proofs.ImageParts.{behind_items, behind_tags, from_fault, is_none, no_done, no_items, no_tags, read_whole}
use Rattle.holdings.proofs.Pushed.{done_back, items_back, tags_back}
use Rattle.holdings.proofs.holdings.Holdings.read.Goals as goal

pub returns-in_err-rest-2-clause-none : goal.returns-in_err-rest-2-clause-none
returns-in_err-rest-2-clause-none c =
    let p = err_from_is_err_and c.from_residual-in_err-rest-2.result c.from_residual-in_err-rest-2.ensures.1 in
    let fault = c.in_ok-rest.ensures.held in
    rw (p.1, p.2) (elim c.in_err-rest-2.ensures.none [
      | inl refused ↦ inl refused
      | inr none ↦ inr (λ image is within.
          no_items MAX_COMPONENTS image (λ it. it.0.collection.0 < c.item_count.result) fault.0 _ (from_fault MAX_COMPONENTS image c.args.bytes.now c.in_ok-rest.rest.now fault.0 fault.1 is) none
          (subst (λ n. AllByRecursion (λ it. it.0.collection.0 < n) image.items) (sym c.item_count.ensures.count) within.items))
    ])

pub returns-in_err-rest-3-clause-none : goal.returns-in_err-rest-3-clause-none
returns-in_err-rest-3-clause-none c =
    let p = err_from_is_err_and c.from_residual-in_err-rest-3.result c.from_residual-in_err-rest-3.ensures.1 in
    let fault = c.in_ok-rest.ensures.held in
    let items = c.in_ok-rest-2.ensures.held in
    rw (p.1, p.2) (elim c.in_err-rest-3.ensures.none [
      | inl refused ↦ inl refused
      | inr none ↦ inr (λ image is within.
          no_tags MAX_COMPONENTS image (λ marked. marked.0.collection.0 < c.tag_count.result) fault.0 items.elements _
          (behind_items MAX_COMPONENTS image fault.0 c.in_ok-rest.rest.now c.in_ok-rest-2.rest.now items.elements items.read_whole (from_fault MAX_COMPONENTS image c.args.bytes.now c.in_ok-rest.rest.now fault.0 fault.1 is)) none
          (subst (λ n. AllByRecursion (λ marked. marked.0.collection.0 < n) image.tags) (sym c.tag_count.ensures.count) within.tags))
    ])

pub returns-in_err-rest-4-clause-none : goal.returns-in_err-rest-4-clause-none
returns-in_err-rest-4-clause-none c =
    let p = err_from_is_err_and c.from_residual-in_err-rest-4.result c.from_residual-in_err-rest-4.ensures.1 in
    let fault = c.in_ok-rest.ensures.held in
    let items = c.in_ok-rest-2.ensures.held in
    let tags = c.in_ok-rest-3.ensures.held in
    rw (p.1, p.2) (elim c.in_err-rest-4.ensures.none [
      | inl refused ↦ inl refused
      | inr none ↦ inr (λ image is within.
          no_done MAX_COMPONENTS image (λ instance. instance.collection.0 < c.step_count.result) fault.0 items.elements tags.elements _
          (behind_tags MAX_COMPONENTS image fault.0 items.elements c.in_ok-rest-2.rest.now c.in_ok-rest-3.rest.now tags.elements tags.read_whole
          (behind_items MAX_COMPONENTS image fault.0 c.in_ok-rest.rest.now c.in_ok-rest-2.rest.now items.elements items.read_whole (from_fault MAX_COMPONENTS image c.args.bytes.now c.in_ok-rest.rest.now fault.0 fault.1 is))) none
          (subst (λ n. AllByRecursion (λ instance. instance.collection.0 < n) image.done) (sym c.step_count.ensures.count) within.done))
    ])

-- what was read is an image, which is held
read_and_held : (c : goal.Else-not-is_empty) → (image : Image) × (decoded_image MAX_COMPONENTS c.args.bytes.now ≡ Ok image) × (image_of c.read_done.new.self ≡ image) × AreWithin c.args.graph.now image
read_and_held c =
    let fault = c.in_ok-rest.ensures.held in
    let items = c.in_ok-rest-2.ensures.held in
    let tags = c.in_ok-rest-3.ensures.held in
    let done = c.in_ok-rest-4.ensures.held in
    let zero : length c.in_ok-rest-4.rest.now ≡ 0 = grind (arith, nat_tests, c.if-not-is_empty.false, c.is_empty.ensures) in
    let none = is_none c.in_ok-rest-4.rest.now zero in
    let image : Image = record { fault = fault.0; items = items.elements; tags = tags.elements; done = done.elements } in
    let read : decoded_image MAX_COMPONENTS c.args.bytes.now ≡ Ok image =
    read_whole MAX_COMPONENTS c.args.bytes.now c.in_ok-rest.rest.now c.in_ok-rest-2.rest.now c.in_ok-rest-3.rest.now fault.0 items.elements tags.elements done.elements fault.1 items.read_whole tags.read_whole
    (done.read_whole ∙ ap (λ (rest : List ℕ). Ok (done.elements, rest)) none) in
    let listed = (c.image_is_spelled.ensures image read).1.listed in
    let holds : image_of c.read_done.new.self ≡ image =
    rw (done.held, tags.held, items.held, fault.2)
    (λ i. record { fault = fault.0; items = items_back items.elements listed.items_rise i; tags = tags_back tags.elements listed.tags_rise i; done = done_back done.elements listed.done_rise i }) in (
      image,
      read,
      holds,
      record {
        items = subst (λ n. AllByRecursion (λ it. it.0.collection.0 < n) items.elements) c.item_count.ensures.count items.each;
        tags = subst (λ n. AllByRecursion (λ marked. marked.0.collection.0 < n) tags.elements) c.tag_count.ensures.count tags.each;
        done = subst (λ n. AllByRecursion (λ instance. instance.collection.0 < n) done.elements) c.step_count.ensures.count done.each;
      },
    )

pub returns-clause-image : goal.returns-clause-image
returns-clause-image c = let both = read_and_held c in both.1 ∙ ap (λ (one : Image). Ok one) (sym both.2)

pub returns-clause-within : goal.returns-clause-within
returns-clause-within c = let both = read_and_held c in subst (AreWithin c.args.graph.now) (sym both.2) both.3
