use Rattle.std.proofs.Common.{◌≡◌, ◌∙◌, ap, Ok, inl, inr}
use Rattle.terms.specs.declared.key.TheConstants.{MAX_COMPONENTS}
use Rattle.codec.specs.Reading.{decoded_image}
use Rattle.holdings.specs.Holdings.{image_of}
use Rattle.holdings.proofs.holdings.Holdings.of_image.Goals as goal

pub returns-in-Ok-clause-image : goal.returns-in-Ok-clause-image
returns-in-Ok-clause-image c =
    let read : decoded_image MAX_COMPONENTS c.args.bytes.now ≡ Ok (image_of c.in-Ok.holdings) = c.in-Ok.ensures.image in
    ((c.image_is_spelled.ensures (image_of c.in-Ok.holdings) read).0, c.in-Ok.ensures.within)

pub returns-in-Ok-clause-numbered : goal.returns-in-Ok-clause-numbered
returns-in-Ok-clause-numbered c = (c.image_is_spelled.ensures (image_of c.in-Ok.holdings) c.in-Ok.ensures.image).1.listed.numbered

pub returns-in_default : goal.returns-in_default
returns-in_default c = record {
  image = λ image spells within. elim c.in-Err.ensures.none [
    | inl refused ↦ c.in_default.not-NoMemory refused
    | inr none ↦ none image (ap (decoded_image MAX_COMPONENTS) spells.1 ∙ c.spellings_of_images.ensures.back.spelled image spells.0) within
  ];
  numbered = tt;
  graph = tt;
}
