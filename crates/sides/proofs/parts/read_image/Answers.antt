use Rattle.std.proofs.Common.{◌∙◌, subst, sym, rules}
use Rattle.std.proofs.lemmas.Bool.{false≢true}
use Rattle.terms.specs.declared.key.TheConstants.{MAX_COMPONENTS}
use Rattle.codec.specs.declared.image.Image.{Image}
use Rattle.codec.specs.Image.{environment_in, facts_in}
use Rattle.codec.specs.Spelling.{SpellsImage}
use Rattle.graph.specs.Fits.{FitsState}
use Rattle.holdings.specs.Holdings.{image_of}
use Rattle.sides.proofs.parts.read_image.Goals as goal

pub returns-else-fits-clause-image : goal.returns-else-fits-clause-image
returns-else-fits-clause-image c image is =
    let held = image_of c.in-Some.holdings in
    let spelled : SpellsImage MAX_COMPONENTS c.args.bytes.now held = search rules in
    let same = c.spellings_of_images.ensures.one c.args.bytes.now image held is.0 spelled in
    false≢true (sym c.if-fits.false ∙ c.fits.ensures.1 (subst (λ (one : Image). FitsState c.args.graph.now (environment_in one) (facts_in one)) same is.1))
