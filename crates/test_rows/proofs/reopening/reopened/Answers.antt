use Rattle.std.proofs.Common.{◌≡◌, ◌∙◌, ap, sym, subst, List, ℕ, rules}
use Rattle.terms.specs.Sets.{Facts}
use Rattle.terms.specs.declared.key.TheConstants.{MAX_COMPONENTS}
use Rattle.codec.specs.declared.image.Image.{Image}
use Rattle.codec.specs.Image.{Lists, environment_in, facts_in}
use Rattle.codec.specs.Laws.{SpellsOne}
use Rattle.codec.specs.Spelling.{SpellsImage}
use Rattle.graph.specs.Graph.{Graph}
use Rattle.graph.specs.Fits.{FitsState}
use Rattle.holdings.specs.Holdings.{AreWithin, image_of}
use Rattle.machine.specs.Machine.{Machine, environment, facts}
use Rattle.test_rows.proofs.reopening.reopened.Goals as goal

-- the image that a state lists fits its graph
listed_fits : (m : Machine) (image : Image) (g : Graph) → Lists image (environment m) (facts m) → g ≡ m.graph → FitsState m.graph (environment m) (facts m) → FitsState g (environment_in image) (facts_in image)
listed_fits m image g lists same fits =
    let same_facts : facts m ≡ facts_in image = λ i fact. sym (lists.facts fact) i in
    let same_given : environment m ≡ environment_in image = λ i fact. sym (lists.environment fact) i in
    subst (λ (h : Graph). FitsState h (environment_in image) (facts_in image)) (sym same)
    (subst (λ (E : Facts). FitsState m.graph E (facts_in image)) same_given (subst (λ (X : Facts). FitsState m.graph (environment m) X) same_facts fits))

-- what is read from the bytes of an image is that image
read_back : SpellsOne (SpellsImage MAX_COMPONENTS) → (bytes read : List ℕ) (image held : Image) → read ≡ bytes → SpellsImage MAX_COMPONENTS bytes image → SpellsImage MAX_COMPONENTS read held → held ≡ image
read_back one bytes read image held same spelled found = one bytes held image (subst (λ (list : List ℕ). SpellsImage MAX_COMPONENTS list held) same found) spelled

pub of_holdings-requires-clause-fits : goal.of_holdings-requires-clause-fits
of_holdings-requires-clause-fits c =
    let spelled : SpellsImage MAX_COMPONENTS c.in-Some.bytes.items c.in_ok-image.image = search rules in
    let found : SpellsImage MAX_COMPONENTS c.deref-2.result.now (image_of c.in-Some-2.holdings) × AreWithin c.deref.result.now (image_of c.in-Some-2.holdings) = search rules in
    let held = read_back c.spellings_of_images.ensures.one c.in-Some.bytes.items c.deref-2.result.now c.in_ok-image.image (image_of c.in-Some-2.holdings) c.deref-2.ensures.value spelled found.0 in
    subst (λ (image : Image). FitsState c.in_ok-graph.graph.value (environment_in image) (facts_in image)) (sym held)
    (listed_fits c.args.machine.now c.in_ok-image.image c.in_ok-graph.graph.value c.in_ok-image.ensures.lists (c.in_ok-graph.ensures.cases ∙ c.graph.ensures) c.is_kept.ensures.fits)

pub returns : goal.returns
returns c fact =
    let spelled : SpellsImage MAX_COMPONENTS c.in-Some.bytes.items c.in_ok-image.image = search rules in
    let found : SpellsImage MAX_COMPONENTS c.deref-2.result.now (image_of c.in-Some-2.holdings) × AreWithin c.deref.result.now (image_of c.in-Some-2.holdings) = search rules in
    let held = read_back c.spellings_of_images.ensures.one c.in-Some.bytes.items c.deref-2.result.now c.in_ok-image.image (image_of c.in-Some-2.holdings) c.deref-2.ensures.value spelled found.0 in
    sym (c.in_ok-of_holdings.ensures.lists.facts fact) ∙ ap (λ (image : Image). facts_in image fact) held ∙ c.in_ok-image.ensures.lists.facts fact
