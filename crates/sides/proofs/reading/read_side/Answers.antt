use Rattle.std.proofs.Common.{◌≡◌, ◌+◌, ◌-◌, ℕ, List, length, take, drop, subst, ◌∙◌}
use Rattle.std.proofs.lemmas.List.{take_rest}
use Rattle.std.specs.List.{AllByRecursion}
use Rattle.terms.specs.Commits.{Commit}
use Rattle.codec.specs.declared.image.Image.{Image}
use Rattle.codec.specs.Spelling.{HasPutNumber}
use Rattle.graph.specs.Canonical.{canonical}
use Rattle.graph.specs.Graph.{Graph}
use Rattle.holdings.specs.Holdings.{IsFor, image_of}
use Rattle.sides.specs.Reading.{IsTextOf, IsImageOf, IsReplayed, AreCommits}
use Rattle.sides.proofs.PartsRead.{side_read, starts_there, ends_there, has_text, is_its_text, has_image, is_its_image, are_its_commits}
use Rattle.sides.proofs.reading.read_side.Goals as goal

pub returns-in_default-clause-nothing : goal.returns-in_default-clause-nothing
returns-in_default-clause-nothing c place is g n E X side = has_text c.args.bytes.now g n E X side c.in_default.ensures

pub returns-in_default-2-clause-nothing : goal.returns-in_default-2-clause-nothing
returns-in_default-2-clause-nothing c place is g n E X side =
    let text = c.in-Some.text.now in
    let none : (g : Graph) → IsTextOf text g → ⊥ = rw c.in_default-2.is at c.in_ok-graph.ensures in
    none g (is_its_text c.args.bytes.now g n E X side text c.in-Some.ensures)

pub returns-in_default-counted_at-clause-nothing : goal.returns-in_default-counted_at-clause-nothing
returns-in_default-counted_at-clause-nothing c place is g n E X side =
    has_image c.args.bytes.now g n E X side c.in-Some.text.now c.in-Some.ensures c.in_default-counted_at.ensures

pub returns-in_default-3-clause-nothing : goal.returns-in_default-3-clause-nothing
returns-in_default-3-clause-nothing c place is g n E X side =
    let text = c.in-Some.text.now in
    let graph = c.in-Some-2.graph in
    let part = c.in-Some-counted_at.image.now in
    let both : IsTextOf text graph × (c.in-Some-2.own.items ≡ canonical graph) = rw c.in-Some-2.is at c.in_ok-graph.ensures in
    let is_text = both.0 in
    let none : (image : Image) → IsImageOf graph part image → ⊥ = rw c.in_default-3.is at c.in_ok-holdings.ensures.image in
    none side.image (is_its_image c.args.bytes.now g n E X side text c.in-Some.ensures c.one_reading.ensures graph is_text part c.in-Some-counted_at.ensures)

pub returns-in-Ended-clause-read : goal.returns-in-Ended-clause-read
returns-in-Ended-clause-read c n has =
    let bytes = c.args.bytes.now in
    let text = c.in-Some.text.now in
    let graph = c.in-Some-2.graph in
    let part = c.in-Some-counted_at.image.now in
    let old = c.in-Some-3.holdings in
    let new = c.take_commits.new.holdings in
    let start = 14 + length text + 4 + length part in
    let end = c.in-Ended.end in
    let both : IsTextOf text graph × (c.in-Some-2.own.items ≡ canonical graph) = rw c.in-Some-2.is at c.in_ok-graph.ensures in
    let is_text = both.0 in
    let is_image : IsImageOf graph part (image_of old) = rw c.in-Some-3.is at c.in_ok-holdings.ensures.image in
    let for_graph : IsFor graph old = rw c.in-Some-3.is at c.in_ok-holdings.ensures.collections in
    let there : IsReplayed graph old new (take (length bytes - start) (drop start bytes)) end = rw c.in-Ended.is at c.in_ok-end.ensures.commits in
    let replayed : IsReplayed graph old new (drop start bytes) end = subst (λ (journal : List ℕ). IsReplayed graph old new journal end) (take_rest bytes start) there in
    let numbered : AllByRecursion HasPutNumber (image_of new).items = rw c.in-Ended.is at c.in_ok-end.ensures.numbered in
    record {
      is_side = side_read bytes n has c.if-bytes-ne-FORMAT.false text part c.in-Some.ensures c.in-Some-counted_at.ensures graph old new end is_text is_image replayed;
      starts = starts_there bytes n has c.if-bytes-ne-FORMAT.false text part c.in-Some.ensures c.in-Some-counted_at.ensures graph old new end is_text is_image replayed;
      ends = ends_there bytes n has c.if-bytes-ne-FORMAT.false text part c.in-Some.ensures c.in-Some-counted_at.ensures graph old new end is_text is_image replayed;
      text = both.1;
      numbered = numbered;
      collections = replayed.counts ∙ for_graph;
    }

pub returns-in-Broken-clause-nothing : goal.returns-in-Broken-clause-nothing
returns-in-Broken-clause-nothing c place is g n E X side =
    let bytes = c.args.bytes.now in
    let text = c.in-Some.text.now in
    let graph = c.in-Some-2.graph in
    let part = c.in-Some-counted_at.image.now in
    let image = image_of c.in-Some-3.holdings in
    let start = 14 + length text + 4 + length part in
    let both : IsTextOf text graph × (c.in-Some-2.own.items ≡ canonical graph) = rw c.in-Some-2.is at c.in_ok-graph.ensures in
    let is_text = both.0 in
    let is_image : IsImageOf graph part image = rw c.in-Some-3.is at c.in_ok-holdings.ensures.image in
    let there : (commits : List Commit) → AreCommits graph image (take (length bytes - start) (drop start bytes)) commits → ⊥ = rw c.in-Broken.is at c.in_ok-end.ensures.commits in
    let none : (commits : List Commit) → AreCommits graph image (drop start bytes) commits → ⊥ =
    subst (λ (journal : List ℕ). (commits : List Commit) → AreCommits graph image journal commits → ⊥) (take_rest bytes start) there in
    none side.commits (are_its_commits bytes g n E X side text c.in-Some.ensures c.one_reading.ensures graph is_text part c.in-Some-counted_at.ensures c.spellings_of_images.ensures.one image is_image)
