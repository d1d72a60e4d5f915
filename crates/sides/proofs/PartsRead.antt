-- The parts of a side, read one after another: what they make of its bytes, and what a side has where one is wrong.
use Rattle.std.proofs.Common.{◌≡◌, ◌<◌, ◌+◌, ◌^◌, ℕ, List, [], ◌∷◌, ◌++◌, length, drop, map, get_or, refl, sym, ap, subst, ◌∙◌, arith}
use Rattle.std.proofs.lemmas.List.{append-nil, length-append, drop_at}
use Rattle.byteorder.specs.Endian.{little_bytes}
use Rattle.byteorder.specs.Numbers.{length-bytes_low_first}
use Rattle.terms.specs.Commits.{events_of}
use Rattle.terms.specs.Sets.{Facts, among}
use Rattle.codec.specs.declared.image.Image.{Image}
use Rattle.codec.specs.Commits.{commit_bytes}
use Rattle.codec.specs.Laws.{SpellsOne}
use Rattle.codec.specs.Spelling.{image_bytes, SpellsImage}
use Rattle.codec.specs.Image.{image_facts, image_environment, facts_in, environment_in}
use Rattle.holdings.specs.Holdings.{Holdings, image_of}
use Rattle.journal.specs.Records.{StandsFor}
use Rattle.graph.specs.Graph.{Graph}
use Rattle.graph.specs.Canonical.{canonical}
use Rattle.graph.specs.Reads.{Reads}
use Rattle.graph.specs.Fits.{AllFit, FitsState}
use Rattle.graph.specs.Textual.{OneReading}
use Rattle.sides.specs.Side.{counted, behind_gate, HasGeneration, IsSide, start_of, end_of}
use Rattle.sides.specs.Reading.{IsCountedAt, HasNoneAt, IsTextOf, IsImageOf, AreCommits, IsReplayed}
use Rattle.sides.proofs.Once.{parts_of, counted_once}
use Rattle.terms.specs.declared.key.TheConstants.{MAX_COMPONENTS}
use Rattle.sides.specs.declared.gate.TheConstants.{FORMAT}

-- ---- what the parts make

-- the parts, after the head of a side
module _ (n : ℕ) (text part : List ℕ) where
  -- where the journal begins
  starts : length (1 ∷ behind_gate FORMAT n text part []) ≡ 14 + length text + 4 + length part
  starts =
      ap (λ (list : List ℕ). length (1 ∷ FORMAT ∷ list)) (append-nil (little_bytes 8 n ++ counted text ++ counted part))
      ∙ omega (
        arith,
        length-append (little_bytes 8 n ++ counted text) (counted part),
        length-append (little_bytes 8 n) (counted text),
        length-bytes_low_first 0 8 n,
        length-append (little_bytes 4 (length text)) text,
        length-append (little_bytes 4 (length part)) part,
        length-bytes_low_first 0 4 (length text),
        length-bytes_low_first 0 4 (length part),
      )

module _ (bytes : List ℕ) (n : ℕ) (has : HasGeneration bytes n) (format : get_or bytes 1 0 ≡ FORMAT) where
  -- after its head comes the text
  in_front : bytes ≡ 1 ∷ FORMAT ∷ little_bytes 8 n ++ drop 10 bytes
  in_front =
      has.1.2 ∙ ap (λ (byte : ℕ). 1 ∷ byte ∷ little_bytes 8 n ++ has.1.1) (sym (ap (λ (list : List ℕ). get_or list 1 0) has.1.2) ∙ format)
      ∙ ap (λ (rest : List ℕ). 1 ∷ FORMAT ∷ little_bytes 8 n ++ rest)
      (sym (ap (drop 10) has.1.2 ∙ drop_at (1 ∷ has.1.0 ∷ little_bytes 8 n) has.1.1 10 refl))

  module _ (text part : List ℕ) (has_text : IsCountedAt bytes 10 text) (has_part : IsCountedAt bytes (14 + length text) part) where
    pub in_parts : bytes ≡ 1 ∷ behind_gate FORMAT n text part (drop (14 + length text + 4 + length part) bytes)
    in_parts =
        in_front ∙ ap (λ (rest : List ℕ). 1 ∷ FORMAT ∷ little_bytes 8 n ++ rest) (has_text.spelled ∙ ap (λ (rest : List ℕ). counted text ++ rest) has_part.spelled)
        ∙ ap (λ (rest : List ℕ). 1 ∷ FORMAT ∷ rest) (sym (parts_of (little_bytes 8 n) (counted text) (counted part) (drop (14 + length text + 4 + length part) bytes)))

    module _ (g : Graph) (old new : Holdings) (end : ℕ) (is_text : IsTextOf text g) (is_image : IsImageOf g part (image_of old)) (replayed : IsReplayed g old new (drop (14 + length text + 4 + length part) bytes) end) where
      abbrev pub side_read : IsSide bytes g n (environment_in (image_of new)) (facts_in (image_of new))
      side_read = record {
        format = FORMAT;
        is_known = refl;
        small = has.0;
        reads = subst (λ (list : List ℕ). Reads list g) (sym is_text.1) is_text.0;
        image = image_of old;
        is_image = is_image.0.0;
        counted_image = subst (λ (list : List ℕ). length list < 2 ^ 32) is_image.0.1 has_part.short;
        commits = replayed.commits;
        are_commits = replayed.are.are_commits;
        journal = drop (14 + length text + 4 + length part) bytes;
        records = replayed.are.stands;
        spelled = in_parts ∙ (λ i. 1 ∷ behind_gate FORMAT n (sym is_text.1 i) (is_image.0.1 i) (drop (14 + length text + 4 + length part) bytes));
        image_fits = is_image.1;
        events_fit = replayed.are.fit;
        environment = replayed.environment;
        facts = replayed.facts;
      }

      pub starts_there : 14 + length text + 4 + length part ≡ start_of side_read
      starts_there = sym (starts n text part) ∙ (λ i. length (1 ∷ behind_gate FORMAT n (sym is_text.1 i) (is_image.0.1 i) []))

      pub ends_there : 14 + length text + 4 + length part + end ≡ end_of side_read
      ends_there =
          ap (λ (start : ℕ). start + end) starts_there
          ∙ ap (λ (more : ℕ). length (1 ∷ behind_gate FORMAT n (canonical g) (image_bytes (image_of old)) []) + more) replayed.ends

-- ---- what a side has there

module _ (bytes : List ℕ) (h : Graph) (n : ℕ) (E X : Facts) (side : IsSide bytes h n E X) where
  -- it has the format
  pub has_format : get_or bytes 1 0 ≡ FORMAT
  has_format = ap (λ (list : List ℕ). get_or list 1 0) side.spelled ∙ side.is_known

  behind_head : drop 10 bytes ≡ counted (canonical h) ++ (counted (image_bytes side.image) ++ side.journal)
  behind_head =
      ap (drop 10) (side.spelled ∙ ap (λ (rest : List ℕ). 1 ∷ side.format ∷ rest) (parts_of (little_bytes 8 n) (counted (canonical h)) (counted (image_bytes side.image)) side.journal))
      ∙ drop_at (1 ∷ side.format ∷ little_bytes 8 n) (counted (canonical h) ++ (counted (image_bytes side.image) ++ side.journal)) 10 refl

  -- a text that four bytes count
  pub has_text : HasNoneAt bytes 10 → ⊥
  has_text none = none (canonical h) (counted (image_bytes side.image) ++ side.journal) (omega (arith, side.reads.short)) behind_head

  module _ (text : List ℕ) (counted_text : IsCountedAt bytes 10 text) where
    texts : (text ≡ canonical h) × (drop (14 + length text) bytes ≡ counted (image_bytes side.image) ++ side.journal)
    texts = counted_once text (canonical h) (drop (14 + length text) bytes) (counted (image_bytes side.image) ++ side.journal) (omega (arith, counted_text.short)) (omega (arith, side.reads.short))
        (sym counted_text.spelled ∙ behind_head)

    -- which is its graph's
    pub is_its_text : IsTextOf text h
    is_its_text = (subst (λ (list : List ℕ). Reads list h) (sym texts.0) side.reads, sym texts.0)

    -- an image that four bytes count
    pub has_image : HasNoneAt bytes (14 + length text) → ⊥
    has_image none = none (image_bytes side.image) side.journal (omega (arith, side.counted_image)) texts.1

    module _ (one_reading : OneReading) (g : Graph) (is_text : IsTextOf text g) where
      same : h ≡ g
      same = one_reading text h g is_its_text.0 is_text.0

      module _ (part : List ℕ) (counted_part : IsCountedAt bytes (14 + length text) part) where
        images : (part ≡ image_bytes side.image) × (drop (14 + length text + 4 + length part) bytes ≡ side.journal)
        images = counted_once part (image_bytes side.image) (drop (14 + length text + 4 + length part) bytes) side.journal (omega (arith, counted_part.short)) (omega (arith, side.counted_image))
            (sym counted_part.spelled ∙ texts.1)

        -- which fits
        pub is_its_image : IsImageOf g part side.image
        is_its_image = ((side.is_image, images.0), subst (λ (graph : Graph). FitsState graph (among (image_environment side.image)) (among (image_facts side.image))) same side.image_fits)

        -- and a journal of commits that fit after the image
        pub are_its_commits : SpellsOne (SpellsImage MAX_COMPONENTS) → (image : Image) → IsImageOf g part image → AreCommits g image (drop (14 + length text + 4 + length part) bytes) side.commits
        are_its_commits one_image image is_image = record {
          are_commits = side.are_commits;
          stands = subst (λ (journal : List ℕ). StandsFor journal (map commit_bytes side.commits)) (sym images.1) side.records;
          fit = subst (λ (read : Image). AllFit g (image_facts read) (events_of side.commits)) (one_image part side.image image (side.is_image, images.0) is_image.0)
              (subst (λ (graph : Graph). AllFit graph (image_facts side.image) (events_of side.commits)) same side.events_fit);
        }
