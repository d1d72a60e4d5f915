-- What makes a store that holds no facts.
use Rattle.std.proofs.Common.{◌≡◌, ◌<◌, ◌^◌, ◌+◌, ℕ, List, [], ◌∷◌, ◌++◌, length, inl, sym, ap, subst, ◌∙◌, arith, length-append}
use Rattle.disk.specs.declared.side.Side.{Side}
use Rattle.disk.specs.declared.side.Side.TheVariants.{A, B}
use Rattle.disk.specs.Side.{pick}
use Rattle.disk.specs.File.{File, at_rest}
use Rattle.disk.specs.Time.{Contents}
use Rattle.codec.specs.declared.image.Image.{Image}
use Rattle.codec.specs.Spelling.{image_bytes, IsImage}
use Rattle.graph.specs.Graph.{Graph}
use Rattle.graph.specs.Canonical.{canonical}
use Rattle.graph.specs.Reads.{Reads}
use Rattle.graph.specs.Fits.{FitsState}
use Rattle.sides.specs.Side.{behind_gate, counted, IsSide, end_of}
use Rattle.sides.specs.SideLaws.{BeginsSide}
use Rattle.vault.specs.declared.vault.Vault.{Vault}
use Rattle.vault.specs.Stands.{IsLive}
use Rattle.vault.specs.Store.{Holds, empty, new_side, nothing}
use Rattle.terms.specs.declared.key.TheConstants.{MAX_COMPONENTS}
use Rattle.sides.specs.declared.gate.TheConstants.{FORMAT}

-- nothing fits each graph
pub nothing_fits : (g : Graph) → FitsState g nothing nothing
nothing_fits g = record {
  part = λ fact is. is;
  of_environment = λ fact is. absurd (cc);
  items = λ address value is. is;
  of_graph = λ fact is. absurd (cc);
  environment_items = λ address value is. absurd (cc);
  environment_tags = λ name is. absurd (cc);
  done_are_prescribed = λ instance is. absurd (cc);
  producers_are_done = λ address value instance number is. is;
  fault = λ instance kind is. absurd (cc);
  one_fault = λ i j k l is also. absurd (cc);
}

-- the image without facts has a spelling
pub empty_is_image : IsImage MAX_COMPONENTS empty
empty_is_image = record {
  fault = tt;
  items = record { few = omega arith; each = tt; rises = tt };
  tags = record { few = omega arith; each = tt; rises = tt };
  done = record { few = omega arith; each = tt; rises = tt };
}

pub empty_is_short : length (image_bytes empty) < 2 ^ 32
empty_is_short = omega arith

-- the closed gate of a new side's journal is its last byte
gate_last : (text : List ℕ) → length (0 ∷ behind_gate FORMAT 1 text (image_bytes empty) (0 ∷ [])) ≡ length (1 ∷ behind_gate FORMAT 1 text (image_bytes empty) []) + 1
gate_last text =
    let head = text ++ counted (image_bytes empty) in
    omega (arith, length-append head (0 ∷ []), length-append head [])

-- what is spelled after a closed gate
module _ (text old new : List ℕ) (image : Image) (is : image ≡ empty) (gate : old ≡ 0 ∷ [])
    (spelled : length (image_bytes image) < 2 ^ 32 → new ≡ old ++ behind_gate FORMAT 1 text (image_bytes image) (0 ∷ [])) where
  pub side_spelled : new ≡ 0 ∷ behind_gate FORMAT 1 text (image_bytes empty) (0 ∷ [])
  side_spelled =
      spelled (subst (λ (im : Image). length (image_bytes im) < 2 ^ 32) (sym is) empty_is_short)
      ∙ ap (λ (front : List ℕ). front ++ behind_gate FORMAT 1 text (image_bytes image) (0 ∷ [])) gate
      ∙ ap (λ (im : Image). 0 ∷ behind_gate FORMAT 1 text (image_bytes im) (0 ∷ [])) is

  pub side_counted : length new ≡ length (1 ∷ behind_gate FORMAT 1 text (image_bytes empty) []) + 1
  side_counted = ap length side_spelled ∙ gate_last text

module _ (begins : BeginsSide) (g : Graph) (text : List ℕ) (canonical_text : text ≡ canonical g) (reads : Reads text g) where
  abbrev side_of : List ℕ
  side_of = new_side 1 (canonical g) (image_bytes empty)

  begun : (side : IsSide side_of g 1 nothing nothing) × (end_of side ≡ length (1 ∷ behind_gate FORMAT 1 (canonical g) (image_bytes empty) []))
  begun = begins g 1 empty (omega arith) (subst (λ (t : List ℕ). Reads t g) canonical_text reads) empty_is_image empty_is_short (nothing_fits g)

  abbrev written : Contents
  written = pick side_of (0 ∷ [])

  -- the two files of a new store hold nothing
  module _ {D : Type 0} (files : D → Side → File) (vault : Vault D) (a : files vault.disk A ≡ at_rest (new_side 1 text (image_bytes empty))) (b : files vault.disk B ≡ at_rest (0 ∷ []))
      (generation : vault.generation ≡ 1) (side : vault.journal.side ≡ A) (ends : vault.journal.end ≡ length (1 ∷ behind_gate FORMAT 1 text (image_bytes empty) [])) (kept : vault.text.items ≡ text) where
    abbrev IsFound : Side → ℕ → Type 0
    IsFound here number = (is_live : IsLive written here number g nothing nothing) × (vault.journal.end ≡ end_of is_live.is_side)

    found : IsFound vault.journal.side vault.generation
    found =
        subst (λ (number : ℕ). IsFound vault.journal.side number) (sym generation)
        (subst (λ (here : Side). IsFound here 1) (sym side) (
          record { is_side = begun.0; behind = inl (λ opened. let no = opened.1 in cc) },
          ends ∙ ap (λ (t : List ℕ). length (1 ∷ behind_gate FORMAT 1 t (image_bytes empty) [])) canonical_text ∙ sym begun.1,
        ))

    rests : (each : Side) → files vault.disk each ≡ at_rest (written each)
    rests A = a ∙ ap (λ (t : List ℕ). at_rest (new_side 1 t (image_bytes empty))) canonical_text
    rests B = b

    pub holds_nothing : Holds files vault g nothing nothing
    holds_nothing = record { contents = written; rests = rests; is_live = found.0; ends = found.1; text = kept ∙ canonical_text }
