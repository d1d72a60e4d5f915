use Rattle.std.proofs.Common.{ℕ, List, [], ◌∷◌, ◌++◌, ap, ◌∙◌}
use Rattle.byteorder.specs.Endian.{little_bytes}
use Rattle.codec.specs.Spelling.{image_bytes}
use Rattle.sides.specs.Side.{counted}
use Rattle.sides.specs.declared.gate.TheConstants.{FORMAT}
use Rattle.sides.proofs.Spelled.{in_a_row}
use Rattle.sides.proofs.spelling.spell_side.Goals as goal

pub returns-clause-spelled : goal.returns-clause-spelled
returns-clause-spelled c short =
    let text = counted c.args.text.now in
    let image = counted (image_bytes c.args.image.now) in
    c.in_ok-push.ensures.items
    ∙ ap (λ (front : List ℕ). front ++ 0 ∷ []) (c.in_ok-counted.ensures.spelled short
    ∙ ap (λ (front : List ℕ). front ++ image) (c.in_ok-put_text.ensures ∙ ap (λ (front : List ℕ). front ++ text) c.in_ok-put_head.ensures))
    ∙ in_a_row c.args.out.now.items (FORMAT ∷ little_bytes 8 c.args.generation) text image (0 ∷ [])
