use Rattle.std.proofs.Common.{◌≡◌, ◌∙◌, ℕ, Bool, List, ◌∷◌, [], ◌++◌, if◌then◌else◌, ap, sym, subst, get_or, take, rules, arith}
use Rattle.std.proofs.lemmas.List.{take_all}
use Rattle.disk.specs.Crash.{calls_touch}
use Rattle.disk.specs.Choice.{painted}
use Rattle.disk.specs.File.{AreBytes}
use Rattle.disk.proofs.Chosen.{painted-more, painted_bytes}
use Rattle.disk.proofs.Left.{bytes_from_fits}
use Rattle.disk.proofs.choice.paint.Goals.{then-touched, else-touched}
use Rattle.disk.proofs.choice.paint.Goals as goal

pub loop-position-preserved : goal.loop-position-preserved
loop-position-preserved c =
    let touched : ℕ → Bool = calls_touch c.last_sync.result.0.now c.args.side c.last_sync.result.1.now in
    let at = c.loop-position.position in
    let value : c.if-touched.push ≡ (if touched at then c.args.byte else get_or c.args.content.now at 0) = elim c.if-touched.branch [ then-touched w ↦ search rules | else-touched w ↦ search rules ] in
    c.in_ok-push.ensures.items
    ∙ ap (λ (list : List ℕ). list ++ c.if-touched.push ∷ []) c.loop-position.invariant
    ∙ ap (λ (byte : ℕ). painted touched c.args.byte 0 (take at c.args.content.now) ++ byte ∷ []) value
    ∙ sym (painted-more touched c.args.byte c.args.content.now at (omega arith))

pub returns-clause-bytes : goal.returns-clause-bytes
returns-clause-bytes c =
    let all : take c.loop-position.position c.args.content.now ≡ c.args.content.now = take_all c.loop-position.position c.args.content.now c.loop-position-test.false in
    let touched : ℕ → Bool = calls_touch c.last_sync.result.0.now c.args.side c.last_sync.result.1.now in
    subst AreBytes (sym (c.loop-position.invariant ∙ ap (painted touched c.args.byte 0) all))
    (painted_bytes touched c.args.byte 0 c.args.content.now (omega arith) (bytes_from_fits c.args.content.now c.type_inv.content))
