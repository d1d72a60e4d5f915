use Rattle.std.proofs.Common.{rules, ◌≡◌, ◌++◌, ℕ, List, length, take, drop, sym, ap, subst, ◌∙◌}
use Rattle.std.proofs.Math.Seq.{take-append_seam}
use Rattle.sides.specs.First.{LeavesFirst}
use Rattle.cli.proofs.past.closed.Goals as goal

pub returns : goal.returns
returns c g generation E X side starts =
    let old = c.args.bytes.items in
    let new = c.close_behind.new.bytes in
    let rest = drop (length new) old in
    let kept : length new ≡ c.args.bytes.len = search rules in
    let whole : take c.args.bytes.len (new ++ rest) ≡ new = ap (λ (n : ℕ). take n (new ++ rest)) (sym kept) ∙ take-append_seam new rest in
    let leaves : LeavesFirst c.args.at c.args.start old new = subst (λ (list : List ℕ). LeavesFirst c.args.at c.args.start list new) c.deref_mut.ensures.value c.close_behind.ensures.first in
    subst (λ (list : List ℕ). LeavesFirst c.args.at c.args.start old list) (sym whole) leaves g generation E X side starts
