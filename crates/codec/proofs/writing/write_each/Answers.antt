use Rattle.std.proofs.Common.{take}
use Rattle.std.specs.List.{flat_map}
use Rattle.codec.proofs.Appended.{kept_in_front}
use Rattle.codec.proofs.writing.write_each.Goals as goal

pub returns-in_err-write-clause-kept : goal.returns-in_err-write-clause-kept
returns-in_err-write-clause-kept g c =
    kept_in_front c.args.out.now.items (flat_map g.T.Spelled.spelling (take c.loop-element.element-index c.args.elements.now)) _ (rw c.loop-element.invariant.appended at c.write.ensures.kept)
