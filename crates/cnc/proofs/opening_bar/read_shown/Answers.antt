use Rattle.std.proofs.Common.{◌+◌, ◌-◌, ◌∙◌, length, take, drop, ap, rules, arith}
use Rattle.disk.specs.File.{File}
use Rattle.cnc.proofs.Pieces.{front_grows}
use Rattle.cnc.proofs.opening_bar.read_shown.Goals as goal

pub loop-read-preserved : goal.loop-read-preserved
loop-read-preserved g c =
    let content = (g.D.Disk.files c.args.disk.now c.args.side).content in
    let held = c.loop-read.buffer in
    let from = c.loop-read.read in
    let count = c.min.result in
    record {
      within = omega arith;
      front = λ honest.
          front_grows content held c.read-in-loop-read.new.buffer c.args.at from count (omega arith) (omega (arith, c.requires honest)) (c.loop-read.invariant.front honest)
          (c.in_ok-read.ensures.value honest
          ∙ ap (λ (file : File). take (length (take (from + count - from) (drop from held))) (drop (c.args.at + from) file.content)) (c.loop-read.invariant.same honest c.args.side));
      same = λ honest side. c.in_ok-read.ensures.same honest side ∙ c.loop-read.invariant.same honest side;
      failures = search rules;
      refusals = search rules;
    }
