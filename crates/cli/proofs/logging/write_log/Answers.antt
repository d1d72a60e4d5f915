use Rattle.std.proofs.Common.{◌+◌, Some, subst, arith}
use Rattle.std.specs.Io.KnownBytes.{Appends}
use Rattle.terms.specs.Commits.{Commit}
use Rattle.sides.specs.NextCommit.{IsFurther, ReadsNext}
use Rattle.cli.specs.LogText.{commit_lines}
use Rattle.cli.proofs.LogWritten.{commit_written}
use Rattle.cli.proofs.logging.write_log.Goals as goal

pub loop-commit-preserved : goal.loop-commit-preserved
loop-commit-preserved g c =
    let bytes = c.args.bytes.now in
    let at = c.loop-commit.at in
    let number = c.loop-commit.number + 1 in
    let next = c.in-Some.next in
    let commit = c.following.new.commit.items in
    let before = g.W.Write.contents c.args.out.now in
    let now = g.W.Write.contents c.loop-commit.out in
    let later = g.W.Write.contents c.write_next.new.out in
    let further : IsFurther bytes at (Some next) = rw c.in-Some.is at c.in_ok-next.ensures.goes_on in
    let reads : ReadsNext bytes at commit (Some next) = rw c.in-Some.is at c.in_ok-next.ensures.read in
    let here : Appends now later (commit_lines c.args.graph.now number commit) =
    subst (λ (events : Commit). Appends now later (commit_lines c.args.graph.now number events)) c.deref.ensures.value c.in_ok-write_next.ensures.written in
    record {
      numbered = omega (arith, c.loop-commit.invariant.numbered, further.0);
      written = λ commits stand. commit_written c.args.graph.now bytes at next number before now later commits commit reads here (c.loop-commit.invariant.written commits stand);
    }
