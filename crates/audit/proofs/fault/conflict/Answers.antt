use Rattle.graph.specs.Fits.{AreNew}
use Rattle.machine.specs.Legal.{Conflicts}
use Rattle.machine.specs.Machine.{facts}
use Rattle.machine.specs.Marked.{marked}
use Rattle.audit.proofs.Came.{conflict_told, found_false, found_true, twice_conflicts}
use Rattle.audit.proofs.fault.conflict.Goals as goal

pub returns-then-not-are_new : goal.returns-then-not-are_new
returns-then-not-are_new c =
    twice_conflicts (facts c.in_ok-empty.empty) (marked c.args.marks.now) c.args.puts.now c.in_ok-empty.ensures.facts (found_false (AreNew (facts c.in_ok-empty.empty) c.args.puts.now) (Conflicts (facts c.in_ok-empty.empty) c.args.puts.now) c.are_new.result c.if-not-are_new.true c.are_new.ensures.new)

pub returns : goal.returns
returns c =
    let new = found_true (AreNew (facts c.in_ok-empty.empty) c.args.puts.now) (Conflicts (facts c.in_ok-empty.empty) c.args.puts.now) c.are_new.result c.if-not-are_new.false c.are_new.ensures.new in
    conflict_told (marked c.args.marks.now) c.args.puts.now c.are_free.result new.distinct c.are_free.ensures
