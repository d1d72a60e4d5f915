use Rattle.std.proofs.Common.{◌<◌, length, ap, arith}
use Rattle.terms.specs.declared.name.ItemCollection.{ItemCollection}
use Rattle.report.proofs.ByName.{added, passed}
use Rattle.report.proofs.got.got_by_number.Goals as goal
use Rattle.report.proofs.got.got_by_number.Goals.{in-Some, in_default}

pub loop-number-preserved : goal.loop-number-preserved
loop-number-preserved c =
    let g = c.args.graph.now in
    let number = c.loop-number.number in
    let list = c.loop-number.list.items in
    let inside : number < length g.items = omega arith in
    elim c.match-got.branch [
      | in-Some w ↦
          rw w.list-is (record {
            got = rw w.push_reserved.ensures.items (added g number list w.in-Some.one c.loop-number.invariant.got w.in-Some.ensures.some.1 (ap (λ (one : ItemCollection). one.0) w.in-Some.ensures.some.0) w.in-Some.ensures.may);
            few = omega arith;
            room = omega arith;
          })
      | in_default w ↦
          rw w.list-is (record {
            got = passed g number list c.loop-number.invariant.got (w.in_default.ensures.none inside);
            few = omega arith;
            room = c.loop-number.invariant.room;
          })
    ]
