use Rattle.std.proofs.Common.{◌≤◌, vec_len}
use Rattle.std.specs.Vec.{vec_capacity}
use Rattle.report.specs.Got.{AreGotBelow}
use Rattle.report.proofs.got.got_by_number.Given as goal

abbrev pub invariant-loop-number : goal.invariant-loop-number
invariant-loop-number l = record {
  got : AreGotBelow l.graph l.number l.list.items;
  few : vec_len l.list ≤ l.number;
  room : l.count ≤ vec_capacity l.list;
}
