use Rattle.std.proofs.Common.{◌-◌, ap, arith, length}
use Rattle.session.proofs.GroupReplies.{length_behind, puts_first, row_behind}
use Rattle.session.proofs.progress.Progress.put_row.Goals as goal

pub put_group-requires-clause-puts : goal.put_group-requires-clause-puts
put_group-requires-clause-puts g c =
    let left = c.groups.self.left.now in
    let behind = length c.args.self.now.left.now - c.puts_in_front-row.result in
    puts_first c.min-most.result (length left - behind) left (omega (arith, c.min-most.ensures)) c.groups.invariant.puts

pub groups-preserved : goal.groups-preserved
groups-preserved g c =
    let it = c.groups.invariant in
    let left = c.groups.self.left.now in
    let behind = length c.args.self.now.left.now - c.puts_in_front-row.result in
    let rest = c.put_group.ensures.rest in
    record {
      idle = c.put_group.ensures.idle;
      stands = λ drive commands first old stands. c.put_group.ensures.keeps drive commands first old (it.stands drive commands first old stands);
      fewer = omega (arith, it.fewer, ap length rest.rest, length_behind rest.count left);
      puts = row_behind rest.count behind left c.put_group.new.self.left.now rest.rest it.puts;
    }
