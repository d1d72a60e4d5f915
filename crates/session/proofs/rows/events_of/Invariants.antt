use Rattle.std.proofs.Common.{◌≡◌, ◌≤◌, length, map, take}
use Rattle.std.specs.Vec.{vec_capacity}
use Rattle.session.specs.Session.{all_of}
use Rattle.session.specs.Went.{put_by}
use Rattle.session.proofs.rows.events_of.Given as goal

-- what the commands so far put; for what the others put there is room
abbrev pub invariant-loop-command : goal.invariant-loop-command
invariant-loop-command l = (l.events.items ≡ all_of (map put_by (take l.command-index l.fn.commands))) × (length l.events.items ≤ l.command-index) × (length l.fn.commands ≤ vec_capacity l.events)
