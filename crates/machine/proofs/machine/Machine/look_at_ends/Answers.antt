use Rattle.std.proofs.Common.{subst, take, MatchBool, Some}
use Rattle.terms.specs.declared.fault.FaultKind.TheVariants.{DoublePut}
use Rattle.graph.specs.Fits.{HasNoFault}
use Rattle.machine.specs.Group.{AreEndsHere, EndsTogether, puts_of_all}
use Rattle.machine.specs.Machine.{Machine, facts}
use Rattle.machine.specs.Together.{AreAllNew, IsOneNotNew}
use Rattle.machine.proofs.NewTogether.{are_ends, as_they_say, cut_short}
use Rattle.machine.proofs.machine.Machine.look_at_ends.Goals as goal

pub up_to_fault-ended-requires : goal.up_to_fault-ended-requires
up_to_fault-ended-requires c = are_ends c.args.self.now c.args.ends.now c.requires.ends.each

pub returns-then-branch-clause-together : goal.returns-then-branch-clause-together
returns-then-branch-clause-together c =
    let mem = c.self.inside.memory in
    let events = c.args.ends.now in
    let ended = c.up_to_fault-ended.result in
    let says = c.up_to_fault-ended.ensures in
    let puts = puts_of_all (take ended.done events) in
    let new = subst (λ b. MatchBool b (AreAllNew mem.items puts) (IsOneNotNew mem.items puts)) c.if-branch.true c.in_ok-are_new_together.ensures.new in
    subst (λ (m : Machine). HasNoFault (facts m) → AreEndsHere m events → EndsTogether m.graph (facts m) events ended) c.self.view_is
    (as_they_say c.facts_are_told_apart.ensures.one c.puts_are_stated.ensures.end_nothing c.self.inside.graph.value mem c.self.invariant.0 c.are_there_together.ensures events ended says.within says.done says.next new)
    c.requires.working c.requires.ends

pub returns-clause-together : goal.returns-clause-together
returns-clause-together c =
    let events = c.args.ends.now in
    let says = c.up_to_fault-ended.ensures in
    let number = c.in_ok-done.done in
    subst (λ (m : Machine). HasNoFault (facts m) → AreEndsHere m events → EndsTogether m.graph (facts m) events (record { done = number; stopped = Some DoublePut })) c.self.view_is
    (cut_short c.facts_are_told_apart.ensures.one c.puts_are_stated.ensures.end_nothing c.self.inside.graph.value c.self.inside.memory c.self.invariant.0 c.are_there_together.ensures events
    c.up_to_fault-ended.result.done number says.within says.done c.in_ok-done.ensures.below c.in_ok-done.ensures.new)
    c.requires.working c.requires.ends
