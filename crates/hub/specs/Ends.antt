-- What a finish may return.
use Rattle.std.specs.Prelude.{◌≡◌, ⊤, List, [], ◌∷◌}
use Rattle.terms.specs.declared.fault.FaultKind.TheVariants.{DoublePut}
use Rattle.commit.specs.declared.outcome.Outcome.{Outcome}
use Rattle.commit.specs.declared.outcome.Outcome.TheVariants.{Gave, Fault}
use Rattle.commit.specs.declared.outcome.Committed.{Committed}
use Rattle.commit.specs.declared.outcome.Committed.TheVariants.{Done, Stopped}
use Rattle.terms.specs.declared.name.Inst.{Inst}
use Rattle.commit.specs.Outcome.{end_of}
use Rattle.passes.specs.Known.{Known, Made}
use Rattle.passes.specs.Visits.{Writes}
use Rattle.hub.specs.Replies.{Adds}

-- A finish may return this for such an outcome: `Done`, or `Stopped` by a double put, if the body gave puts; `Stopped` by its fault, if it had one.
abbrev pub MayAnswer : Outcome → Committed → Type 0
MayAnswer (Gave given) Done = ⊤
MayAnswer (Gave given) (Stopped kind) = kind ≡ DoublePut
MayAnswer (Fault bad) Done = ⊥
MayAnswer (Fault bad) (Stopped kind) = kind ≡ bad.kind

-- a finish may return this for the outcome, and the commit of the end that it says was added to what the pass has seen
abbrev pub AddsEnd : Inst → Outcome → Known → Known → Committed → Type 0
AddsEnd task outcome old new committed = MayAnswer outcome committed × Adds (end_of committed task outcome ∷ []) old new

-- that commit was written into the history
abbrev pub WritesEnd : Inst → Outcome → List Made → List Made → Known → Known → Committed → Type 0
WritesEnd task outcome earlier later old new committed = Writes (end_of committed task outcome ∷ []) earlier later old new
