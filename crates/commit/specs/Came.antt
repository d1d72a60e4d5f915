-- What the body of an instance comes to over a set of items.
use Rattle.std.specs.Prelude.{◌≡◌}
use Rattle.terms.specs.declared.name.Inst.{Inst}
use Rattle.terms.specs.Sets.{Facts}
use Rattle.graph.specs.Graph.{Graph}
use Rattle.graph.specs.Fits.{IsAbsent}
use Rattle.steplang.specs.Running.{Asking}
use Rattle.machine.specs.Machine.{Machine, facts}
use Rattle.machine.specs.Results.{AreItems, IsBodyOf}
use Rattle.commit.specs.declared.outcome.Outcome.{Outcome}
use Rattle.commit.specs.declared.outcome.Outcome.TheVariants.{Gave, Fault}
use Rattle.commit.specs.declared.bodies.Came.{Came}
use Rattle.commit.specs.declared.bodies.Came.TheVariants.{Ended, Waits}

-- it is of this instance and of the body of its step, and what was read are items of the set
abbrev pub IsOutcomeIn : Graph → Facts → Inst → Outcome → Type 0
IsOutcomeIn g X instance (Gave given) = (given.instance ≡ instance) × IsBodyOf g instance given.checked.now.body × AreItems X given.reads
IsOutcomeIn g X instance (Fault bad) = (bad.instance ≡ instance) × IsBodyOf g instance bad.checked.now.body × AreItems X bad.reads

pub record IsParkedIn (g : Graph) (X : Facts) (instance : Inst) (parked : Asking) : Type 0 where
  pub instance_is : parked.instance ≡ instance
  pub body : IsBodyOf g instance parked.checked.now.body
  pub reads : AreItems X parked.reads

-- its end, or an item that is not there
abbrev pub CameTo : Machine → Inst → Came → Type 0
CameTo m instance (Ended outcome) = IsOutcomeIn m.graph (facts m) instance outcome
CameTo m instance (Waits parked) = IsParkedIn m.graph (facts m) instance parked × IsAbsent (facts m) parked.address
