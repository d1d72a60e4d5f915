-- A worked example of a group: two ends that put one item.
use Rattle.std.specs.Prelude.{pos, List, [], ◌∷◌, Some, None}
use Rattle.terms.specs.declared.fault.FaultKind.TheVariants.{DoublePut}
use Rattle.terms.specs.declared.put.Put.TheVariants as put
use Rattle.terms.specs.declared.event.Event.{Event}
use Rattle.terms.specs.declared.event.Event.TheVariants.{Done}
use Rattle.terms.specs.Facts.{Fact, tag}
use Rattle.terms.specs.Sets.{among}
use Rattle.machine.specs.Group.{EndsTogether}
use Rattle.machine.specs.Mixed.{named_item, of_step, the_tag, two_putters}

-- the tag is there, and p and q are prescribed
abbrev pub prescribed : List Fact
prescribed = tag the_tag ∷ []

-- p puts a as 1, and q puts a as 2
abbrev pub both_put : List Event
both_put = Done (of_step 0) (put.Item (named_item 0) (pos 1) ∷ []) ∷ Done (of_step 1) (put.Item (named_item 0) (pos 2) ∷ []) ∷ []

-- the group is cut after the first, by a double put; and neither are both done, nor is the first one the fault
pub record TwoMeet : Type 0 where
  pub cut : EndsTogether two_putters (among prescribed) both_put (record { done = 1; stopped = Some DoublePut })
  pub not_both : EndsTogether two_putters (among prescribed) both_put (record { done = 2; stopped = None }) → ⊥
  pub not_first : EndsTogether two_putters (among prescribed) both_put (record { done = 0; stopped = Some DoublePut }) → ⊥
