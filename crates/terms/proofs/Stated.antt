-- What the environment put is part of what the events state.
use Rattle.std.proofs.Common.{[], ◌∷◌, arith, inl, inr}
use Rattle.std.specs.List.{Contains}
use Rattle.std.proofs.lemmas.List.Elements.{Contains-append_left, Contains-append_right, Contains-append_cases}
use Rattle.terms.specs.declared.event.Event.{Event}
use Rattle.terms.specs.declared.event.Event.TheVariants.{EnvItem, EnvTag, Done, Stopped}
use Rattle.terms.specs.Facts.{Fact, event_facts, environment_facts, facts, environment, EnvironmentIsStated}

-- of one event
of_one : (event : Event) (fact : Fact) → Contains (environment_facts event) fact → Contains (event_facts event) fact
of_one (EnvItem address value) fact there = there
of_one (EnvTag name) fact there = there
of_one (Done instance puts) fact there = absurd (omega (arith, there.1))
of_one (Stopped instance kind) fact there = absurd (omega (arith, there.1))

pub of_all : EnvironmentIsStated
of_all [] fact there = there
of_all (event ∷ events) fact there = elim (Contains-append_cases (environment_facts event) (environment events) fact there) [
  | inl first ↦ Contains-append_left (event_facts event) (facts events) fact (of_one event fact first)
  | inr later ↦ Contains-append_right (event_facts event) (facts events) fact (of_all events fact later)
]
