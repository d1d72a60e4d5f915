-- A worked example of puts that come together: a tag that is put twice.
use Rattle.std.specs.Prelude.{List, [], ◌∷◌}
use Rattle.terms.specs.declared.event.Event.{Event}
use Rattle.terms.specs.declared.event.Event.TheVariants.{EnvTag}
use Rattle.terms.specs.Sets.{among}
use Rattle.machine.specs.Mixed.{the_tag, two_putters}
use Rattle.machine.specs.Puts.{PutsTogether}

abbrev pub put_twice : List Event
put_twice = EnvTag the_tag ∷ EnvTag the_tag ∷ []

-- the first of them comes; neither do both come, nor none
pub record TagIsRepeated : Type 0 where
  pub first : PutsTogether two_putters (among []) put_twice 1
  pub not_both : PutsTogether two_putters (among []) put_twice 2 → ⊥
  pub not_none : PutsTogether two_putters (among []) put_twice 0 → ⊥
