-- The levels around the innermost one, as the parser keeps them.
use Rattle.std.specs.Prelude.{Bool, ℕ, None}
use Rattle.syntax.specs.declared.level.Kept.{Kept}
use Rattle.syntax.specs.declared.level.Kept.TheVariants.{Bare, Whole}
use Rattle.syntax.specs.declared.level.Level.{Level}

-- a level in which no operand waits
abbrev pub bare : Bool → ℕ → Level
bare may_compare negations = record { may_compare = may_compare; comparison = None; sum = None; product = None; negations = negations }

-- the level that is kept so
abbrev pub level_kept : Kept → Level
level_kept (Bare may_compare negations) = bare may_compare negations
level_kept (Whole level) = level.value
