-- How an instance stands, as a small number, which maps keep.
use Rattle.std.specs.Prelude.{◌≡◌, ℕ, zero, suc, ℤ, List, refl}
use Rattle.std.specs.Coded.{Coded, code_by, coded_ℕ}
use Rattle.maps.specs.declared.stored.Brief.{Brief}
use Rattle.maps.specs.Stored.{no_words}
use Rattle.instances.specs.declared.standing.Standing.{Standing}
use Rattle.instances.specs.declared.standing.Standing.TheVariants.{Ready, Running, Waiting, Done}

abbrev small_of : Standing → ℕ
small_of Ready = 0
small_of Running = 1
small_of Waiting = 2
small_of Done = 3

abbrev pub standing_brief : Standing → Brief
standing_brief standing = record { number = 0; half = 0; small = small_of standing }

abbrev standing_by : ℕ → Standing
standing_by zero = Ready
standing_by (suc zero) = Running
standing_by (suc (suc zero)) = Waiting
standing_by (suc (suc (suc small))) = Done

abbrev pub standing_said : Brief → List ℤ → Standing
standing_said brief words = standing_by brief.small

pub same_standing : (standing : Standing) → standing_said (standing_brief standing) (no_words standing) ≡ standing
same_standing Ready = refl
same_standing Running = refl
same_standing Waiting = refl
same_standing Done = refl

-- the same number is its code, for which the checker asks
pub same_small : (standing : Standing) → standing_by (small_of standing) ≡ standing
same_small Ready = refl
same_small Running = refl
same_small Waiting = refl
same_small Done = refl

abbrev pub standing_code : Coded Standing
standing_code = code_by ℕ coded_ℕ small_of standing_by same_small
