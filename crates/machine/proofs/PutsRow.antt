-- The example of a tag that is put twice.
use Rattle.std.proofs.Common.{sym, refl, arith, []}
use Rattle.std.proofs.lemmas.Bool.{false≢true}
use Rattle.terms.specs.Sets.{among}
use Rattle.machine.specs.Mixed.{two_putters}
use Rattle.machine.specs.PutsExample.{TagIsRepeated, put_twice}
use Rattle.machine.specs.State.{AreLegalFrom}
use Rattle.std.proofs.Common.{take}

first_legal : AreLegalFrom two_putters (among []) (take 1 put_twice)
first_legal = (record { working = λ i k. refl; event_is_legal = (((record { name = _; components = 0 }, refl, refl), refl), refl) }, tt)

both_illegal : AreLegalFrom two_putters (among []) (take 2 put_twice) → ⊥
both_illegal legal = false≢true (sym legal.1.0.event_is_legal.1)

pub tag_repeated : TagIsRepeated
tag_repeated = record {
  first = record { within = omega arith; legal = first_legal; most = λ more. both_illegal };
  not_both = λ it. both_illegal it.legal;
  not_none = λ it. it.most (omega arith) first_legal;
}
