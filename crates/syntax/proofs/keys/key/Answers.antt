use Rattle.std.proofs.Common.{refl, [], ◌∷◌, subst}
use Rattle.syntax.specs.Expected.{exactly}
use Rattle.syntax.specs.Parsed.{left, named_of, Reads}
use Rattle.syntax.specs.Spelled.{a_sign}
use Rattle.syntax.proofs.Fewer.{read_fewer}
use Rattle.syntax.proofs.Moves.{◌⨟◌}
use Rattle.syntax.proofs.keys.key.Goals as goal

pub returns-clause-reads : goal.returns-clause-reads
returns-clause-reads c = λ kind close.
    let parts = c.in_ok-components.ensures.reads in
    let end = subst (λ sign. Reads (exactly sign ∷ []) [] (a_sign sign) (left c.components.new.cursor) (left c.sign.new.self)) close c.in_ok-sign.ensures.reads in
    record {
      key = record { collection = named_of c.in_ok-collection.collection; components = parts.sums };
      reads = c.in_ok-collection.ensures.reads ⨟ (parts.reads ⨟ end);
      is = ((refl, refl), parts.are);
      within = rw c.in_ok-collection.ensures.within parts.within;
    }

pub returns-clause-fewer : goal.returns-clause-fewer
returns-clause-fewer c = read_fewer (c.in_ok-collection.ensures.reads ⨟ (c.in_ok-components.ensures.reads.reads ⨟ c.in_ok-sign.ensures.reads)) (λ e. cc)
