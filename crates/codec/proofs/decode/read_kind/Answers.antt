use Rattle.codec.proofs.decode.read_kind.Goals as goal

pub returns-in-3 : goal.returns-in-3
returns-in-3 c = rw c.in-3.is c.read_done.ensures
