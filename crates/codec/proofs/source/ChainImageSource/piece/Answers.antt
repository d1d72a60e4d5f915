use Rattle.std.proofs.Common.{arith}
use Rattle.codec.proofs.Chained.{chained, none_left}
use Rattle.codec.proofs.source.ChainImageSource.piece.Goals as goal

pub returns-clause-gives : goal.returns-clause-gives
returns-clause-gives g c =
    let first = c.piece-count in
    let second = c.piece in
    let none = none_left (g.A.ImageSource.left first.new.self) (omega (arith, c.length.ensures, c.if-length-gt0.false)) in
    chained (g.A.ImageSource.left c.args.self.now.first) (g.B.ImageSource.left c.args.self.now.second) (g.A.ImageSource.left first.new.self) (g.B.ImageSource.left second.new.self)
    first.new.out second.new.out _ first.result second.result (omega (arith, first.ensures.within, first.ensures.room)) (omega (arith, second.ensures.within, second.ensures.room)) first.ensures.gives none second.ensures.gives
