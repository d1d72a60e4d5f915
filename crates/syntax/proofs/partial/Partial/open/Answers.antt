use Rattle.std.proofs.Common.{refl, rules}
use Rattle.syntax.proofs.Partials.{bracket_opened}
use Rattle.syntax.proofs.partial.Partial.open.Goals as goal

pub returns : goal.returns
returns c = λ state is. bracket_opened state c.count.new.self _ c.args.place (c.count.ensures state is) refl refl c.in_ok-around.ensures.opened (search rules)
