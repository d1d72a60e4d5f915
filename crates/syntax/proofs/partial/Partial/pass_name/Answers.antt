use Rattle.std.proofs.Common.{[], sym, subst, rules}
use Rattle.syntax.specs.Expected.{passing}
use Rattle.syntax.specs.Partial.{IsPartial}
use Rattle.syntax.proofs.Partials.{long_name}
use Rattle.syntax.proofs.partial.Partial.pass_name.Goals as goal

pub returns-then-text-gt-MOST_NAME_BYTES : goal.returns-then-text-gt-MOST_NAME_BYTES
returns-then-text-gt-MOST_NAME_BYTES c = λ state is.
    subst (λ places. IsPartial (passing state places) c.pass.new.self) (sym (long_name c.args.text.now c.args.place (search rules))) (c.pass.ensures [] state is)
