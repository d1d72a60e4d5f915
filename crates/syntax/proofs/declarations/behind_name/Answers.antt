use Rattle.std.proofs.Common.{rules, ◌∷◌, ◌≢◌, sym, subst, arith, ap, length}
use Rattle.syntax.specs.declared.token.Symbol.TheVariants as sign
use Rattle.syntax.specs.Tokens.{symbol}
use Rattle.syntax.specs.Expected.{exactly, front_closed, run}
use Rattle.syntax.specs.Front.{front_of}
use Rattle.syntax.specs.Parsed.{left, Tells}
use Rattle.syntax.proofs.GraphParts.{bracket_due}
use Rattle.syntax.proofs.Fewer.{read_fewer, behind_no_more}
use Rattle.syntax.proofs.Stopping.{passed_on}
use Rattle.syntax.proofs.declarations.behind_name.Goals.{in_default-via-in-Symbol+in_default, in_default-via-in_default}
use Rattle.syntax.proofs.declarations.behind_name.Goals as goal

pub returns-in_err-sign-in_default-clause-stops : goal.returns-in_err-sign-in_default-clause-stops
returns-in_err-sign-in_default-clause-stops c =
    let no_colon : (front_of (left c.args.cursor.now)).0 ≢ symbol sign.Colon = elim c.in_default.branch [ in_default-via-in-Symbol+in_default w ↦ search rules | in_default-via-in_default w ↦ search rules ] in
    passed_on c.from_residual-in_err-sign-in_default.result c.in_err-sign-in_default.field-0.0 _ c.from_residual-in_err-sign-in_default.ensures.1
    (λ kind items tags closes room behind. subst (Tells c.in_err-sign-in_default.field-0.0 (left c.sign.new.self)) (sym (bracket_due kind items tags c.args.place behind (left c.args.cursor.now) no_colon))
    (subst (λ it. Tells c.in_err-sign-in_default.field-0.0 (left c.sign.new.self) (run (exactly it ∷ front_closed kind items tags c.args.place ∷ behind) (left c.args.cursor.now))) closes
    (c.in_err-sign-in_default.ensures.stops (front_closed kind items tags c.args.place ∷ behind))))

pub returns-in_ok-count-in-Symbol-Colon-clause-fewer : goal.returns-in_ok-count-in-Symbol-Colon-clause-fewer
returns-in_ok-count-in-Symbol-Colon-clause-fewer c =
    let rest = read_fewer c.in_ok-count-in-Symbol-Colon.ensures.reads.reads (λ e. cc) in
    let behind = behind_no_more (left c.args.cursor.now) in
    omega (arith, rest, behind, ap length c.advance.ensures)
