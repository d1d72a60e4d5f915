use Rattle.std.proofs.Common.{◌≡◌, true, ◌∷◌, ◌++◌, refl}
use Rattle.syntax.specs.declared.token.Symbol.{Symbol}
use Rattle.syntax.specs.declared.token.Symbol.TheVariants as sign
use Rattle.syntax.specs.Tokens.{symbol}
use Rattle.syntax.specs.Spelled.{expr_pieces}
use Rattle.syntax.specs.MayCome.{EndsExpression}
use Rattle.syntax.specs.Expected.{whole, possible, key_rest}
use Rattle.syntax.proofs.Tellings.{as_told, as_the_machine}
use Rattle.syntax.proofs.Judged.{judged_none}
use Rattle.syntax.proofs.Behind.{an_end, stands}
use Rattle.syntax.proofs.Moves.{spelled}
use Rattle.syntax.proofs.JudgedExpressions.{whole_judged}
use Rattle.syntax.proofs.Walk.{key_judged, graph_told}
use Rattle.syntax.proofs.Causes.{told}
use Rattle.syntax.proofs.law.derived_may_come.Goals as goal

end_stands : (end : Symbol) → EndsExpression end → stands an_end (symbol end) ≡ true
end_stands sign.Semicolon ends = refl
end_stands sign.CloseRound ends = refl
end_stands sign.DoubleDot ends = refl
end_stands sign.OpenBrace ends = refl
end_stands _ ends = absurd ends

pub returns-clause-expressions : goal.returns-clause-expressions
returns-clause-expressions c = λ expr tokens rest end position behind ends none are.
    let later = (symbol end, position) ∷ rest in
    as_the_machine (tokens ++ later) later (whole possible ∷ behind) behind
    (judged_none none (whole_judged possible expr as_told behind (tokens ++ later) later refl (end_stands end ends) (spelled (expr_pieces expr) tokens later are)))

pub returns-clause-keys : goal.returns-clause-keys
returns-clause-keys c = λ kind key tokens rest behind none are.
    as_the_machine (tokens ++ rest) rest (key_rest kind ++ behind) behind (judged_none none (key_judged kind key tokens rest behind as_told are))

pub returns-clause-graphs : goal.returns-clause-graphs
returns-clause-graphs c = λ graph spots derives. told graph spots (graph_told graph spots derives)
