use Rattle.std.proofs.Common.{◌≡◌, [], ◌∷◌, Ok, refl, sym, ap, rules, ◌∙◌}
use Rattle.steptree.specs.declared.sheet.TheConstants.{MOST_COLLECTIONS}
use Rattle.syntax.specs.declared.token.Symbol.TheVariants as sign
use Rattle.syntax.specs.Tokens.{symbol}
use Rattle.syntax.specs.Spelled.{plain, at}
use Rattle.syntax.specs.Expected.{declarations, front, item, tag, look_declarations}
use Rattle.syntax.specs.Front.{front_of}
use Rattle.syntax.specs.Parsed.{left}
use Rattle.syntax.proofs.Moves.{taken_one}
use Rattle.syntax.proofs.Forward.{known}
use Rattle.syntax.proofs.StepParts.{full_names}
use Rattle.syntax.proofs.GraphParts.{front_begun}
use Rattle.syntax.proofs.declarations.next_front.Goals.{in-Symbol-OpenBracket, in-Symbol-Less}
use Rattle.syntax.proofs.declarations.next_front.Goals as goal

pub returns-clause-reads : goal.returns-clause-reads
returns-clause-reads c =
    let before = left c.args.cursor.now in
    let items = c.args.items in
    let tags = c.args.tags in elim c.match-front-2.branch [
      | in-Symbol-OpenBracket w ↦
          let ok : w.collection.result ≡ Ok c.in_ok-front.front = sym w.branch'-is ∙ c.in_ok-front.was in
          let lexeme : (front_of before).0 ≡ symbol sign.OpenBracket = search rules in
          let there = known before _ lexeme (λ e. cc) in
          let looks = ap (look_declarations items tags) lexeme in
          rw w.cursor-is (front_begun c.in_ok-front.front items tags _ (taken_one (declarations items tags) (front item items tags ∷ []) (plain (symbol sign.OpenBracket)) before _ there w.advance.ensures looks lexeme)
          (taken_one (declarations items tags) (front item items tags ∷ []) (at c.place-place.result (symbol sign.OpenBracket)) before _ there w.advance.ensures looks (lexeme, sym c.place-place.ensures))
          ((rw ok at w.collection.ensures.reads) item refl items tags (full_names MOST_COLLECTIONS items _ (λ full. search rules) (λ full. search rules))))
      | in-Symbol-Less w ↦
          let ok : w.collection-in-Symbol-Less.result ≡ Ok c.in_ok-front.front = sym w.branch'-is ∙ c.in_ok-front.was in
          let lexeme : (front_of before).0 ≡ symbol sign.Less = search rules in
          let angle = taken_one (declarations items tags) (front tag items tags ∷ []) (plain (symbol sign.Less)) before _ (known before _ lexeme (λ e. cc)) w.advance-in-Symbol-Less.ensures (ap (look_declarations items tags) lexeme) lexeme in
          rw w.cursor-is (front_begun c.in_ok-front.front items tags _ angle angle
          ((rw ok at w.collection-in-Symbol-Less.ensures.reads) tag refl items tags (full_names MOST_COLLECTIONS tags _ (λ full. search rules) (λ full. search rules))))
    ]
