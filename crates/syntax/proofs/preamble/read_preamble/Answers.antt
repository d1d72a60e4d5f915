use Rattle.std.proofs.Common.{◌≡◌, ◌++◌, ◌∷◌, [], sym, subst, rules}
use Rattle.syntax.specs.Expected.{relations}
use Rattle.syntax.specs.Parsed.{left}
use Rattle.syntax.specs.Relations.{IsRelationOrNone}
use Rattle.syntax.specs.Declarations.{ArePreamble}
use Rattle.syntax.proofs.GraphParts.{one_related}
use Rattle.syntax.proofs.preamble.read_preamble.Goals as goal

pub loop-relations-preserved : goal.loop-relations-preserved
loop-relations-preserved c =
    let now = c.loop-relations in
    let after = left c.next_relation.new.cursor in
    let read = subst (λ it. IsRelationOrNone it (left now.cursor) after) c.in-Some.is c.in_ok-relation.ensures.reads in
    let pushed : c.push_reserved.new.self.items ≡ now.relations.items ++ c.in-Some.relation ∷ [] = search rules in
    subst (λ them. ArePreamble (relations ∷ []) c.in_ok-declarations.field-0.declarations.items them (left c.args.cursor.now) after) (sym pushed)
    (one_related c.in-Some.relation after now.invariant read)
