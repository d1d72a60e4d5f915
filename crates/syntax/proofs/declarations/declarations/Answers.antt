use Rattle.std.proofs.Common.{◌≡◌, ◌++◌, ◌∷◌, [], Some, ap, sym, subst, ◌∙◌, add-one, arith, rules}
use Rattle.syntax.specs.declared.declarations.Front.TheVariants as front
use Rattle.syntax.specs.declared.tree.Declaration.TheVariants as declares
use Rattle.syntax.specs.Expected.{relations}
use Rattle.syntax.specs.Parsed.{left}
use Rattle.syntax.specs.Declarations.{IsFrontOrNone, ArePreamble}
use Rattle.syntax.proofs.Fewer.{front_fewer}
use Rattle.syntax.proofs.GraphParts.{one_declared, declared_alone, preamble_on, one_related, item_room, tag_room}
use Rattle.syntax.proofs.declarations.declarations.Goals as goal

pub loop-relations-preserved-in-Some-Item : goal.loop-relations-preserved-in-Some-Item
loop-relations-preserved-in-Some-Item c =
    let now = c.loop-relations in
    let item = c.in-Some-Item in
    let read = subst (λ it. IsFrontOrNone now.items now.tags it (left now.cursor) (left c.next_front.new.cursor)) (item.is ∙ ap Some item.field-0-is) c.in_ok-name.ensures.reads in
    let pushed : c.push_reserved.new.self.items ≡ now.declarations.items ++ declares.Item item.name item.components ∷ [] = search rules in
    let room = item_room item.name item.components read in
    (rw (add-one, pushed) (one_declared _ _ (declares.Item item.name item.components) _ now.invariant.0 read), now.invariant.1, omega (arith, room), now.invariant.3)

pub loop-relations-preserved : goal.loop-relations-preserved
loop-relations-preserved c =
    let now = c.loop-relations in
    let tag = c.in-Some-Tag in
    let read = subst (λ it. IsFrontOrNone now.items now.tags it (left now.cursor) (left c.next_front.new.cursor)) (tag.is ∙ ap Some tag.field-0-is) c.in_ok-name.ensures.reads in
    let pushed : c.push_reserved-in-Some-Tag.new.self.items ≡ now.declarations.items ++ declares.Tag tag.name tag.components ∷ [] = search rules in
    let room = tag_room tag.name tag.components read in
    (rw (add-one, pushed) (one_declared _ _ (declares.Tag tag.name tag.components) _ now.invariant.0 read), now.invariant.1, now.invariant.2, omega (arith, room))

pub returns-in-Some-Relation-clause-reads : goal.returns-in-Some-Relation-clause-reads
returns-in-Some-Relation-clause-reads c =
    let now = c.loop-relations in
    let first = c.in-Some-Relation in
    let read = subst (λ it. IsFrontOrNone now.items now.tags it (left now.cursor) (left c.next_front.new.cursor)) (first.is ∙ ap Some first.field-0-is) c.in_ok-name.ensures.reads in
    let pushed : c.push_reserved-in-Some-Relation.new.self.items ≡ now.relations.items ++ first.relation ∷ [] = search rules in
    let alone : c.push_reserved-in-Some-Relation.new.self.items ≡ first.relation ∷ [] = pushed ∙ ap (λ them. them ++ first.relation ∷ []) now.invariant.1 in
    subst (λ them. ArePreamble (relations ∷ []) now.declarations.items them (left c.args.cursor.now) (left c.next_front.new.cursor)) (sym alone)
    (one_related first.relation _ (declared_alone now.invariant.0) read)

pub returns-in-None-clause-reads : goal.returns-in-None-clause-reads
returns-in-None-clause-reads c =
    let now = c.loop-relations in
    let read = subst (λ it. IsFrontOrNone now.items now.tags it (left now.cursor) (left c.next_front.new.cursor)) c.in-None.is c.in_ok-name.ensures.reads in
    subst (λ them. ArePreamble (relations ∷ []) now.declarations.items them (left c.args.cursor.now) (left c.next_front.new.cursor)) (sym now.invariant.1)
    (preamble_on _ (declared_alone now.invariant.0) read)

pub loop-relations-smaller-in-Some-Item : goal.loop-relations-smaller-in-Some-Item
loop-relations-smaller-in-Some-Item c =
    let now = c.loop-relations in
    let item = c.in-Some-Item in
    front_fewer _ now.items now.tags (front.Item item.name item.components) (left now.cursor) (left c.next_front.new.cursor)
    (subst (λ it. IsFrontOrNone now.items now.tags it (left now.cursor) (left c.next_front.new.cursor)) (item.is ∙ ap Some item.field-0-is) c.in_ok-name.ensures.reads)

pub loop-relations-smaller : goal.loop-relations-smaller
loop-relations-smaller c =
    let now = c.loop-relations in
    let tag = c.in-Some-Tag in
    front_fewer _ now.items now.tags (front.Tag tag.name tag.components) (left now.cursor) (left c.next_front.new.cursor)
    (subst (λ it. IsFrontOrNone now.items now.tags it (left now.cursor) (left c.next_front.new.cursor)) (tag.is ∙ ap Some tag.field-0-is) c.in_ok-name.ensures.reads)
