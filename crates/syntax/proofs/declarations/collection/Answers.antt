use Rattle.std.proofs.Common.{◌≡◌, [], Ok, refl, rules, sym, ◌∙◌}
use Rattle.syntax.specs.Grammar.{item_declared, tag_declared}
use Rattle.syntax.specs.Limits.{name_limits}
use Rattle.syntax.specs.Spelled.{a_sign, sign_at}
use Rattle.syntax.specs.declared.token.Symbol.TheVariants as sign
use Rattle.syntax.specs.Expected.{item, tag}
use Rattle.syntax.specs.Parsed.{left, named_of}
use Rattle.syntax.proofs.Moves.{reads_on}
use Rattle.syntax.proofs.GraphParts.{closes_item, closes_tag, front_name, front_stops, front_related}
use Rattle.syntax.proofs.Stopping.{passed_on}
use Rattle.syntax.proofs.declarations.collection.Goals.{then-eq, else-eq}
use Rattle.syntax.proofs.declarations.collection.Goals as goal

pub returns-in_err-name-clause-stops : goal.returns-in_err-name-clause-stops
returns-in_err-name-clause-stops c =
    passed_on c.from_residual.result c.in_err-name.field-0.0 _ c.from_residual.ensures.1
    (λ kind closes items tags room. front_stops kind items tags (left c.args.cursor.now) (left c.name.new.self) c.in_err-name.field-0.0 c.in_err-name.ensures.stops)

pub returns-in_default-clause-reads : goal.returns-in_default-clause-reads
returns-in_default-clause-reads c = λ kind closes items tags room.
    let name = c.in_ok-name.name in
    let before = left c.args.cursor.now in
    let middle = left c.name.new.self in
    let late = left c.behind_name.new.cursor in
    let closed = rw c.in_default.is at (c.in_ok-components.ensures.reads kind items tags closes room) in elim c.if-eq.branch [
      | then-eq w ↦
          let is : kind ≡ item = closes_item kind c.args.close closes (search rules) in
          let ok : w.behind_item.result ≡ Ok c.in_ok-relation.relation = sym w.branch'-is ∙ c.in_ok-relation.was in
          rw (w.cursor-is, is) (front_related item items tags name (sign_at c.args.place sign.OpenBracket) (name_limits (named_of name)) c.in_ok-relation.relation before middle late _ c.in_ok-name.ensures.reads (rw is at closed) (rw ok at w.behind_item.ensures.reads) c.in_ok-name.ensures.within)
      | else-eq w ↦
          let is : kind ≡ tag = closes_tag kind c.args.close closes (search rules) in
          let ok : w.behind_tag.result ≡ Ok c.in_ok-relation.relation = sym w.branch'-is ∙ c.in_ok-relation.was in
          rw (w.cursor-is, is) (front_related tag items tags name (a_sign sign.Less) (name_limits (named_of name)) c.in_ok-relation.relation before middle late _ c.in_ok-name.ensures.reads (rw is at closed) (rw ok at w.behind_tag.ensures.reads) c.in_ok-name.ensures.within)
    ]

pub returns-then-eq-2-clause-reads : goal.returns-then-eq-2-clause-reads
returns-then-eq-2-clause-reads c = λ kind closes items tags room.
    let name = c.in_ok-name.name in
    let is : kind ≡ item = closes_item kind c.args.close closes (search rules) in
    let rest = rw (c.in-Some.is, is) at (c.in_ok-components.ensures.reads kind items tags closes room) in
    rw is (record {
      declaration = item_declared (named_of name) rest.components;
      rest = _;
      spelled = refl;
      reads = reads_on [] (front_name item items tags name (left c.args.cursor.now) (left c.name.new.self) c.in_ok-name.ensures.reads) rest.reads;
      is = ((refl, refl), rest.counted.counted);
      within = λ more. rw (rest.room, c.in_ok-name.ensures.within, rest.counted.within) refl;
    })

pub returns-else-eq-2-clause-reads : goal.returns-else-eq-2-clause-reads
returns-else-eq-2-clause-reads c = λ kind closes items tags room.
    let name = c.in_ok-name.name in
    let is : kind ≡ tag = closes_tag kind c.args.close closes (search rules) in
    let rest = rw (c.in-Some.is, is) at (c.in_ok-components.ensures.reads kind items tags closes room) in
    rw is (record {
      declaration = tag_declared (named_of name) rest.components;
      rest = _;
      spelled = refl;
      reads = reads_on [] (front_name tag items tags name (left c.args.cursor.now) (left c.name.new.self) c.in_ok-name.ensures.reads) rest.reads;
      is = ((refl, refl), rest.counted.counted);
      within = λ more. rw (rest.room, c.in_ok-name.ensures.within, rest.counted.within) refl;
    })
