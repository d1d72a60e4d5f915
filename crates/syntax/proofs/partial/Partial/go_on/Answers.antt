use Rattle.std.proofs.Common.{◌≡◌, refl, sym, ap, subst, ◌∙◌, rules}
use Rattle.syntax.specs.declared.joints.Joint.TheVariants as joined
use Rattle.syntax.specs.Grammar.{bracketed}
use Rattle.syntax.specs.Expected.{joint, look_behind, awaiting_product, awaiting_sum, awaiting_comparison, closed, without_product, product_behind, level_expr}
use Rattle.syntax.specs.Parsed.{left}
use Rattle.syntax.specs.Front.{front_of}
use Rattle.syntax.specs.Joints.{IsJoint}
use Rattle.syntax.proofs.Heads.{joins_product, joins_sum, joins_comparison, is_close, is_end}
use Rattle.syntax.proofs.Forward.{onward_product, onward_sum, onward_comparison, onward_close}
use Rattle.syntax.proofs.Broken.{no_comparison, may_compare, none_to_close}
use Rattle.syntax.proofs.Partials.{popped, none_open, still}
use Rattle.syntax.proofs.partial.Partial.go_on.Goals.{in-Product, in-Sum+in_ok-await_sum-in-Sum, in-Comparison+else-not-self+in_ok-await_comparison-in-Comparison}
use Rattle.syntax.proofs.partial.Partial.go_on.Goals as goal

pub returns-clause-goes_on : goal.returns-clause-goes_on
returns-clause-goes_on c = λ state prod is nothing holds.
    let before = left c.args.cursor.now in elim c.match-of.branch [
      | in-Product w ↦
          let operator = w.in-Product.operator in
          let joins = joins_product (front_of before).0 operator (subst (λ it. IsJoint (joint it) (joined.Product operator)) c.front.ensures w.in-Product.ensures) in
          rw w.self-is (
            awaiting_product state prod joins.how,
            w.await_product.ensures state prod joins.how is holds joins.operates,
            onward_product before _ (front_of before).1 refl c.advance-2.ensures state prod joins.it joins.how nothing.0 nothing.1 joins.is joins.joins joins.signed,
          )
      | in-Sum+in_ok-await_sum-in-Sum w ↦
          let operator = w.in-Sum.operator in
          let joins = joins_sum (front_of before).0 operator (subst (λ it. IsJoint (joint it) (joined.Sum operator)) c.front.ensures w.in-Sum.ensures) in
          rw w.self-is (
            awaiting_sum state prod joins.how,
            w.in_ok-await_sum-in-Sum.ensures state prod joins.how is holds joins.operates,
            onward_sum before _ (front_of before).1 refl c.advance-2.ensures state prod joins.it joins.how nothing.0 nothing.1 joins.is joins.joins joins.signed,
          )
      | in-Comparison+else-not-self+in_ok-await_comparison-in-Comparison w ↦
          let operator = w.in-Comparison.operator in
          let joins = joins_comparison (front_of before).0 operator (subst (λ it. IsJoint (joint it) (joined.Comparison operator)) c.front.ensures w.in-Comparison.ensures) in
          let may = may_compare state.level.comparing (sym is.level.may_compare ∙ (search rules)) in
          rw w.self-is (
            awaiting_comparison state prod joins.how,
            w.in_ok-await_comparison-in-Comparison.ensures state prod joins.how is holds joins.operates,
            onward_comparison before _ (front_of before).1 refl c.advance-2.ensures state prod joins.it joins.how may nothing.0 nothing.1 joins.is joins.joins joins.signed,
          )
    ]

pub returns-in-Closes-clause-goes_on : goal.returns-in-Closes-clause-goes_on
returns-in-Closes-clause-goes_on c = λ state prod is nothing holds.
    let before = left c.args.cursor.now in
    let around = popped state c.args.self.now c.pop.new.self.items c.in-Some.around (search rules) is in
    let lexeme = is_close (front_of before).0 (subst (λ it. IsJoint (joint it) joined.Closes) c.front.ensures c.in-Closes.ensures) in
    let both = c.in_ok-product-in-Closes.ensures state prod around.level around.place around.outer
    (record { first = is.first; passed = is.passed; inner = is.level; outside = around.outside; others = around.others }) holds in (
      without_product (closed state around.level around.outer),
      product_behind (closed state around.level around.outer) (bracketed around.place (level_expr state.level prod)),
      both.0,
      (refl, refl),
      both.1,
      onward_close before _ (front_of before).1 refl c.advance.ensures state prod around.level around.place around.outer around.is nothing.0 nothing.1 lexeme,
    )

pub returns-then-not-self-clause-goes_on : goal.returns-then-not-self-clause-goes_on
returns-then-not-self-clause-goes_on c = λ state prod is nothing holds.
    let before = left c.args.cursor.now in
    let operator = c.in-Comparison.operator in
    let joins = joins_comparison (front_of before).0 operator (subst (λ it. IsJoint (joint it) (joined.Comparison operator)) c.front.ensures c.in-Comparison.ensures) in record {
      same = refl;
      is = is;
      holds = holds;
      looks = ap (λ lexeme. look_behind state prod (joint lexeme)) joins.is ∙ ap (look_behind state prod) joins.joins ∙ no_comparison state state.level.comparing prod joins.how (sym is.level.may_compare ∙ (search rules));
    }

pub returns-in-Ends-clause-goes_on : goal.returns-in-Ends-clause-goes_on
returns-in-Ends-clause-goes_on c = λ state prod is nothing holds.
    let before = left c.args.cursor.now in
    let none = is_end (joint (front_of before).0) (subst (λ it. IsJoint (joint it) joined.Ends) c.front.ensures c.in-Ends.ensures) in
    record { same = refl; is = is; holds = holds; looks = ap (look_behind state prod) none }

pub returns-in_default-clause-goes_on : goal.returns-in_default-clause-goes_on
returns-in_default-clause-goes_on c = λ state prod is nothing holds.
    let before = left c.args.cursor.now in
    let same : c.pop.new.self.items ≡ c.args.self.now.outer.items = search rules in
    let lexeme = is_close (front_of before).0 (subst (λ it. IsJoint (joint it) joined.Closes) c.front.ensures c.in-Closes.ensures) in
    let none = none_open state c.args.self.now is (search rules) in record {
      same = refl;
      is = still state c.args.self.now _ same is;
      holds = holds;
      looks = ap (λ lexeme. look_behind state prod (joint lexeme)) lexeme ∙ none_to_close state state.outer prod none;
    }
