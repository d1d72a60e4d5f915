use Rattle.std.proofs.Common.{◌≡◌, ◌<◌, ◌++◌, ◌∷◌, [], true, false, length, refl, sym, subst, rules}
use Rattle.syntax.specs.Parsed.{left}
use Rattle.syntax.specs.StepNames.{ListSoFar, IsListRead}
use Rattle.syntax.proofs.StepParts.{name_listed, next_listed, last_listed, full_list, name_stops_at, sign_stops_at}
use Rattle.syntax.proofs.Stopping.{passed_on}
use Rattle.syntax.proofs.step_names.listed.Goals as goal

pub loop-names-init : goal.loop-names-init
loop-names-init c =
    let start = left c.args.cursor.now in (
      λ list. subst (λ items. ListSoFar c.args.most c.args.close start start items list) (sym c.new-names.ensures.items)
          (record { read = []; goes = λ behind. refl; spells = λ next after spells. spells; are = tt; within = refl }),
      search rules,
      search rules,
    )

pub returns-in_err-name-clause-stops : goal.returns-in_err-name-clause-stops
returns-in_err-name-clause-stops c =
    let so_far = c.loop-names in
    passed_on c.from_residual.result c.in_err-name.field-0.0 _ c.from_residual.ensures.1
    (λ list. name_stops_at list _ so_far.names.items _ c.in_err-name.field-0.0 (so_far.invariant.0 list)
    (full_list list (length so_far.names.items) _ so_far.invariant.1 (λ full. search rules) (λ full. search rules)) c.in_err-name.ensures.stops)

pub returns-in_err-goes_on-clause-stops : goal.returns-in_err-goes_on-clause-stops
returns-in_err-goes_on-clause-stops c =
    let so_far = c.loop-names in
    let room : length so_far.names.items < c.args.most = search rules in
    let name = c.in_ok-name in
    passed_on c.from_residual-in_err-goes_on.result c.in_err-goes_on.field-0.0 _ c.from_residual-in_err-goes_on.ensures.1
    (λ list. sign_stops_at list _ (so_far.names.items ++ name.name ∷ []) c.in_err-goes_on.field-0.0
    (name_listed list so_far.names.items name.name (so_far.invariant.0 list) room (rw name.ensures.room at name.ensures.reads) name.ensures.within) c.in_err-goes_on.ensures.stops)

pub returns-then-not-branch-clause-reads : goal.returns-then-not-branch-clause-reads
returns-then-not-branch-clause-reads c =
    let so_far = c.loop-names in
    let room : length so_far.names.items < c.args.most = search rules in
    let name = c.in_ok-name in
    let pushed : c.push_reserved.new.self.items ≡ so_far.names.items ++ name.name ∷ [] = search rules in
    let none : c.in_ok-goes_on.field-0 ≡ false = search rules in λ list.
    subst (λ items. IsListRead c.args.most c.args.close items (left c.args.cursor.now) (left c.goes_on.new.cursor) list) (sym pushed)
    (last_listed list (so_far.names.items ++ name.name ∷ [])
    (name_listed list so_far.names.items name.name (so_far.invariant.0 list) room (rw name.ensures.room at name.ensures.reads) name.ensures.within)
    (rw none at c.in_ok-goes_on.ensures.reads))

pub loop-names-preserved : goal.loop-names-preserved
loop-names-preserved c =
    let so_far = c.loop-names in
    let room : length so_far.names.items < c.args.most = search rules in
    let name = c.in_ok-name in
    let pushed : c.push_reserved.new.self.items ≡ so_far.names.items ++ name.name ∷ [] = search rules in
    let some : c.in_ok-goes_on.field-0 ≡ true = search rules in (
      λ list. subst (λ items. ListSoFar c.args.most c.args.close (left c.args.cursor.now) (left c.goes_on.new.cursor) items list) (sym pushed)
          (next_listed list (so_far.names.items ++ name.name ∷ [])
          (name_listed list so_far.names.items name.name (so_far.invariant.0 list) room (rw name.ensures.room at name.ensures.reads) name.ensures.within)
          (rw some at c.in_ok-goes_on.ensures.reads)),
      search rules,
      search rules,
    )
