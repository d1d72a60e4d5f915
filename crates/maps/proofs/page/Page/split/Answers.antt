use Rattle.std.proofs.Common.{◌≡◌, ◌++◌, ◌-◌, ◌≤◌, ◌∙◌, ap, subst, sym, drop, take, length, [], arith, take_all}
use Rattle.std.specs.Prelude.{if◌then◌else◌}
use Rattle.std.specs.List.{AllByRecursion}
use Rattle.std.proofs.lemmas.List.{length-drop, length-take-le, take-append-drop}
use Rattle.maps.specs.Marks.{IsPage, IsWithin, entry_of}
use Rattle.maps.proofs.Entered.{all_front, all_rear, first_front, first_rear_by}
use Rattle.maps.proofs.page.Page.split.Goals as goal

pub returns-clause-all : goal.returns-clause-all
returns-clause-all g c =
    let old = c.self.inside.marks.items in
    let all : c.deref.result.now ≡ old = c.deref.ensures.value in
    let here : old ≡ c.args.self.now.1 = ap (λ p. p.1) c.self.view_is in
    let empty : c.upper.inside.marks.items ≡ [] = ap (λ p. p.1) c.upper.view_is ∙ c.requires.empty in
    let whole : take (length c.deref.result.now - 32) (drop 32 c.deref.result.now) ≡ drop 32 c.deref.result.now = take_all (length c.deref.result.now - 32) (drop 32 c.deref.result.now) (omega (arith, length-drop 32 c.deref.result.now)) in
    let rest : length (take (length c.deref.result.now - 32) (drop 32 c.deref.result.now)) ≤ 32 = omega (arith, ap length whole, length-drop 32 c.deref.result.now, ap length (all ∙ here), c.requires.full) in
    let ok = c.extend_from_slice-copied.ensures.succeeds (omega (arith, rest, ap length empty, c.upper.inside.marks.ok.0, c.upper.invariant.1)) in
    let upper : c.extend_from_slice-copied.new.self.items ≡ drop 32 old =
    c.extend_from_slice-copied.ensures.items
    ∙ ap (λ b. if b then c.upper.inside.marks.items ++ take (length c.deref.result.now - 32) (drop 32 c.deref.result.now) else c.upper.inside.marks.items) ok
    ∙ ap (λ es. es ++ take (length c.deref.result.now - 32) (drop 32 c.deref.result.now)) empty
    ∙ whole ∙ ap (drop 32) all in
    (λ i. c.truncate.ensures.items i ++ upper i) ∙ take-append-drop 32 old ∙ here

pub returns-clause-lower : goal.returns-clause-lower
returns-clause-lower g c =
    let f = entry_of g.V.Stored.said c.args.words.now in
    let now = c.args.self.now.1 in
    let here : c.self.inside.marks.items ≡ now = ap (λ p. p.1) c.self.view_is in
    let lower : c.truncate.new.self.items ≡ take 32 now = c.truncate.ensures.items ∙ ap (take 32) here in
    let whole = subst (AllByRecursion (IsWithin g.V.Stored.MOST c.args.words.now)) (sym (take-append-drop 32 now)) c.requires.page.within in (
      subst (λ ms. IsPage g.V.Stored.said g.V.Stored.MOST c.args.words.now (c.self.inside.first, ms)) (sym lower)
          (record { within = all_front (IsWithin g.V.Stored.MOST c.args.words.now) (take 32 now) (drop 32 now) whole; first = ap (λ p. p.0) c.self.view_is ∙ c.requires.page.first ∙ sym (first_front f 32 now (omega arith)) }),
      ap length lower ∙ length-take-le 32 now (omega (arith, c.requires.full)),
    )

pub returns-clause-upper : goal.returns-clause-upper
returns-clause-upper g c =
    let f = entry_of g.V.Stored.said c.args.words.now in
    let now = c.args.self.now.1 in
    let old = c.self.inside.marks.items in
    let all : c.deref.result.now ≡ old = c.deref.ensures.value in
    let here : old ≡ now = ap (λ p. p.1) c.self.view_is in
    let empty : c.upper.inside.marks.items ≡ [] = ap (λ p. p.1) c.upper.view_is ∙ c.requires.empty in
    let whole : take (length c.deref.result.now - 32) (drop 32 c.deref.result.now) ≡ drop 32 c.deref.result.now = take_all (length c.deref.result.now - 32) (drop 32 c.deref.result.now) (omega (arith, length-drop 32 c.deref.result.now)) in
    let rest : length (take (length c.deref.result.now - 32) (drop 32 c.deref.result.now)) ≤ 32 = omega (arith, ap length whole, length-drop 32 c.deref.result.now, ap length (all ∙ here), c.requires.full) in
    let ok = c.extend_from_slice-copied.ensures.succeeds (omega (arith, rest, ap length empty, c.upper.inside.marks.ok.0, c.upper.invariant.1)) in
    let upper : c.extend_from_slice-copied.new.self.items ≡ drop 32 now =
    c.extend_from_slice-copied.ensures.items
    ∙ ap (λ b. if b then c.upper.inside.marks.items ++ take (length c.deref.result.now - 32) (drop 32 c.deref.result.now) else c.upper.inside.marks.items) ok
    ∙ ap (λ es. es ++ take (length c.deref.result.now - 32) (drop 32 c.deref.result.now)) empty
    ∙ whole ∙ ap (drop 32) (all ∙ here) in
    let both = subst (AllByRecursion (IsWithin g.V.Stored.MOST c.args.words.now)) (sym (take-append-drop 32 now)) c.requires.page.within in (
      subst (λ ms. IsPage g.V.Stored.said g.V.Stored.MOST c.args.words.now (c.key-upper-inside.result, ms)) (sym upper)
          (record { within = all_rear (IsWithin g.V.Stored.MOST c.args.words.now) (take 32 now) (drop 32 now) both; first = first_rear_by f 32 now c.key-upper-inside.result (omega (arith, c.requires.full)) c.key-upper-inside.ensures }),
      ap length upper ∙ length-drop 32 now ∙ ap (λ n. n - 32) c.requires.full,
    )
