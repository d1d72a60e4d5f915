use Rattle.std.proofs.Common.{◌≡◌, ◌+◌, ◌-◌, ◌<◌, ◌≤◌, ◌∙◌, ap, subst, sym, suc, set, [], ◌∷◌, length, List, arith, length-append}
use Rattle.std.specs.List.{AllByRecursion}
use Rattle.std.specs.List.{insert as add}
use Rattle.std.specs.Vec.{vec_capacity}
use Rattle.std.specs.FinMap.{put}
use Rattle.std.proofs.lemmas.List.{length-map}
use Rattle.terms.specs.Key.{key_cmp}
use Rattle.maps.specs.Marks.{IsPage, Marks, entries_in, entry_of, seen_pages}
use Rattle.maps.specs.Paged.{Entry, GoesInto, all_of}
use Rattle.maps.specs.PagesKept.{AreKept}
use Rattle.maps.specs.declared.page.TheConstants.{HALF}
use Rattle.maps.proofs.Entered.{all_front, all_rear, as_many, room_left}
use Rattle.maps.proofs.Growing.{all_of_divided, kept_divided, some_spare}
use Rattle.maps.proofs.Taken.{held_halves, page_grown, parts_now, seen_halves}
use Rattle.maps.proofs.pages.Pages.add_to_full_page.Goals as goal

pub divide-requires-clause-page : goal.divide-requires-clause-page
divide-requires-clause-page g c =
    let said = g.V.Stored.said in
    let most = g.V.Stored.MOST in
    let words = c.self.inside.words.items in
    let raw = c.self.inside.pages.items in
    let within : c.args.page < length raw = omega (arith, c.requires.goes.page_within, ap (λ s. length s.pages) c.self.view_is, as_many said most words raw) in
    subst (λ ws. IsPage said most ws c.index_mut.result.now) (sym c.deref.ensures.value)
    (page_grown said most words c.spell-mark.new.words.items c.spell-mark.ensures.added.0 c.spell-mark.ensures.added.1 raw c.self.invariant.1.each c.args.page c.index_mut.result.now within c.index_mut.ensures.value)

pub divide-requires-clause-empty : goal.divide-requires-clause-empty
divide-requires-clause-empty g c =
    let spare = subst (AllByRecursion (λ (page : Marks). page ≡ ([], []))) c.in-Some.ensures.items c.self.invariant.0.empty in
    ap (λ p. p.1) (all_rear (λ (page : Marks). page ≡ ([], [])) c.pop.new.self.items (c.in-Some.spare ∷ []) spare).0

pub invariant_of-self : goal.invariant_of-self
invariant_of-self g c =
    let said = g.V.Stored.said in
    let most = g.V.Stored.MOST in
    let words = c.self.inside.words.items in
    let now = c.spell-mark.new.words.items in
    let more = c.spell-mark.ensures.added.0 in
    let grown = c.spell-mark.ensures.added.1 in
    let raw = c.self.inside.pages.items in
    let held = c.self.invariant.1 in
    let goes = subst (λ (ps : List (List (Entry g.row.V.Denot))). GoesInto ps c.args.key c.args.page c.args.place) (sym (ap (λ s. s.pages) c.self.view_is)) c.requires.goes in
    let within : c.args.page < length raw = omega (arith, goes.page_within, as_many said most words raw) in
    let some : 0 < c.self.inside.room = omega (arith, c.requires.room, ap (λ s. s.room) c.self.view_is) in
    let spare = subst (AllByRecursion (λ (page : Marks). page ≡ ([], []))) c.in-Some.ensures.items c.self.invariant.0.empty in
    let lower = c.divide.new.self in
    let upper = c.divide.new.upper in
    let parts = parts_now said most words now more grown raw held.each c.args.page c.index_mut.result.now within c.index_mut.ensures.value c.args.place c.spell-mark.result c.args.key c.args.value c.spell-mark.ensures.entry c.spell-mark.ensures.within lower upper c.divide.ensures.all in
    let next : c.args.page + 1 ≡ suc c.args.page = omega arith in
    let new = c.insert_page.ensures.pages ∙ ap (λ n. add (set raw c.args.page lower) n upper) next in
    let seen = ap (seen_pages said now) new ∙ seen_halves said most words now more grown raw held.each c.args.page c.index_mut.result.now within c.index_mut.ensures.value (suc c.args.page) lower upper in
    let low : HALF ≤ length (entries_in said now lower) = omega (arith, c.divide.ensures.lower.1, length-map lower.1 (entry_of said now)) in
    let high : HALF ≤ length (entries_in said now upper) = omega (arith, c.divide.ensures.upper.1, length-map upper.1 (entry_of said now)) in
    let one = subst (λ ws. IsPage said most ws lower) c.deref.ensures.value c.divide.ensures.lower.0 in
    let two = subst (λ ws. IsPage said most ws upper) c.deref.ensures.value c.divide.ensures.upper.0 in
    let left = room_left most (length words) (length now) (vec_capacity c.self.inside.words) (vec_capacity c.spell-mark.new.words) c.self.inside.room held.enough held.few (omega (arith, ap length grown, length-append words more, c.spell-mark.ensures.added.2)) c.spell-mark.ensures.room some in (
      subst (λ ps. AreKept ps c.pop.new.self.items (vec_capacity c.insert_page.new.pages) (c.self.inside.count + 1) (c.self.inside.room - 1)) (sym seen)
          (kept_divided (seen_pages said words raw) c.self.inside.spare.items (vec_capacity c.self.inside.pages) c.self.inside.count c.self.inside.room c.self.invariant.0 c.args.key c.args.value c.args.page c.args.place goes
          (entries_in said now lower) (entries_in said now upper) c.pop.new.self.items (vec_capacity c.insert_page.new.pages) parts low high (all_front (λ (page : Marks). page ≡ ([], [])) c.pop.new.self.items (c.in-Some.spare ∷ []) spare)
          (omega (arith, c.in-Some.ensures.len, c.pop.new.self.ok.0, c.self.inside.spare.ok.0)) (omega (arith, c.insert_page.ensures.places)) some),
      record {
        each = subst (AllByRecursion (IsPage said most now)) (sym new) (held_halves said most words now more grown raw held.each c.args.page c.index_mut.result.now within c.index_mut.ensures.value (suc c.args.page) lower upper one two);
        enough = left.0;
        few = left.1;
      },
    )

pub returns-in-Some-clause-entries : goal.returns-in-Some-clause-entries
returns-in-Some-clause-entries g c =
    let said = g.V.Stored.said in
    let most = g.V.Stored.MOST in
    let words = c.self.inside.words.items in
    let now = c.spell-mark.new.words.items in
    let more = c.spell-mark.ensures.added.0 in
    let grown = c.spell-mark.ensures.added.1 in
    let raw = c.self.inside.pages.items in
    let held = c.self.invariant.1 in
    let goes = subst (λ (ps : List (List (Entry g.row.V.Denot))). GoesInto ps c.args.key c.args.page c.args.place) (sym (ap (λ s. s.pages) c.self.view_is)) c.requires.goes in
    let within : c.args.page < length raw = omega (arith, goes.page_within, as_many said most words raw) in
    let lower = c.divide.new.self in
    let upper = c.divide.new.upper in
    let parts = parts_now said most words now more grown raw held.each c.args.page c.index_mut.result.now within c.index_mut.ensures.value c.args.place c.spell-mark.result c.args.key c.args.value c.spell-mark.ensures.entry c.spell-mark.ensures.within lower upper c.divide.ensures.all in
    let next : c.args.page + 1 ≡ suc c.args.page = omega arith in
    let new = c.insert_page.ensures.pages ∙ ap (λ n. add (set raw c.args.page lower) n upper) next in
    let seen = ap (seen_pages said now) new ∙ seen_halves said most words now more grown raw held.each c.args.page c.index_mut.result.now within c.index_mut.ensures.value (suc c.args.page) lower upper in
    ap all_of seen
    ∙ all_of_divided (seen_pages said words raw) c.self.inside.spare.items (vec_capacity c.self.inside.pages) c.self.inside.count c.self.inside.room c.self.invariant.0 c.args.key c.args.value c.args.page c.args.place goes (entries_in said now lower) (entries_in said now upper) parts
    ∙ ap (λ s. put key_cmp c.args.key c.args.value (all_of s.pages)) c.self.view_is

pub returns-in_default-clause-entries : goal.returns-in_default-clause-entries
returns-in_default-clause-entries g c =
    let some : 0 < c.self.inside.room = omega (arith, c.requires.room, ap (λ s. s.room) c.self.view_is) in
    absurd (omega (arith, some_spare (seen_pages g.V.Stored.said c.self.inside.words.items c.self.inside.pages.items) c.self.inside.spare.items _ c.self.inside.count c.self.inside.room c.self.invariant.0 some, c.in_default.ensures.len, c.in_default.ensures.cases, c.self.inside.spare.ok.0))

pub returns-in_default-clause-room : goal.returns-in_default-clause-room
returns-in_default-clause-room g c =
    let some : 0 < c.self.inside.room = omega (arith, c.requires.room, ap (λ s. s.room) c.self.view_is) in
    absurd (omega (arith, some_spare (seen_pages g.V.Stored.said c.self.inside.words.items c.self.inside.pages.items) c.self.inside.spare.items _ c.self.inside.count c.self.inside.room c.self.invariant.0 some, c.in_default.ensures.len, c.in_default.ensures.cases, c.self.inside.spare.ok.0))
