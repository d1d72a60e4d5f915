use Rattle.std.proofs.Common.{◌≡◌, ◌+◌, ◌-◌, ◌<◌, ◌∙◌, ap, subst, sym, [], ◌∷◌, length, List, arith, length-append}
use Rattle.std.specs.List.{AllByRecursion}
use Rattle.std.specs.List.{insert as add}
use Rattle.std.specs.FinMap.{put}
use Rattle.std.specs.Vec.{vec_capacity}
use Rattle.terms.specs.Key.{key_cmp}
use Rattle.maps.specs.Marks.{IsPage, Marks, first_after, seen_pages}
use Rattle.maps.specs.Paged.{Entry, GoesBehind, all_of}
use Rattle.maps.specs.PagesKept.{AreKept}
use Rattle.maps.proofs.Entered.{all_front, all_rear, no_page, page_with, room_left}
use Rattle.maps.proofs.Growing.{kept_behind, some_spare}
use Rattle.maps.proofs.Taken.{held_with, seen_with}
use Rattle.maps.proofs.pages.Pages.add_behind.Goals as goal

pub invariant_of-self : goal.invariant_of-self
invariant_of-self g c =
    let said = g.V.Stored.said in
    let most = g.V.Stored.MOST in
    let words = c.self.inside.words.items in
    let now = c.spell-mark.new.words.items in
    let more = c.spell-mark.ensures.added.0 in
    let grown = c.spell-mark.ensures.added.1 in
    let raw = c.self.inside.pages.items in
    let held = c.self.invariant.1 in
    let goes = subst (λ (ps : List (List (Entry g.row.V.Denot))). GoesBehind ps c.args.key) (sym (ap (λ s. s.pages) c.self.view_is)) c.requires.goes in
    let some : 0 < c.self.inside.room = omega (arith, c.requires.room, ap (λ s. s.room) c.self.view_is) in
    let spare = subst (AllByRecursion (λ (page : Marks). page ≡ ([], []))) c.in-Some.ensures.items c.self.invariant.0.empty in
    let empty = (all_rear (λ (page : Marks). page ≡ ([], [])) c.pop.new.self.items (c.in-Some.spare ∷ []) spare).0 in
    let new_is : c.insert.new.self ≡ (c.args.key, c.spell-mark.result ∷ []) = c.insert.ensures ∙ ap (λ (p : Marks). (first_after 0 c.args.key p.0, add p.1 0 c.spell-mark.result)) empty in
    let page = subst (IsPage said most now) (sym new_is) (page_with said most now ([], []) 0 c.spell-mark.result c.args.key (omega arith) (no_page said most now) c.spell-mark.ensures.within (ap (λ e. e.0) c.spell-mark.ensures.entry)) in
    let seen = ap (seen_pages said now) c.push_reserved.ensures.items ∙ seen_with said most words now more grown raw held.each c.insert.new.self c.spell-mark.result c.args.key c.args.value (ap (λ p. p.1) new_is) c.spell-mark.ensures.entry in
    let left = room_left most (length words) (length now) (vec_capacity c.self.inside.words) (vec_capacity c.spell-mark.new.words) c.self.inside.room held.enough held.few (omega (arith, ap length grown, length-append words more, c.spell-mark.ensures.added.2)) c.spell-mark.ensures.room some in (
      subst (λ ps. AreKept ps c.pop.new.self.items (vec_capacity c.push_reserved.new.self) (c.self.inside.count + 1) (c.self.inside.room - 1)) (sym seen)
          (kept_behind (seen_pages said words raw) c.self.inside.spare.items (vec_capacity c.self.inside.pages) c.self.inside.count c.self.inside.room c.self.invariant.0 c.args.key c.args.value c.pop.new.self.items (vec_capacity c.push_reserved.new.self) goes
          (all_front (λ (page : Marks). page ≡ ([], [])) c.pop.new.self.items (c.in-Some.spare ∷ []) spare)
          (omega (arith, c.in-Some.ensures.len, c.pop.new.self.ok.0, c.self.inside.spare.ok.0)) (omega (arith, c.push_reserved.ensures.capacity)) some),
      record { each = subst (AllByRecursion (IsPage said most now)) (sym c.push_reserved.ensures.items) (held_with said most words now more grown raw held.each c.insert.new.self page); enough = left.0; few = left.1 },
    )

pub returns-in-Some-clause-entries : goal.returns-in-Some-clause-entries
returns-in-Some-clause-entries g c =
    let said = g.V.Stored.said in
    let most = g.V.Stored.MOST in
    let words = c.self.inside.words.items in
    let now = c.spell-mark.new.words.items in
    let more = c.spell-mark.ensures.added.0 in
    let grown = c.spell-mark.ensures.added.1 in
    let raw = c.self.inside.pages.items in
    let held = c.self.invariant.1 in
    let goes = subst (λ (ps : List (List (Entry g.row.V.Denot))). GoesBehind ps c.args.key) (sym (ap (λ s. s.pages) c.self.view_is)) c.requires.goes in
    let spare = subst (AllByRecursion (λ (page : Marks). page ≡ ([], []))) c.in-Some.ensures.items c.self.invariant.0.empty in
    let empty = (all_rear (λ (page : Marks). page ≡ ([], [])) c.pop.new.self.items (c.in-Some.spare ∷ []) spare).0 in
    let new_is : c.insert.new.self ≡ (c.args.key, c.spell-mark.result ∷ []) = c.insert.ensures ∙ ap (λ (p : Marks). (first_after 0 c.args.key p.0, add p.1 0 c.spell-mark.result)) empty in
    let seen = ap (seen_pages said now) c.push_reserved.ensures.items ∙ seen_with said most words now more grown raw held.each c.insert.new.self c.spell-mark.result c.args.key c.args.value (ap (λ p. p.1) new_is) c.spell-mark.ensures.entry in
    ap all_of seen ∙ sym (goes.goes c.args.value) ∙ ap (λ s. put key_cmp c.args.key c.args.value (all_of s.pages)) c.self.view_is

pub returns-in_default-clause-entries : goal.returns-in_default-clause-entries
returns-in_default-clause-entries g c =
    let some : 0 < c.self.inside.room = omega (arith, c.requires.room, ap (λ s. s.room) c.self.view_is) in
    absurd (omega (arith, some_spare (seen_pages g.V.Stored.said c.self.inside.words.items c.self.inside.pages.items) c.self.inside.spare.items _ c.self.inside.count c.self.inside.room c.self.invariant.0 some, c.in_default.ensures.len, c.in_default.ensures.cases, c.self.inside.spare.ok.0))

pub returns-in_default-clause-room : goal.returns-in_default-clause-room
returns-in_default-clause-room g c =
    let some : 0 < c.self.inside.room = omega (arith, c.requires.room, ap (λ s. s.room) c.self.view_is) in
    absurd (omega (arith, some_spare (seen_pages g.V.Stored.said c.self.inside.words.items c.self.inside.pages.items) c.self.inside.spare.items _ c.self.inside.count c.self.inside.room c.self.invariant.0 some, c.in_default.ensures.len, c.in_default.ensures.cases, c.self.inside.spare.ok.0))
