use Rattle.std.proofs.Common.{◌+◌, ◌-◌, ◌<◌, ◌∙◌, ap, subst, sym, set, length, List, arith, length-append}
use Rattle.std.specs.FinMap.{put}
use Rattle.std.specs.Vec.{vec_capacity}
use Rattle.terms.specs.Key.{key_cmp}
use Rattle.maps.specs.Marks.{entries_in, seen_pages}
use Rattle.maps.specs.Paged.{Entry, GoesInto, all_of}
use Rattle.maps.specs.PagesKept.{AreKept}
use Rattle.maps.proofs.Entered.{as_many, room_left}
use Rattle.maps.proofs.Growing.{kept_in_page}
use Rattle.maps.proofs.Taken.{entries_now, held_now, page_now, seen_now}
use Rattle.maps.proofs.pages.Pages.add_to_page.Goals as goal

pub invariant_of-self : goal.invariant_of-self
invariant_of-self g c =
    let said = g.V.Stored.said in
    let most = g.V.Stored.MOST in
    let words = c.self.inside.words.items in
    let now = c.spell-mark.new.words.items in
    let more = c.spell-mark.ensures.added.0 in
    let grown = c.spell-mark.ensures.added.1 in
    let raw = c.self.inside.pages.items in
    let held = c.self.invariant.1 in
    let goes = subst (λ (ps : List (List (Entry g.row.V.Denot))). GoesInto ps c.args.key c.args.page c.args.place) (sym (ap (λ s. s.pages) c.self.view_is)) c.requires.goes in
    let within : c.args.page < length raw = omega (arith, goes.page_within, as_many said most words raw) in
    let some : 0 < c.self.inside.room = omega (arith, c.requires.room, ap (λ s. s.room) c.self.view_is) in
    let new = c.insert.new.self in
    let seen = seen_now said most words now more grown raw held.each c.args.page c.index_mut.result.now within c.index_mut.ensures.value new in
    let here = entries_now said most words now more grown raw held.each c.args.page c.index_mut.result.now within c.index_mut.ensures.value c.args.place c.spell-mark.result c.args.key c.args.value c.spell-mark.ensures.entry c.spell-mark.ensures.within new c.insert.ensures in
    let page = page_now said most words now more grown raw held.each c.args.page c.index_mut.result.now within c.index_mut.ensures.value c.args.place c.spell-mark.result c.args.key c.args.value c.spell-mark.ensures.entry c.spell-mark.ensures.within new c.insert.ensures goes.place_within in
    let left = room_left most (length words) (length now) (vec_capacity c.self.inside.words) (vec_capacity c.spell-mark.new.words) c.self.inside.room held.enough held.few (omega (arith, ap length grown, length-append words more, c.spell-mark.ensures.added.2)) c.spell-mark.ensures.room some in (
      subst (λ ps. AreKept ps c.self.inside.spare.items (vec_capacity c.self.inside.pages) (c.self.inside.count + 1) (c.self.inside.room - 1)) (sym seen)
          (kept_in_page (seen_pages said words raw) c.self.inside.spare.items _ c.self.inside.count c.self.inside.room c.self.invariant.0 c.args.key c.args.value c.args.page c.args.place goes (entries_in said now new) here some),
      record { each = held_now said most words now more grown raw held.each c.args.page c.index_mut.result.now within c.index_mut.ensures.value new page; enough = left.0; few = left.1 },
    )

pub returns-clause-entries : goal.returns-clause-entries
returns-clause-entries g c =
    let said = g.V.Stored.said in
    let most = g.V.Stored.MOST in
    let words = c.self.inside.words.items in
    let now = c.spell-mark.new.words.items in
    let more = c.spell-mark.ensures.added.0 in
    let grown = c.spell-mark.ensures.added.1 in
    let raw = c.self.inside.pages.items in
    let held = c.self.invariant.1 in
    let goes = subst (λ (ps : List (List (Entry g.row.V.Denot))). GoesInto ps c.args.key c.args.page c.args.place) (sym (ap (λ s. s.pages) c.self.view_is)) c.requires.goes in
    let within : c.args.page < length raw = omega (arith, goes.page_within, as_many said most words raw) in
    let new = c.insert.new.self in
    let seen = seen_now said most words now more grown raw held.each c.args.page c.index_mut.result.now within c.index_mut.ensures.value new in
    let here = entries_now said most words now more grown raw held.each c.args.page c.index_mut.result.now within c.index_mut.ensures.value c.args.place c.spell-mark.result c.args.key c.args.value c.spell-mark.ensures.entry c.spell-mark.ensures.within new c.insert.ensures in
    ap all_of seen ∙ ap (λ es. all_of (set (seen_pages said words raw) c.args.page es)) here ∙ sym (goes.goes c.args.value) ∙ ap (λ s. put key_cmp c.args.key c.args.value (all_of s.pages)) c.self.view_is
