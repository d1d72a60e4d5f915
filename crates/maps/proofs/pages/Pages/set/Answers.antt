use Rattle.std.proofs.Common.{◌≡◌, ◌∙◌, ◌<◌, ap, subst, sym, set, length, [], List, arith, length-append}
use Rattle.std.specs.FinMap.{put}
use Rattle.std.specs.Vec.{vec_capacity}
use Rattle.terms.specs.Key.{key_cmp}
use Rattle.maps.specs.Marks.{entries_in, seen_pages}
use Rattle.maps.specs.Paged.{Entry, IsInPage, all_of}
use Rattle.maps.specs.PagesKept.{AreKept}
use Rattle.maps.proofs.Entered.{as_many, no_words}
use Rattle.maps.proofs.Growing.{kept_rewritten}
use Rattle.maps.proofs.Taken.{entries_so, held_now, page_so, seen_now}
use Rattle.maps.proofs.pages.Pages.set.Goals as goal

pub invariant_of-self : goal.invariant_of-self
invariant_of-self g c =
    let said = g.V.Stored.said in
    let most = g.V.Stored.MOST in
    let words = c.self.inside.words.items in
    let now = c.write.new.out.items in
    let more = g.V.Stored.words_of c.args.value in
    let grown = c.write.ensures.written in
    let raw = c.self.inside.pages.items in
    let held = c.self.invariant.1 in
    let at = subst (λ (ps : List (List (Entry g.row.V.Denot))). IsInPage ps c.args.key c.args.page c.args.place) (sym (ap (λ s. s.pages) c.self.view_is)) c.requires.there in
    let within : c.args.page < length raw = omega (arith, at.page_within, as_many said most words raw) in
    let none : more ≡ [] = no_words more (omega (arith, c.write.ensures.few, c.requires.no_words)) in
    let says = ap (said c.brief.result) (sym none) ∙ ap (λ b. said b more) c.brief.ensures ∙ g.met.V.Stored.same c.args.value in
    let new = c.set.new.self in
    let seen = seen_now said most words now more grown raw held.each c.args.page c.index_mut.result.now within c.index_mut.ensures.value new in
    let here = entries_so said most words now more grown raw held.each c.args.page c.index_mut.result.now within c.index_mut.ensures.value c.args.place c.brief.result c.args.key c.args.value c.requires.no_words at.place_within at.key_there says new c.set.ensures in
    let page = page_so said most words now more grown raw held.each c.args.page c.index_mut.result.now within c.index_mut.ensures.value c.args.place c.brief.result c.args.key c.args.value c.requires.no_words at.place_within at.key_there says new c.set.ensures in
    let same : length now ≡ length words = ap length grown ∙ length-append words more ∙ omega (arith, ap length none) in (
      subst (λ ps. AreKept ps c.self.inside.spare.items (vec_capacity c.self.inside.pages) c.self.inside.count c.self.inside.room) (sym seen)
          (kept_rewritten (seen_pages said words raw) c.self.inside.spare.items _ c.self.inside.count c.self.inside.room c.self.invariant.0 c.args.key c.args.value c.args.page c.args.place (entries_in said now new) at here),
      record {
        each = held_now said most words now more grown raw held.each c.args.page c.index_mut.result.now within c.index_mut.ensures.value new page;
        enough = omega (arith, held.enough, same, c.write.ensures.room);
        few = omega (arith, held.few, same);
      },
    )

pub returns-clause-entries : goal.returns-clause-entries
returns-clause-entries g c =
    let said = g.V.Stored.said in
    let most = g.V.Stored.MOST in
    let words = c.self.inside.words.items in
    let now = c.write.new.out.items in
    let more = g.V.Stored.words_of c.args.value in
    let grown = c.write.ensures.written in
    let raw = c.self.inside.pages.items in
    let held = c.self.invariant.1 in
    let at = subst (λ (ps : List (List (Entry g.row.V.Denot))). IsInPage ps c.args.key c.args.page c.args.place) (sym (ap (λ s. s.pages) c.self.view_is)) c.requires.there in
    let within : c.args.page < length raw = omega (arith, at.page_within, as_many said most words raw) in
    let none : more ≡ [] = no_words more (omega (arith, c.write.ensures.few, c.requires.no_words)) in
    let says = ap (said c.brief.result) (sym none) ∙ ap (λ b. said b more) c.brief.ensures ∙ g.met.V.Stored.same c.args.value in
    let new = c.set.new.self in
    let seen = seen_now said most words now more grown raw held.each c.args.page c.index_mut.result.now within c.index_mut.ensures.value new in
    let here = entries_so said most words now more grown raw held.each c.args.page c.index_mut.result.now within c.index_mut.ensures.value c.args.place c.brief.result c.args.key c.args.value c.requires.no_words at.place_within at.key_there says new c.set.ensures in
    ap all_of seen ∙ ap (λ es. all_of (set (seen_pages said words raw) c.args.page es)) here ∙ sym (at.written c.args.value) ∙ ap (λ s. put key_cmp c.args.key c.args.value (all_of s.pages)) c.self.view_is
