use Rattle.std.proofs.Common.{◌≡◌, ◌<◌, ◌∙◌, ap, sym, length, arith}
use Rattle.std.specs.declared.cmp.Ordering.TheVariants.{Equal}
use Rattle.std.specs.List.{HoldsAt}
use Rattle.std.proofs.lemmas.List.{length-map}
use Rattle.terms.specs.Key.{key_cmp}
use Rattle.maps.specs.Marks.{entries_in, entry_of}
use Rattle.maps.specs.Paged.{Entry}
use Rattle.maps.specs.PlaceOrder.{keys_total, same_key}
use Rattle.maps.proofs.Places.{found, written}
use Rattle.maps.proofs.page.Page.has_at.Goals as goal

pub returns-in-Equal : goal.returns-in-Equal
returns-in-Equal g c true-here =
    let es = entries_in g.V.Stored.said c.args.words.now c.args.self.now in
    let count = length-map c.args.self.now.1 (entry_of g.V.Stored.said c.args.words.now) in
    let within : c.args.place < length es = omega (arith, count, c.if-place-len.false, c.len.ensures, ap (λ p. length p.1) c.self.view_is) in
    let here : HoldsAt (λ (e : Entry g.row.V.Denot). key_cmp e.0 c.args.key.now ≡ Equal) es c.args.place = λ d. sym (ap (λ k. key_cmp k c.args.key.now) (c.key.ensures d)) ∙ sym c.in-Equal.ensures.order in
    record {
      within = within;
      key_there = λ other. same_key _ _ (here other);
      found = λ other. found keys_total es c.args.key.now c.args.place other c.requires.sorted within here;
      written_there = λ value. written keys_total same_key es c.args.key.now c.args.place value c.requires.sorted within here;
    }
