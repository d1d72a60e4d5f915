use Rattle.std.proofs.Common.{◌∙◌, ap, sym}
use Rattle.maps.specs.Marks.{entry_of}
use Rattle.maps.proofs.Entered.{mark_held, mark_read}
use Rattle.maps.proofs.page.Page.entry.Goals as goal

pub key-requires : goal.key-requires
key-requires g c = mark_held g.V.Stored.MOST c.args.words.now c.self.inside.marks.items c.args.self.now.1 c.args.place c.index.result.now (ap (λ p. p.1) c.self.view_is) c.index.ensures c.requires.place c.requires.page.within

pub value-requires : goal.value-requires
value-requires g c = mark_held g.V.Stored.MOST c.args.words.now c.self.inside.marks.items c.args.self.now.1 c.args.place c.index.result.now (ap (λ p. p.1) c.self.view_is) c.index.ensures c.requires.place c.requires.page.within

pub returns : goal.returns
returns g c = λ other.
    let read = mark_read (entry_of g.V.Stored.said c.args.words.now) c.self.inside.marks.items c.args.self.now.1 c.args.place c.index.result.now other (ap (λ p. p.1) c.self.view_is) c.index.ensures c.requires.place in
    (λ i. (c.key.ensures i, c.value.ensures i)) ∙ sym read
